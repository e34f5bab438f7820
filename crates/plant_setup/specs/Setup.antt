-- By which fault a configuration can't be run, and what its plant is else set up with.
use Rattle.std.specs.Prelude.{◌≡◌, ℕ, Bool, true, false, not, List, [], ◌∷◌, map, codes, Option, Some, None, option_map, is_some, if◌then◌else◌}
use Rattle.std.specs.Option.{option_or}
use Rattle.std.specs.Str.{bytes_eq}
use Rattle.fsoe_base.specs.LengthsOf.{length_of}
use Rattle.fsoe_base.specs.declared.command.End.{End}
use Rattle.fsoe_base.specs.declared.command.End.TheVariants as side
use Rattle.failsafe_io.specs.Bits.{has_bit}
use Rattle.fb_net.specs.Fault.{first_fault}
use Rattle.fb_net.specs.NetView.{NetView, new_net}
use Rattle.fb_net.specs.declared.fault.NetFault.{NetFault}
use Rattle.fb_net.specs.declared.fault.NetFault.TheVariants as net_fault
use Rattle.plant_conf.specs.ConfView.{ConfView}
use Rattle.plant_conf.specs.declared.conf.BoundSpec.{BoundSpec}
use Rattle.plant_conf.specs.declared.conf.LinkConf.{LinkConf}
use Rattle.plant_setup.specs.Names.{name_place, IsTaken}
use Rattle.plant_setup.specs.declared.fault.SetupFault.{SetupFault}
use Rattle.plant_setup.specs.declared.fault.SetupFault.TheVariants as setup

-- how many bytes this end of each connection sends. The inputs of a net are what the slaves send, its outputs what the
-- masters send
abbrev pub end_lengths : End → List LinkConf → List ℕ
end_lengths end links = map (λ link. length_of link.master.lengths end) links

-- a bound names a bit that no image has: first its input bit, then its output bit
abbrev pub bound_fault : List ℕ → List ℕ → BoundSpec → Option NetFault
bound_fault ins outs b =
    if not (has_bit ins b.estop) then Some (net_fault.NoInput b.estop)
    else if not (has_bit outs b.drive) then Some (net_fault.NoOutput b.drive)
    else None

-- the first of these that does
abbrev pub bounds_fault : List ℕ → List ℕ → List BoundSpec → Option NetFault
bounds_fault ins outs [] = None
bounds_fault ins outs (b ∷ bounds) = option_or (bound_fault ins outs b) (bounds_fault ins outs bounds)

-- the first fault of the net of a configuration, or else of its bounds. The net is looked at even where another
-- application runs
abbrev pub bits_fault : ConfView → Option NetFault
bits_fault conf =
    let ins = end_lengths side.Slave conf.links in
    let outs = end_lengths side.Master conf.links in
    option_or (first_fault ins outs conf.blocks conf.drives) (bounds_fault ins outs conf.bounds)

-- an application of this name is the net of the configuration
abbrev pub is_net : List ℕ → Bool
is_net app = bytes_eq app (codes "net")

-- something has the name, or else this fault
abbrev pub unless_named : List ℕ → List (List ℕ) → SetupFault → Option SetupFault
unless_named name names why = if is_some (name_place name names) then None else Some why

-- no application has the name that is to run
abbrev pub app_name_fault : List ℕ → List (List ℕ) → Option SetupFault
app_name_fault app apps = if is_net app then None else unless_named app apps setup.NoApp

-- the first fault by which a configuration can't be run with applications and channels of these names
abbrev pub setup_fault : ConfView → List (List ℕ) → List (List ℕ) → Option SetupFault
setup_fault conf apps channels =
    option_or (option_map setup.Net (bits_fault conf))
    (option_or (app_name_fault conf.app apps) (unless_named conf.channel channels setup.NoChannel))

-- the net of a configuration, of which no cycle has run
abbrev pub net_of : ConfView → NetView
net_of conf = new_net conf.blocks conf.drives

-- an application that is the net leaves all others; one that isn't is the first of its name, and leaves the others
abbrev pub ChosenBy : {X : Type 0} → Bool → (X → List ℕ) → List ℕ → List X → List X → Type 0 → (X → Type 0) → Type 0
ChosenBy true name_of app all left IsNet IsOne = IsNet × (left ≡ all)
ChosenBy {X} false name_of app all left IsNet IsOne = (one : X) × IsTaken name_of app all one left × IsOne one

-- what runs under this name was chosen: of all applications these are left, and it is the net, or else the first of its
-- name
abbrev pub IsChosen : {X : Type 0} → (X → List ℕ) → List ℕ → List X → List X → Type 0 → (X → Type 0) → Type 0
IsChosen name_of app all left IsNet IsOne = ChosenBy (is_net app) name_of app all left IsNet IsOne
