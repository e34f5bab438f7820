-- What the calls mean that make a controller, and by which numbers they answer.
use Rattle.std.specs.Prelude.{◌≡◌, ℕ, nat_le, nat_lt, ◌&&◌, false, true, List, [], ◌∷◌, ◌++◌, length, map, Option, Some, None, if◌then◌else◌}
use Rattle.std.specs.Option.{option_map_or}
use Rattle.fsoe_base.specs.Did.{nothing}
use Rattle.fb_lib.specs.declared.kind.BlockKind.{BlockKind}
use Rattle.fb_lib.specs.declared.kind.BlockKind.TheVariants as kind
use Rattle.fb_lib.specs.Kind.{most_inputs}
use Rattle.fb_net.specs.declared.fault.NetFault.{NetFault}
use Rattle.fb_net.specs.declared.fault.NetFault.TheVariants as net_fault
use Rattle.fb_net.specs.BlockSpec.{BlockSpec}
use Rattle.fb_net.specs.Fault as of_net
use Rattle.fb_net.specs.NetView.{NetView, new_net}
use Rattle.fb_net.specs.New.{IsNew}
use Rattle.fb_net.specs.Standing.{IsNewNet}
use Rattle.param_load.specs.declared.master_settings.MasterSettings.{MasterSettings}
use Rattle.multi_master.specs.Calls.{ChangeApp}
use Rattle.multi_master.specs.New.{ids_fault}
use Rattle.multi_master.specs.declared.fault.NewFault.{NewFault}
use Rattle.multi_master.specs.declared.fault.NewFault.TheVariants as new_fault
use Rattle.multi_master.specs.Standing.{Follows, StandsFor, links, settings_of}
use Rattle.c_values.specs.Settings.{IsMasterSetBy, first_refusal, master_refusal}
use Rattle.c_values.specs.declared.numbers.TheConstants.{OK, BAD_APP}
use Rattle.c_values.specs.declared.settings.GpMasterSettings.{GpMasterSettings}
use Rattle.controller_c.specs.ControllerView.{ControllerView, app_of_net, input_lens, masters_of, output_lens}
use Rattle.controller_c.specs.Counts.{CountsStand}
use Rattle.controller_c.specs.Wire.{fault_place, wire_of}
use Rattle.controller_c.specs.declared.counts.GpCounts.{GpCounts}
use Rattle.controller_c.specs.declared.numbers.TheConstants.{NO_MEMORY, RUNNING, TOO_MANY, SAME_CONN, BAD_KIND, ARITY, LATER, NO_INPUT, NO_OUTPUT, TWICE}
use Rattle.controller_c.specs.declared.wire.GpFault.{GpFault}
use Rattle.controller_c.specs.declared.wire.GpWire.{GpWire}

-- the kinds of blocks by their numbers
abbrev pub kind_number : BlockKind → ℕ
kind_number kind.Const0 = 0
kind_number kind.Const1 = 1
kind_number kind.And = 2
kind_number kind.Or = 3
kind_number kind.Latch = 4
kind_number kind.Estop = 5
kind_number kind.TwoHand = 6
kind_number kind.OnDelay = 7
kind_number kind.OffDelay = 8
kind_number kind.Feedback = 9

abbrev pub highest_kind : ℕ
highest_kind = kind_number kind.Feedback

-- the number of why a connection is refused, or not
abbrev pub connection_number : Option NewFault → ℕ
connection_number None = OK
connection_number (Some new_fault.TooMany) = TOO_MANY
connection_number (Some (new_fault.SameConn a b)) = SAME_CONN
connection_number (Some new_fault.Memory) = NO_MEMORY

-- the number of why a net is refused, or not
abbrev pub net_number : Option NetFault → ℕ
net_number None = OK
net_number (Some (net_fault.Arity block)) = ARITY
net_number (Some (net_fault.Later block)) = LATER
net_number (Some (net_fault.NoInput bit)) = NO_INPUT
net_number (Some (net_fault.NoOutput bit)) = NO_OUTPUT
net_number (Some (net_fault.Twice bit)) = TWICE
net_number (Some net_fault.Memory) = NO_MEMORY

-- the answer of a call that wants a controller that doesn't run
abbrev pub if_idle : ControllerView → ℕ → ℕ
if_idle old answer = if old.running then RUNNING else answer

-- the fault of one more connection with this connection id
abbrev pub fault_with : ControllerView → ℕ → Option NewFault
fault_with old conn = ids_fault (map (λ s. s.conn) (settings_of old.multi) ++ conn ∷ [])

-- whether a connection, a block, a drive or a start is refused, but for no memory
abbrev pub connect_answer : GpMasterSettings → List ℕ → ControllerView → ℕ
connect_answer set app old = if_idle old (if nat_le (length app) 512 then first_refusal (master_refusal set) (connection_number (fault_with old set.conn)) else BAD_APP)

abbrev pub block_answer : (kind inputs : ℕ) → ControllerView → ℕ
block_answer kind inputs old = if_idle old (if nat_lt (length old.blocks) 256 && nat_le inputs most_inputs then (if nat_le kind highest_kind then OK else BAD_KIND) else TOO_MANY)

abbrev pub drive_answer : ControllerView → ℕ
drive_answer old = if_idle old (if nat_lt (length old.drives) 1024 then OK else TOO_MANY)

-- the net of the blocks and drives that were given
abbrev pub given_net : ControllerView → NetView
given_net c = new_net c.blocks c.drives

-- its first fault, by the safe data of the connections
abbrev pub given_fault : ControllerView → Option NetFault
given_fault c = of_net.first_fault (input_lens c) (output_lens c) c.blocks c.drives

abbrev pub start_answer : ControllerView → ℕ
start_answer old = if_idle old (net_number (given_fault old))

-- what is told then of where a fault is: that of the first one, or what was there before
abbrev pub told_place : GpFault → ControllerView → GpFault
told_place was old = if old.running then was else option_map_or fault_place (given_fault old) was

-- a controller of no connection and no block, which doesn't run
abbrev pub empty_controller : ControllerView
empty_controller = record { multi = record { masters = []; app = new_net [] []; inputs = []; changed = [] }; blocks = []; drives = []; running = false; dids = []; frames = []; counts = [] }

-- a connection with these settings is added, the last one, whose counts are those of no step, and which did and sent
-- nothing yet
pub record Connects (own : MasterSettings) (old new : ControllerView) : Type 0 where
  pub settings : settings_of new.multi ≡ settings_of old.multi ++ own ∷ []
  pub app : new.multi.app ≡ old.multi.app
  pub counted : GpCounts
  pub uncounted : CountsStand counted []
  pub counts : new.counts ≡ old.counts ++ counted ∷ []
  pub dids : new.dids ≡ old.dids ++ nothing ∷ []
  pub frames : new.frames ≡ old.frames ++ [] ∷ []
  pub rest : new ≡ record old { multi = new.multi; dids = new.dids; frames = new.frames; counts = new.counts }

-- so by what C code set, and the number of the connection is told
pub record ConnectsBy (set : GpMasterSettings) (app : List ℕ) (number : ℕ) (old new : ControllerView) : Type 0 where
  pub own : MasterSettings
  pub set_so : IsMasterSetBy set app own
  pub connects : Connects own old new
  pub number_is : number ≡ links new.multi

-- a block is added, the last one, that was made of this and had no cycle yet, and its number is told
pub record AddsBlock (of_kind n : ℕ) (inputs : List GpWire) (number : ℕ) (old new : ControllerView) : Type 0 where
  pub block : BlockSpec
  pub is_new : IsNew block
  pub kind_is : kind_number block.block.kind ≡ of_kind
  pub n_is : block.block.n ≡ n
  pub inputs_are : block.ins ≡ map wire_of inputs
  pub added : new ≡ record old { blocks = old.blocks ++ block ∷ [] }
  pub number_is : number ≡ length new.blocks

-- the given net runs, and had its first cycle: that is all that happened to the masters
pub record Starts (old new : ControllerView) : Type 0 where
  pub net_is_new : IsNewNet (given_net old)
  pub follows : Follows (masters_of old.multi) (ChangeApp (app_of_net (given_net old))) (masters_of new.multi)
  pub stands : StandsFor (settings_of old.multi) (app_of_net old.multi.app) (masters_of new.multi) (ChangeApp (app_of_net (given_net old)) ∷ [])
  pub settings : settings_of new.multi ≡ settings_of old.multi
  pub rest : new ≡ record old { multi = new.multi; blocks = []; drives = []; running = true }
