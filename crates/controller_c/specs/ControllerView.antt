-- What contracts see of a controller.
use Rattle.std.specs.Prelude.{◌≡◌, ◌≤◌, ℕ, Bool, false, List, [], length, map}
use Rattle.std.specs.List.{All}
use Rattle.fsoe_base.specs.declared.did.Did.{Did}
use Rattle.fb_net.specs.BlockSpec.{BlockSpec}
use Rattle.fb_net.specs.declared.spec.Drive.{Drive}
use Rattle.fb_net.specs.Meaning.{rule_of, net_holds, guards_of}
use Rattle.fb_net.specs.NetView.{NetView}
use Rattle.fb_net.specs.New.{IsNew}
use Rattle.multi_master.specs.Calls.{AppView, app_view}
use Rattle.multi_master.specs.Standing.{MultiValue, MultiView, StandsFor, links, seen, settings_of}
use Rattle.controller_c.specs.declared.counts.GpCounts.{GpCounts}

-- the masters with the net that runs, the blocks and drives that were given for the net that is to run, whether the
-- controller runs, what each connection did and sent at the last tick, and what it did by its counts
pub record ControllerView : Type 0 where
  pub multi : MultiValue NetView
  pub blocks : List BlockSpec
  pub drives : List Drive
  pub running : Bool
  pub dids : List Did
  pub frames : List (List ℕ)
  pub counts : List GpCounts

-- the masters, with the net as an application
abbrev pub masters_of : MultiValue NetView → MultiView
masters_of = seen rule_of net_holds guards_of

-- the lengths of what the connections receive, and of what they send
abbrev pub input_lens : ControllerView → List ℕ
input_lens c = map (λ s. s.lengths.slave) (settings_of c.multi)

abbrev pub output_lens : ControllerView → List ℕ
output_lens c = map (λ s. s.lengths.master) (settings_of c.multi)

-- a net as an application
abbrev pub app_of_net : NetView → AppView
app_of_net = app_view rule_of net_holds guards_of

-- there is a result of a tick and there are counts for each connection, blocks and drives are those of a net, and as long
-- as the controller doesn't run, no connection did anything
pub record IsController (multi : MultiValue NetView) (blocks : List BlockSpec) (drives : List Drive) (running : Bool) (dids : List Did) (frames : List (List ℕ)) (counts : List GpCounts) : Type 0 where
  pub dids_fit : length dids ≡ links multi
  pub frames_fit : length frames ≡ links multi
  pub counts_fit : length counts ≡ links multi
  pub few_blocks : length blocks ≤ 256
  pub new_blocks : All IsNew blocks
  pub few_drives : length drives ≤ 1024
  pub unbegun : running ≡ false → StandsFor (settings_of multi) (app_of_net multi.app) (masters_of multi) []
