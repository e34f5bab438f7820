-- What C code is told of a step of a connection, and what a step keeps.
use Rattle.std.specs.Prelude.{◌≡◌, ◌≤◌, ◌-◌, ℕ, List, [], ◌∷◌, map, drop, slice_get, slice_set, IfSome, Some}
use Rattle.fsoe_base.specs.declared.did.Did.{Did}
use Rattle.failsafe_io.specs.Application.{GuardsBy}
use Rattle.param_load.specs.declared.master_settings.MasterSettings.{MasterSettings}
use Rattle.multi_master.specs.Calls.{AppView, Call, Meant, cycle_in, meant}
use Rattle.multi_master.specs.Connection.{connection_outputs, offer_at}
use Rattle.multi_master.specs.Standing.{MultiView, StandsFor, settings_of}
use Rattle.c_values.specs.Told.{ShowsDid, frame_of}
use Rattle.c_values.specs.declared.told.GpDid.{GpDid}
use Rattle.c_values.specs.declared.told.GpFrame.{GpFrame}
use Rattle.controller_c.specs.ControllerView.{ControllerView}
use Rattle.controller_c.specs.Counts.{CountsStand, CountsStep}
use Rattle.controller_c.specs.declared.counts.GpCounts.{GpCounts}

-- the fields and the frame are those of a step of which this holds, and no id is told as used again; what lay behind the
-- data and the frame stays
pub record TellsStep (is_done : Did → List ℕ → Type 0) (was g : GpDid) (had f : GpFrame) : Type 0 where
  pub did : Did
  pub told : ShowsDid g did
  pub unused : g.used ≡ 0
  pub done : is_done did (frame_of f)
  pub len : f.len ≤ 255
  pub past_load : drop g.load_len g.load ≡ drop g.load_len was.load
  pub past_out : drop f.len f.bytes ≡ drop f.len had.bytes

-- the connection with this number did this at the last tick, and sent this
pub record DidAtTick (controller : ControllerView) (connection : ℕ) (did : Did) (sent : List ℕ) : Type 0 where
  pub did_is : slice_get controller.dids (connection - 1) ≡ Some did
  pub sent_is : slice_get controller.frames (connection - 1) ≡ Some sent

-- a step is counted at the connection with this number, and at no other
pub record CountsAt (link : ℕ) (did : Did) (old new : List GpCounts) : Type 0 where
  pub before : GpCounts
  pub after : GpCounts
  pub was : slice_get old (link - 1) ≡ Some before
  pub counted : CountsStep before did after
  pub is : new ≡ slice_set old (link - 1) after

-- the counts of the connection with this number are cleared, and no others
pub record ClearsAt (link : ℕ) (old new : List GpCounts) : Type 0 where
  pub after : GpCounts
  pub none : CountsStand after []
  pub is : new ≡ slice_set old (link - 1) after

-- what is done and sent answers so, and is counted at its connection
pub record AnswersCounted (answers : Did → List ℕ → Type 0) (link : ℕ) (old new : ControllerView) (did : Did) (sent : List ℕ) : Type 0 where
  pub answered : answers did sent
  pub counted : CountsAt link did old.counts new.counts

-- a step leaves the controller so, and its connections with the settings that they had
pub record Leaves (old left new : ControllerView) : Type 0 where
  pub settings : settings_of new.multi ≡ settings_of old.multi
  pub rest : new ≡ left

-- an offer's bit is 0 that the application guards by an input bit that is 0
abbrev pub OffersAreGuarded : Meant → Type 0
OffersAreGuarded m = GuardsBy m.app.guards (map connection_outputs m.connections) (map offer_at m.connections)

-- so it is after this call if it runs a cycle
pub record GuardsOffers (old : MultiView) (call : Call) : Type 0 where
  pub guarded : (settings : List MasterSettings) (app : AppView) (calls : List Call) → StandsFor settings app old calls
      → IfSome (cycle_in call (meant settings app calls)) (λ _. OffersAreGuarded (meant settings app (call ∷ calls)))
