-- What holds of a master in each state, after every run.
use Rattle.master_core.proofs.Common.{Deed, MasterSettings, Notes, OfMaster, State, fresh, notes_of, offer, state_of, ticks}
use Rattle.std.proofs.Common.{◌≡◌, ◌<◌, List, [], length, replicate, Some, None, unwrap_or}
use Rattle.fsoe_base.specs.declared.command.State.TheVariants as state

abbrev pub no_notes : MasterSettings → Notes
no_notes ms = record { chain = fresh; kept = None; id = None; session = 0; connection = 0; parameter = 0; outputs = replicate ms.lengths.slave 0 }

pub record OfSession (ms : MasterSettings) (n : Notes) : Type 0 where
  pub kept_is : n.kept ≡ Some (unwrap_or n.kept [])
  pub id_is : n.id ≡ Some (unwrap_or n.id 0)
  pub some : 0 < n.session
  pub no_connection : n.connection ≡ 0
  pub no_parameter : n.parameter ≡ 0

pub record OfConnection (ms : MasterSettings) (n : Notes) : Type 0 where
  pub kept_is : n.kept ≡ Some (unwrap_or n.kept [])
  pub some : 0 < n.connection
  pub no_parameter : n.parameter ≡ 0

pub record OfParameter (ms : MasterSettings) (n : Notes) : Type 0 where
  pub kept_is : n.kept ≡ Some (unwrap_or n.kept [])
  pub some : 0 < n.parameter

-- what a session left in each state: nothing in Reset
abbrev pub SoundIn : State → MasterSettings → Notes → Type 0
SoundIn state.Reset ms n = n ≡ no_notes ms
SoundIn state.Session ms n = OfSession ms n
SoundIn state.Connection ms n = OfConnection ms n
SoundIn state.Parameter ms n = OfParameter ms n
SoundIn state.Data ms n = n.kept ≡ Some (unwrap_or n.kept [])

abbrev pub SoundAt : State → MasterSettings → List Deed → Type 0
SoundAt p ms e = SoundIn p ms (notes_of ms e)

pub record Sound (ms : MasterSettings) (e : List Deed) : Type 0 where
  pub in_state : SoundAt (state_of (OfMaster ms) e) ms e
  pub offer_len : length (offer (OfMaster ms) e) ≡ ms.lengths.master
  pub young : ticks (OfMaster ms) e < ms.watchdog
