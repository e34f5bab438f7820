-- What contracts see of a master after these deeds, by looking back over them.
use Rattle.std.specs.Prelude.{ℕ, ◌-◌, ◌*◌, Bool, true, false, List, [], Option, unwrap_or}
use Rattle.fsoe_base.specs.declared.command.State.{State}
use Rattle.fsoe_base.specs.declared.command.State.TheVariants as state
use Rattle.seq_chain.specs.declared.chain.Chain.{Chain}
use Rattle.seq_chain.specs.declared.session.Session.{Session}
use Rattle.param_load.specs.declared.master_settings.MasterSettings.{MasterSettings}
use Rattle.end_model.specs.Setup.{OfMaster, piece_len}
use Rattle.end_model.specs.Deed.{Deed}
use Rattle.end_model.specs.Chain.{since, own, kept, own_link, taken_link}
use Rattle.end_model.specs.Payloads.{nonce, id_sent, pay, count_in, terms}
use Rattle.end_model.specs.Readiness.{state_of, offer, held, ticks}
use Rattle.end_model.specs.Outputs.{outputs}
use Rattle.master_core.specs.declared.phase.Phase.{Phase}
use Rattle.master_core.specs.declared.phase.Phase.TheVariants as phase
use Rattle.master_core.specs.declared.states.Exchange.{Exchange}
use Rattle.master_core.specs.Kit.{KitView}
use Rattle.master_core.specs.MasterView.{MasterView}
use Rattle.master_core.specs.Now.{at_rest}
use Rattle.master_core.specs.States.{no_session}

-- the offer, the hold and the nonce outlast sessions
abbrev pub kit_of : MasterSettings → List Deed → KitView
kit_of ms e = record { settings = ms; offer = record { load = offer (OfMaster ms) e; held = held e }; nonce = nonce (OfMaster ms) e }

-- what a master notes of its session: the frames of a phase are those that it sent
pub record Notes : Type 0 where
  pub chain : Chain
  pub kept : Option (List ℕ)
  pub id : Option ℕ
  pub session : ℕ
  pub connection : ℕ
  pub parameter : ℕ
  pub outputs : List ℕ

-- the notes after these deeds: the chain, the frame taken last, the session id, the frames of each phase, and the
-- outputs
abbrev pub notes_of : MasterSettings → List Deed → Notes
notes_of ms e = record {
  chain = record { own = own_link (OfMaster ms) (since e); taken = taken_link (OfMaster ms) (since e) };
  kept = kept (since e);
  id = id_sent (OfMaster ms) e;
  session = count_in state.Session (own (since e));
  connection = count_in state.Connection (own (since e));
  parameter = count_in state.Parameter (own (since e));
  outputs = outputs (OfMaster ms) e;
}

-- the session that is noted
abbrev pub session_of : Notes → Session
session_of n = record { chain = n.chain; last = unwrap_or n.kept [] }

-- a phase with this payload of which so many frames were sent: the piece of the last one is in turn
abbrev pub exchange_of : MasterSettings → Notes → List ℕ → Bool → ℕ → Exchange
exchange_of ms n payload echo count = record {
  session = session_of n;
  download = record { payload = payload; piece = piece_len (OfMaster ms); echo = echo; from = (count - 1) * piece_len (OfMaster ms) };
}

-- the phase in each state, by what is noted
abbrev pub phase_in : State → MasterSettings → Notes → Phase
phase_in state.Reset ms n = phase.Reset no_session
phase_in state.Session ms n = phase.Session (exchange_of ms n (pay ms (unwrap_or n.id 0) state.Session) false n.session)
phase_in state.Connection ms n = phase.Connection (exchange_of ms n (pay ms 0 state.Connection) true n.connection)
phase_in state.Parameter ms n = phase.Parameter (exchange_of ms n (pay ms 0 state.Parameter) true n.parameter)
phase_in state.Data ms n = phase.Data (record { session = session_of n; terms = terms (OfMaster ms) []; outputs = n.outputs })

-- a master in this state after these deeds
abbrev pub view_in : State → MasterSettings → List Deed → MasterView
view_in p ms e = record { kit = kit_of ms e; state = at_rest (phase_in p ms (notes_of ms e)); timer = record { limit = ms.watchdog; age = ticks (OfMaster ms) e } }

-- a master after these deeds
abbrev pub view_of : MasterSettings → List Deed → MasterView
view_of ms e = view_in (state_of (OfMaster ms) e) ms e
