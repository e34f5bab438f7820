-- What contracts see of a slave after these deeds, by looking back over them.
use Rattle.std.specs.Prelude.{ℕ, List, [], Option, unwrap_or}
use Rattle.fsoe_base.specs.declared.command.State.{State}
use Rattle.fsoe_base.specs.declared.command.State.TheVariants as state
use Rattle.seq_chain.specs.declared.chain.Chain.{Chain}
use Rattle.seq_chain.specs.declared.session.Session.{Session}
use Rattle.param_load.specs.declared.contents.Expected.{Expected}
use Rattle.param_load.specs.declared.contents.Expected.TheVariants as expected
use Rattle.param_load.specs.declared.slave_settings.SlaveSettings.{SlaveSettings}
use Rattle.param_load.specs.declared.terms.Terms.{Terms}
use Rattle.param_load.specs.AppRule.{rule_len}
use Rattle.param_load.specs.UploadView.{UploadView}
use Rattle.end_model.specs.Setup.{OfSlave, piece_len}
use Rattle.end_model.specs.Deed.{Deed}
use Rattle.end_model.specs.Chain.{since, kept, own_link, taken_link}
use Rattle.end_model.specs.Payloads.{nonce, id_sent, slave_conn, uploaded, terms}
use Rattle.end_model.specs.Readiness.{state_of, offer, held, ticks, slave_age, limit}
use Rattle.end_model.specs.Outputs.{outputs}
use Rattle.slave_core.specs.declared.phase.Phase.{Phase}
use Rattle.slave_core.specs.declared.phase.Phase.TheVariants as phase
use Rattle.slave_core.specs.Kit.{KitView}
use Rattle.slave_core.specs.SlaveView.{SlaveView}
use Rattle.slave_core.specs.States.{no_session}

-- the offer, the hold and the nonce outlast sessions
abbrev pub kit_of : SlaveSettings → List Deed → KitView
kit_of ss e = record { settings = ss; offer = record { load = offer (OfSlave ss) e; held = held e }; nonce = nonce (OfSlave ss) e }

-- what a slave notes of its session
pub record Notes : Type 0 where
  pub chain : Chain
  pub kept : Option (List ℕ)
  pub id : Option ℕ
  pub conn : Option ℕ
  pub session : List ℕ
  pub connection : List ℕ
  pub parameter : List ℕ
  pub terms : Terms
  pub outputs : List ℕ

-- the notes after these deeds: the chain, the frame taken last, both ids, the joined bytes of each phase, the terms and
-- the outputs
abbrev pub notes_of : SlaveSettings → List Deed → Notes
notes_of ss e = record {
  chain = record { own = own_link (OfSlave ss) (since e); taken = taken_link (OfSlave ss) (since e) };
  kept = kept (since e);
  id = id_sent (OfSlave ss) e;
  conn = slave_conn ss e;
  session = uploaded ss state.Session e;
  connection = uploaded ss state.Connection e;
  parameter = uploaded ss state.Parameter e;
  terms = terms (OfSlave ss) e;
  outputs = outputs (OfSlave ss) e;
}

-- an upload of which these bytes were joined
abbrev pub upload_of : SlaveSettings → Expected → List ℕ → UploadView
upload_of ss expects joined = record { expected = expects; piece = piece_len (OfSlave ss); joined = joined }

-- the session that is noted
abbrev pub session_of : Notes → Session
session_of n = record { chain = n.chain; last = unwrap_or n.kept [] }

-- the machine's state in each state, by what is noted
abbrev pub phase_in : State → SlaveSettings → Notes → Phase
phase_in state.Reset ss n = phase.Reset no_session
phase_in state.Session ss n = phase.Session (record { session = session_of n; id = unwrap_or n.id 0; upload = upload_of ss (expected.Session ss.profile) n.session })
phase_in state.Connection ss n = phase.Connection (record {
  session = session_of n;
  conn = unwrap_or n.conn 0;
  upload = upload_of ss (expected.Connection (unwrap_or n.conn 0) ss.address) n.connection;
})
phase_in state.Parameter ss n = phase.Parameter (record {
  session = session_of n;
  conn = unwrap_or n.conn 0;
  upload = upload_of ss (expected.Parameter ss.most (rule_len ss.rule) ss.profile) n.parameter;
})
phase_in state.Data ss n = phase.Data (record { session = session_of n; terms = n.terms; outputs = n.outputs })

-- a slave in this state after these deeds
abbrev pub view_in : State → SlaveSettings → List Deed → SlaveView
view_in p ss e = record {
  kit = kit_of ss e;
  state = phase_in p ss (notes_of ss e);
  timer = record { limit = limit (OfSlave ss) e; age = slave_age p (ticks (OfSlave ss) e) };
}

-- a slave after these deeds
abbrev pub view_of : SlaveSettings → List Deed → SlaveView
view_of ss e = view_in (state_of (OfSlave ss) e) ss e
