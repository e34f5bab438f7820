-- What holds of a slave in each state, after every run.
use Rattle.slave_core.proofs.Common.{Deed, Notes, OfSlave, SlaveSettings, State, count_in, fresh, limit, notes_of, number_at, offer, piece_len, since, state_of, terms_in, ticks}
use Rattle.end_model.specs.Chain.{taken}
use Rattle.std.proofs.Common.{◌≡◌, ◌≢◌, ℕ, ◌*◌, ◌<◌, ◌≤◌, List, [], length, replicate, Some, None, unwrap_or}
use Rattle.fsoe_base.specs.declared.command.State.TheVariants as state

-- the Session frames that were taken in this session
abbrev pub count_of : List Deed → ℕ
count_of e = count_in state.Session (taken (since e))

abbrev pub no_notes : SlaveSettings → Notes
no_notes ss = record {
  chain = fresh;
  kept = None;
  id = None;
  conn = None;
  session = [];
  connection = [];
  parameter = [];
  terms = terms_in ss.profile [] [];
  outputs = replicate ss.lengths.master 0;
}

pub record OfSession (ss : SlaveSettings) (count : ℕ) (n : Notes) : Type 0 where
  pub kept_is : n.kept ≡ Some (unwrap_or n.kept [])
  pub id_is : n.id ≡ Some (unwrap_or n.id 0)
  pub no_conn : n.conn ≡ None
  pub count_is : length n.session ≡ count * piece_len (OfSlave ss)
  pub no_connection : n.connection ≡ []
  pub no_parameter : n.parameter ≡ []

pub record OfConnection (ss : SlaveSettings) (n : Notes) : Type 0 where
  pub kept_is : n.kept ≡ Some (unwrap_or n.kept [])
  pub conn_is : n.conn ≡ Some (unwrap_or n.conn 0)
  pub conn_said : 2 ≤ length n.connection → number_at 0 n.connection ≡ unwrap_or n.conn 0
  pub address_said : 4 ≤ length n.connection → number_at 2 n.connection ≡ ss.address
  pub no_parameter : n.parameter ≡ []

pub record OfParameters (ss : SlaveSettings) (n : Notes) : Type 0 where
  pub kept_is : n.kept ≡ Some (unwrap_or n.kept [])
  pub conn_is : n.conn ≡ Some (unwrap_or n.conn 0)
  pub conn_said : number_at 0 n.connection ≡ unwrap_or n.conn 0
  pub address_said : number_at 2 n.connection ≡ ss.address

-- what a session left in each state: nothing in Reset
abbrev pub SoundIn : State → SlaveSettings → ℕ → Notes → Type 0
SoundIn state.Reset ss count n = (count ≡ 0) × (n ≡ no_notes ss)
SoundIn state.Session ss count n = OfSession ss count n
SoundIn state.Connection ss count n = OfConnection ss n
SoundIn state.Parameter ss count n = OfParameters ss n
SoundIn state.Data ss count n = OfParameters ss n

abbrev pub SoundAt : State → SlaveSettings → List Deed → Type 0
SoundAt p ss e = SoundIn p ss (count_of e) (notes_of ss e)

pub record Sound (ss : SlaveSettings) (e : List Deed) : Type 0 where
  pub in_state : SoundAt (state_of (OfSlave ss) e) ss e
  pub offer_len : length (offer (OfSlave ss) e) ≡ ss.lengths.slave
  pub young : state_of (OfSlave ss) e ≢ state.Reset → ticks (OfSlave ss) e < limit (OfSlave ss) e
