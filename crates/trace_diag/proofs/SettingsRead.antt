-- The settings that are read off a trace to which no row of the table applies: there are such settings, and the bytes
-- of its payloads are theirs.
use Rattle.trace_diag.proofs.Common.{Accepts, AreBytes, AreOfBytes, AreReadOff, End, Lengths, MasterSettings, Noted, Partner, SlaveSettings, State, connection_from, connection_payload, eq-eqb, first_conn, frames_from, get_or_append_left, le-leb, length-append, parameter_holds, parameter_payload, parameters_from, partner, payload_from, phase_of_frame, read_address, read_app, read_app_len, read_conn, read_id, read_watchdog, same_end, same_phase, session_payload, word_or}
use Rattle.std.proofs.Common.{◌≡◌, ℕ, ◌<◌, ◌≤◌, ◌∙◌, nat_le, List, ◌∷◌, ◌++◌, length, Bool, true, if◌then◌else◌, Option, Some, None, unwrap_or, refl, sym, ap, subst, arith, rules}
use Rattle.fsoe_base.specs.declared.command.End.TheVariants as end_name
use Rattle.fsoe_base.specs.declared.command.State.TheVariants as state
use Rattle.param_load.specs.declared.app_rule.AppRule.TheVariants as rule
use Rattle.param_load.specs.declared.profile.Profile.TheVariants as profile
use Rattle.trace_diag.proofs.NoneApplies.{at}
use Rattle.trace_diag.proofs.PayloadBytes.{conn_stays, payload_bytes, payload_grows, AllLong}
use Rattle.trace_diag.proofs.PayloadRows.{AllAt}
use Rattle.trace_diag.proofs.ReadBytes.{app_long, connection_read, id_read, parameters_read}
use Rattle.trace_diag.proofs.RowsHold.{RowsHold}
use Rattle.trace_diag.proofs.SentRows.{payload_of, CarriesOwn, IsPlain}

pub word_most : (missing i : ℕ) (u : List ℕ) → AreBytes u → missing < 256 → word_or missing i u ≤ 65535
word_most missing i u h k = grind arith

-- the watchdog isn't 0
watchdog-some : (u : List ℕ) → AllAt (parameter_holds u) u → 0 < word_or 1 2 u
watchdog-some u h = grind arith

-- the application parameters are at most 512
app-most : (u : List ℕ) → AreBytes u → AllAt (parameter_holds u) u → word_or 0 4 u ≤ 512
app-most u h k = grind arith

conn-some : (o : Option ℕ) → ((conn : ℕ) → o ≡ Some conn → 0 < conn) → 0 < unwrap_or o 1
conn-some o h = grind arith

-- bytes that came of a payload
abbrev pub BeginsAs : List ℕ → List ℕ → Type 0
BeginsAs u p = (i : ℕ) → i < length u → at u i ≡ at p i

-- the bytes of the payloads of a trace are those of settings
pub record Read (ms : MasterSettings) (r : Partner ms) (t : List Noted) : Type 0 where
  pub session : BeginsAs (payload_from ms.lengths end_name.Master state.Session t) (session_payload ms.nonce ms.profile)
  pub connection : BeginsAs (payload_from ms.lengths end_name.Master state.Connection t) (connection_payload ms.conn ms.address)
  pub parameters : BeginsAs (payload_from ms.lengths end_name.Master state.Parameter t) (parameter_payload ms.watchdog ms.profile ms.app)
  pub slave : BeginsAs (payload_from ms.lengths end_name.Slave state.Session t) (session_payload r.slave.nonce ms.profile)
  pub conn : (conn : ℕ) → first_conn ms.lengths.master (frames_from end_name.Master t) ≡ Some conn → conn ≡ ms.conn

pub payload_read : (ms : MasterSettings) (r : Partner ms) (t : List Noted) → Read ms r t → (which : End) (phase : State) → CarriesOwn which phase → BeginsAs (payload_from ms.lengths which phase t) (payload_of ms r which phase)
payload_read ms r t read which phase own = search rules

-- so were they before the newest frame
began : (a b : Bool) (u part p : List ℕ) → BeginsAs (if a then (if b then u ++ part else u) else u) p → BeginsAs u p
began true true u part p h i k = sym (get_or_append_left u part 0 i k) ∙ h i (omega (arith, k, length-append u part))
began _ _ u part p h i k = h i k

read-back : (lengths : Lengths) (which : End) (phase : State) (x : Noted) (t : List Noted) (p : List ℕ) → BeginsAs (payload_from lengths which phase (x ∷ t)) p → BeginsAs (payload_from lengths which phase t) p
read-back lengths which phase x t p h =
    began (same_end which x.from) (same_phase phase (phase_of_frame x.frame)) (payload_from lengths which phase t) _ p (subst (λ (u : List ℕ). BeginsAs u p) (payload_grows lengths which phase x t) h)

pub read_before : (ms : MasterSettings) (r : Partner ms) (x : Noted) (t : List Noted) → Read ms r (x ∷ t) → Read ms r t
read_before ms r x t read = record {
  session = read-back ms.lengths end_name.Master state.Session x t (session_payload ms.nonce ms.profile) read.session;
  connection = read-back ms.lengths end_name.Master state.Connection x t (connection_payload ms.conn ms.address) read.connection;
  parameters = read-back ms.lengths end_name.Master state.Parameter x t (parameter_payload ms.watchdog ms.profile ms.app) read.parameters;
  slave = read-back ms.lengths end_name.Slave state.Session x t (session_payload r.slave.nonce ms.profile) read.slave;
  conn = λ conn e. read.conn conn (conn_stays conn ms.lengths.master x (frames_from end_name.Master t) (same_end end_name.Master x.from) e);
}

-- settings are there, and the bytes are theirs
pub record Settled (lengths : Lengths) (t : List Noted) : Type 0 where
  pub ms : MasterSettings
  pub r : Partner ms
  pub read_off : AreReadOff lengths t ms (partner ms r)
  pub accepts : Accepts ms r
  pub plain : IsPlain ms
  pub lengths_are : ms.lengths ≡ lengths
  pub read : Read ms r t

connection-bytes : (lengths : Lengths) (t : List Noted) → AreBytes (connection_from lengths t) → RowsHold lengths t → (o : Option ℕ) → first_conn lengths.master (frames_from end_name.Master t) ≡ o → (i : ℕ) → i < length (connection_from lengths t)
    → at (connection_from lengths t) i ≡ at (connection_payload (unwrap_or o 1) (word_or 0 2 (connection_from lengths t))) i
connection-bytes lengths t are rows None e i h = absurd (omega (arith, h, ap (length {A = ℕ}) (rows.unconnected e)))
connection-bytes lengths t are rows (Some conn) e i h = connection_read conn (connection_from lengths t) are (rows.connection conn e).1 i h

conn-unwrapped : (o : Option ℕ) (conn : ℕ) → o ≡ Some conn → conn ≡ unwrap_or o 1
conn-unwrapped o conn e = ap (λ (o : Option ℕ). unwrap_or o 1) (sym e)

-- the settings that are read off
abbrev settings : (lengths : Lengths) (t : List Noted) → 0 < read_conn lengths t → 0 < read_watchdog lengths t → nat_le (read_id lengths end_name.Master t) 65535 ≡ true → MasterSettings
settings lengths t some_conn some_watchdog allowed = record {
  lengths = lengths;
  conn = read_conn lengths t;
  address = read_address lengths t;
  watchdog = read_watchdog lengths t;
  app = read_app lengths t;
  nonce = read_id lengths end_name.Master t;
  profile = profile.One;
  some_conn = some_conn;
  some_watchdog = some_watchdog;
  allowed = allowed;
}

pub settled : (lengths : Lengths) (t : List Noted) → AllLong lengths t → AreOfBytes t → RowsHold lengths t → Settled lengths t
settled lengths t long are rows =
    let p : List ℕ = parameters_from lengths t in
    let p-bytes : AreBytes p = payload_bytes lengths end_name.Master state.Parameter t long are in
    let c-bytes : AreBytes (connection_from lengths t) = payload_bytes lengths end_name.Master state.Connection t long are in
    let m-bytes : AreBytes (payload_from lengths end_name.Master state.Session t) = payload_bytes lengths end_name.Master state.Session t long are in
    let s-bytes : AreBytes (payload_from lengths end_name.Slave state.Session t) = payload_bytes lengths end_name.Slave state.Session t long are in
    let most : read_app_len lengths t ≤ 512 = app-most p p-bytes rows.parameters in
    let ms : MasterSettings = settings lengths t (conn-some (first_conn lengths.master (frames_from end_name.Master t)) (λ conn e. (rows.connection conn e).0)) (watchdog-some p rows.parameters)
    (le-leb (read_id lengths end_name.Master t) 65535 (word_most 0 0 (payload_from lengths end_name.Master state.Session t) m-bytes (omega arith))) in
    let ss : SlaveSettings = record {
      lengths = lengths;
      address = read_address lengths t;
      hand = 65535;
      most = 65535;
      rule = rule.Any (read_app_len lengths t);
      nonce = read_id lengths end_name.Slave t;
      profile = profile.One;
      some_hand = omega arith;
      some_most = omega arith;
      acceptable = le-leb (read_app_len lengths t) 512 most;
      allowed = le-leb (read_id lengths end_name.Slave t) 65535 (word_most 0 0 (payload_from lengths end_name.Slave state.Session t) s-bytes (omega arith));
    } in
    let r : Partner ms = record { slave = ss; allowed = ss.allowed } in
    record {
      ms = ms;
      r = r;
      read_off = record {
        master = record { lengths_are = refl; conn_is = refl; address_is = refl; watchdog_is = refl; app_is = refl; nonce_is = refl; profile_is = refl };
        slave = record { lengths_are = refl; address_is = refl; hand_is = refl; most_is = refl; rule_is = refl; nonce_is = refl; profile_is = refl };
      };
      accepts = record {
        watchdog = word_most 1 2 p p-bytes (omega arith);
        as_many = app_long p;
        allowed = eq-eqb (length (read_app lengths t)) (read_app_len lengths t) (app_long p);
      };
      plain = record { one = refl; most = subst (λ (n : ℕ). n ≤ 512) (sym (app_long p)) most };
      lengths_are = refl;
      read = search (rules, id_read, connection-bytes, parameters_read, conn-unwrapped);
    }
