-- What an answer carries by the schedule and by the settings: the data that were put, and the slave's session id.
use Rattle.trace_diag.proofs.Common.{Command, Deed, Entry, MasterSettings, Partner, Setup, begun, count_in, deed_in, frame_of, has_command, held, held_after, id_piece, is_data, is_data_frame, offer, offer_after, padded, partner, piece, piece_frame, piece_in, sealed_next, sealed_frame, sends, session_id, session_payload, since, since_on, slave_of, taken, width}
use Rattle.std.proofs.Common.{◌≡◌, ℕ, List, ◌∷◌, length, replicate, Bool, true, false, Some, sym, ap, ap₂, ◌∙◌, if◌then◌else◌, rules}
use Rattle.fsoe_base.specs.declared.command.Command.TheVariants as command
use Rattle.fsoe_base.specs.declared.command.State.TheVariants as state
use Rattle.trace_diag.proofs.Answering.{answer_data, answer_session, IsDelivery, SendsAnswer}
use Rattle.trace_diag.proofs.Nonces.{session_id_is, LeaveNonce}
use Rattle.trace_diag.proofs.Running.{IsSetFor}

-- the deeds with that of the answer, before it is sent
abbrev begun_with : Entry → List Deed → List Deed
begun_with x e = begun x.what x.did ∷ e

still-held : (s : Setup) (e : List Deed) (x : Entry) → IsDelivery s e x → held (begun_with x e) ≡ held e
still-held s e x d = ap (λ (x : Entry). held_after x.what (held e)) d.is

still-offered : (s : Setup) (e : List Deed) (x : Entry) → IsDelivery s e x → offer s (begun_with x e) ≡ offer s e
still-offered s e x d = ap (λ (x : Entry). offer_after x.what (offer s e)) d.is

-- a data frame has the command that the end was set for, and carries what was put
pub record CarriesSet (l : ℕ) (g : List ℕ) (c : Command) (load : List ℕ) : Type 0 where
  pub has : has_command c g ≡ true
  pub load_is : c ≡ command.ProcessData → (frame_of l g).load ≡ load

no : false ≡ true → ⊥
no e = cc

no-process : command.FailSafeData ≡ command.ProcessData → ⊥
no-process e = cc

pub carries_set : (s : Setup) (e : List Deed) (x : Entry) (c : Command) (load : List ℕ) → IsDelivery s e x → SendsAnswer s e x → IsSetFor s (Some c) load e → is_data c ≡ true → is_data_frame x.sent ≡ true → length load ≡ sends s → CarriesSet (sends s) x.sent c load
carries_set s e x command.FailSafeData load d a set is-data sent long =
    let is : x.sent ≡ sealed_next s (begun_with x e) command.FailSafeData (replicate (sends s) 0) = search (rules, sends, answer_data, still-held) in
    record { has = ap (has_command command.FailSafeData) is; load_is = λ other. absurd (no-process other) }
carries_set s e x command.ProcessData load d a set is-data sent long =
    let offered : offer s (begun_with x e) ≡ load = still-offered s e x d ∙ set.1 in
    let is : x.sent ≡ sealed_next s (begun_with x e) command.ProcessData load =
    a.is
    ∙ (answer_data s (begun_with x e) a.took_what (sym (ap is_data_frame a.is) ∙ sent)
    ∙ ap₂ (λ (t : Bool) (load : List ℕ). if t then sealed_next s (begun_with x e) command.FailSafeData (replicate (sends s) 0) else sealed_next s (begun_with x e) command.ProcessData load) (still-held s e x d ∙ set.0) offered) in
    record {
      has = ap (has_command command.ProcessData) is;
      load_is = λ same. ap (λ (g : List ℕ). (frame_of (sends s) g).load) is ∙ (sealed_frame s (begun_with x e) command.ProcessData load long).carries;
    }
carries_set s e x _ load d a set is-data sent long = absurd (no is-data)

-- a slave's Session frame carries the piece of its session id that is that of its settings
pub carries_id : (ms : MasterSettings) (r : Partner ms) (e : List Deed) (x : Entry) → SendsAnswer (slave_of ms r) e x → LeaveNonce (deed_in x ∷ e) → has_command command.Session x.sent ≡ true → has_command command.Reset x.sent ≡ false
    → (frame_of ms.lengths.slave x.sent).load ≡ padded (piece (session_payload r.slave.nonce ms.profile) (width ms) (count_in state.Session (taken (since (deed_in x ∷ e))))) ms.lengths.slave
carries_id ms r e x a nonces session no_reset =
    let b : List Deed = begun_with x e in
    ap (λ (g : List ℕ). (frame_of ms.lengths.slave g).load) (a.is ∙ answer_session (partner ms r) b a.took_what.command a.took_what.load (sym (ap (has_command command.Session) a.is) ∙ session))
    ∙ ((piece_frame (slave_of ms r) b command.Session (id_piece (partner ms r) b) (piece_in (slave_of ms r) (session_payload (session_id (slave_of ms r) b) ms.profile) (count_in state.Session (taken (since b))))).carries
    ∙ ap₂ (λ (id : ℕ) (frames : List (List ℕ)). padded (piece (session_payload id ms.profile) (width ms) (count_in state.Session frames)) ms.lengths.slave)
    (session_id_is (slave_of ms r) b (nonces.0, nonces.1))
    (sym (ap taken (since_on (deed_in x) e no_reset))))
