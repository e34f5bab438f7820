-- A delivery that is taken without a reset is answered: the entry sends a frame.
use Rattle.trace_diag.proofs.Common.{Command, Deed, Entry, Frame, HasNoReset, MasterSettings, Move, OfMaster, OfSlave, Setup, SlaveSettings, TakesDelivery, after_phase, answer, begun, bytes_of, command_byte, conn_id, count_crcs, count_in, delivery, did_on, download_frame, end_of, entry_on, groups, has_command, id_piece, is_data_frame, is_empty, is_guarded_command, master_answer, next_entry, own, pay, phase_of, pieces, reset_crcs, reset_frame, reset_load, seal, sealed_next, sends, sent_on, session_id, since, slave_answer, with_data, with_piece}
use Rattle.end_model.specs.Setup.{piece_len}
use Rattle.end_model.specs.Step.{goes_on}
use Rattle.std.proofs.Common.{◌≡◌, ℕ, suc, nat_lt, List, ◌∷◌, length, Bool, true, false, Option, Some, None, IsSome, refl, sym, ap, subst, ◌∙◌, if◌then◌else◌, arith, rules}
use Rattle.fsoe_base.specs.declared.command.Command.TheVariants as command
use Rattle.fsoe_base.specs.declared.did.Cause.{Cause}
use Rattle.fsoe_base.specs.declared.did.Took.{Took}
use Rattle.param_load.specs.declared.entry.Move.TheVariants as move

-- a frame that was laid out, with a CRC for each group
pub record IsMade (g : List ℕ) : Type 0 where
  pub frame : Frame
  pub is : g ≡ bytes_of frame
  pub counts : length frame.crcs ≡ length (groups frame.load)

either : (t : Bool) (x y : List ℕ) → IsMade x → IsMade y → IsMade (if t then x else y)
either t x y h k = grind arith

seal-made : (s : Setup) (e : List Deed) (conn : ℕ) (c : Command) (load : List ℕ) → IsMade (seal s e conn c load)
seal-made s e conn c load = record { frame = _; is = refl; counts = count_crcs _ conn _ (command_byte c) 0 (groups load) }

sealed-made : (s : Setup) (e : List Deed) (c : Command) (load : List ℕ) → IsMade (sealed_next s e c load)
sealed-made s e c load = seal-made s (since e) (if is_guarded_command c then conn_id s e else 0) c load

pub reset_made : (l : ℕ) → IsMade (reset_frame 0 l)
reset_made l = record { frame = record { cmd = 0x2A; load = reset_load 0 l; crcs = reset_crcs (reset_load 0 l); conn = 0 }; is = refl; counts = count_crcs 0 0 1 0x2A 0 (groups (reset_load 0 l)) }

data-made : (s : Setup) (e : List Deed) → IsMade (with_data s e)
data-made s e = search (rules, either, sealed-made)

download-made : (ms : MasterSettings) (e : List Deed) (c : Command) (k : ℕ) → IsMade (download_frame ms e c k)
download-made ms e c k = sealed-made (OfMaster ms) e c _

phase-made : (ms : MasterSettings) (e : List Deed) (c : Command) → IsMade (after_phase ms e c)
phase-made ms e command.Reset = download-made ms e command.Session 1
phase-made ms e command.Session = download-made ms e command.Connection 1
phase-made ms e command.Connection = download-made ms e command.Parameter 1
phase-made ms e _ = data-made (OfMaster ms) e

-- whether a master sends one more piece of a phase
abbrev sends-more : MasterSettings → List Deed → Command → Bool
sends-more ms e c = nat_lt (count_in (phase_of c) (own (since e))) (pieces (pay ms (session_id (OfMaster ms) e) (phase_of c)) (piece_len (OfMaster ms)))

goes-made : (ms : MasterSettings) (e : List Deed) (c : Command) → IsMade (goes_on ms e c)
goes-made ms e c = either (sends-more ms e c) (download_frame ms e c (suc (count_in (phase_of c) (own (since e))))) (after_phase ms e c) (download-made ms e c _) (phase-made ms e c)

master-made : (ms : MasterSettings) (e : List Deed) (c : Command) → IsMade (master_answer ms e c)
master-made ms e command.Reset = phase-made ms e command.Reset
master-made ms e command.Session = goes-made ms e command.Session
master-made ms e command.Connection = goes-made ms e command.Connection
master-made ms e command.Parameter = goes-made ms e command.Parameter
master-made ms e _ = data-made (OfMaster ms) e

slave-made : (ss : SlaveSettings) (e : List Deed) (c : Command) (load : List ℕ) → IsMade (slave_answer ss e c load)
slave-made ss e command.Reset load = reset_made (sends (OfSlave ss))
slave-made ss e command.Session load = sealed-made (OfSlave ss) e command.Session _
slave-made ss e command.Connection load = sealed-made (OfSlave ss) e command.Connection _
slave-made ss e command.Parameter load = sealed-made (OfSlave ss) e command.Parameter _
slave-made ss e _ load = data-made (OfSlave ss) e

pub answer_made : (s : Setup) (e : List Deed) (t : Took) → IsMade (answer s e t)
answer_made s e t = search (rules, master-made, slave-made)

master-data : (ms : MasterSettings) (e : List Deed) (c : Command) → is_data_frame (master_answer ms e c) ≡ true → master_answer ms e c ≡ with_data (OfMaster ms) e
master-data ms e c h = search rules

slave-data : (ss : SlaveSettings) (e : List Deed) (c : Command) (load : List ℕ) → is_data_frame (slave_answer ss e c load) ≡ true → slave_answer ss e c load ≡ with_data (OfSlave ss) e
slave-data ss e c load h = grind arith

pub answer_data : (s : Setup) (e : List Deed) (t : Took) → is_data_frame (answer s e t) ≡ true → answer s e t ≡ with_data s e
answer_data (OfMaster ms) e t h = master-data ms e t.command h
answer_data (OfSlave ss) e t h = slave-data ss e t.command t.load h

pub answer_session : (ss : SlaveSettings) (e : List Deed) (c : Command) (load : List ℕ) → has_command command.Session (slave_answer ss e c load) ≡ true → slave_answer ss e c load ≡ with_piece (OfSlave ss) e command.Session (id_piece ss e)
answer_session ss e c load h = grind arith

-- a delivery that is taken without a reset sends the answer to what was taken
pub record IsAnswer (s : Setup) (e : List Deed) (reset : Option Cause) (took : Option Took) (sent : Bool) : Type 0 where
  pub took_what : Took
  pub is : sent_on s e reset took sent ≡ answer s e took_what

answer-is : (s : Setup) (e : List Deed) (reset : Option Cause) (took : Option Took) (sent : Bool) → reset ≡ None → IsSome took → IsAnswer s e reset took sent
answer-is s e (Some because) took sent none some = absurd (cc none)
answer-is s e None None sent none some = absurd (cc some)
answer-is s e None (Some t) sent none some = record { took_what = t; is = refl }

made-some : (g : List ℕ) → IsMade g → is_empty g ≡ false
made-some g m = ap is_empty m.is

pub answered : (s : Setup) (e : List Deed) (reset : Option Cause) (took : Option Took) (sent : Bool) → reset ≡ None → IsSome took → is_empty (sent_on s e reset took sent) ≡ false
answered s e reset took sent h k = search rules

-- the entry of a delivery
pub record IsDelivery (s : Setup) (e : List Deed) (x : Entry) : Type 0 where
  pub frame : List ℕ
  pub is : x ≡ next_entry s e (move.Deliver frame)

pub delivered_as : (s : Setup) (e : List Deed) (o : Option (List ℕ)) (x : Entry) → entry_on s e (delivery o) ≡ Some x → IsDelivery s e x
delivered_as s e None x h = absurd (cc h)
delivered_as s e (Some f) x h = record { frame = f; is = cc }

-- it is that of its end, and where it takes the frame and has no reset, it sends an answer
pub its_end : (s : Setup) (e : List Deed) (x : Entry) → IsDelivery s e x → x.end ≡ end_of s
its_end s e x d = ap (λ (x : Entry). x.end) d.is

pub record SendsAnswer (s : Setup) (e : List Deed) (x : Entry) : Type 0 where
  pub took_what : Took
  pub is : x.sent ≡ answer s (begun x.what x.did ∷ e) took_what

pub sends_answer : (s : Setup) (e : List Deed) (x : Entry) → IsDelivery s e x → HasNoReset x → TakesDelivery x → SendsAnswer s e x
sends_answer s e x d none takes =
    let what : Move = move.Deliver d.frame in
    let y : Entry = next_entry s e what in
    let no_reset : y.did.reset ≡ None = ap (λ (x : Entry). x.did.reset) (sym d.is) ∙ none in
    let taken : IsSome y.did.took = subst (λ (x : Entry). TakesDelivery x) d.is takes refl in
    let a : IsAnswer s (begun what (did_on s e what) ∷ e) (did_on s e what).reset (did_on s e what).took (did_on s e what).sent = search (rules, answer-is) in
    record { took_what = a.took_what; is = ap (λ (x : Entry). x.sent) d.is ∙ (a.is ∙ ap (λ (x : Entry). answer s (begun x.what x.did ∷ e) a.took_what) (sym d.is)) }

pub is_answered : (s : Setup) (e : List Deed) (x : Entry) → IsDelivery s e x → HasNoReset x → TakesDelivery x → is_empty x.sent ≡ false
is_answered s e x h k l = search (rules, made-some, answer_made)
