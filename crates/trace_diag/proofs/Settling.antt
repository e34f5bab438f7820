-- Ends with the settings that are read off a trace to which no row of the table applies send its frames.
use Rattle.trace_diag.proofs.Common.{Accepts, All-head, All-tail, AreBytes, AreOfBytes, Command, Deed, End, MasterSettings, Noted, Partner, Setup, before, begun, command_back, command_in, deeds, frame_of, length_of, partner, reset_frame, same_end, same_itself, sends, setup_of, turn, whole}
use Rattle.std.proofs.Common.{◌≡◌, ℕ, List, [], ◌∷◌, length, true, Option, Some, refl, sym, ap, ap₂, subst, ◌∙◌, arith}
use Rattle.fsoe_base.specs.declared.command.End.TheVariants as end_name
use Rattle.trace_diag.proofs.Answering.{answer_made, reset_made, sends_answer, IsMade, SendsAnswer}
use Rattle.trace_diag.proofs.Conforming.{good_first, good_more, Good}
use Rattle.trace_diag.proofs.Heads.{head_of, HasHead}
use Rattle.trace_diag.proofs.LockStep.{Steps}
use Rattle.trace_diag.proofs.NextFrames.{reset_is_next, NextFrame}
use Rattle.trace_diag.proofs.NoField.{IsInTurn}
use Rattle.trace_diag.proofs.PayloadBytes.{valid_at}
use Rattle.trace_diag.proofs.PayloadRows.{is_from, same_end_is, IsFrom}
use Rattle.trace_diag.proofs.RowsHold.{rows_hold, AllInTurn}
use Rattle.trace_diag.proofs.Running.{IsSetFor}
use Rattle.trace_diag.proofs.SentBack.{same_bytes, sent_same, SetsData}
use Rattle.trace_diag.proofs.SentRows.{IsPlain}
use Rattle.trace_diag.proofs.Sets.{carries_set, CarriesSet}
use Rattle.trace_diag.proofs.SettingsRead.{read_before, Read}
use Rattle.trace_diag.proofs.Walk.{more, More}

sends-of : (ms : MasterSettings) (r : Partner ms) (at : End) → sends (setup_of ms (partner ms r) at) ≡ length_of ms.lengths at
sends-of ms r at = grind arith

-- what the steps of the world set
steps-set : (ms : MasterSettings) (r : Partner ms) (x : Noted) (t : List Noted) (s : Steps ms r x t) (head : HasHead ms.lengths t (length_of ms.lengths (turn t)) x.frame) → length (frame_of (length_of ms.lengths (turn t)) x.frame).load ≡ length_of ms.lengths (turn t)
    → SetsData (length_of ms.lengths (turn t)) s.answers.reaches.entry.sent head.command (frame_of (length_of ms.lengths (turn t)) x.frame).load
steps-set ms r x t s head long is-data sent =
    let reaches = s.answers.reaches in
    let setup : Setup = setup_of ms (partner ms r) (turn t) in
    let load : List ℕ = (frame_of (length_of ms.lengths (turn t)) x.frame).load in
    let e : List Deed = deeds (turn t) reaches.set in
    let set : IsSetFor setup (Some head.command) load e = subst (λ (c : Option Command). IsSetFor setup c load e) (ap command_in head.is ∙ command_back head.command) s.answers.set_for in
    subst (λ (l : ℕ). CarriesSet l reaches.entry.sent head.command load) (sends-of ms r (turn t))
    (carries_set setup e reaches.entry head.command load reaches.delivery (sends_answer setup e reaches.entry reaches.delivery reaches.no_reset reaches.taken) set is-data sent (long ∙ sym (sends-of ms r (turn t))))

-- an answer is laid out
steps-made : (ms : MasterSettings) (r : Partner ms) (x : Noted) (t : List Noted) (s : Steps ms r x t) → IsMade s.answers.reaches.entry.sent
steps-made ms r x t s =
    let reaches = s.answers.reaches in
    let setup : Setup = setup_of ms (partner ms r) (turn t) in
    let a : SendsAnswer setup (deeds (turn t) reaches.set) reaches.entry = sends_answer setup (deeds (turn t) reaches.set) reaches.entry reaches.delivery reaches.no_reset reaches.taken in
    subst (λ (g : List ℕ). IsMade g) (sym a.is) (answer_made setup (begun reaches.entry.what reaches.entry.did ∷ deeds (turn t) reaches.set) a.took_what)

same-noted : (x : Noted) (at : End) (g : List ℕ) → x.from ≡ at → x.frame ≡ g → x ≡ record { from = at; frame = g }
same-noted x at g e h = ap₂ (λ (from : End) (frame : List ℕ). record { from = from; frame = frame }) e h

settle-first : (ms : MasterSettings) (r : Partner ms) (x : Noted) → Read ms r (x ∷ []) → IsInTurn ms.lengths (before ms.lengths []) x → AreBytes x.frame → Good ms r (x ∷ [])
settle-first ms r x read h are =
    let g : List ℕ = reset_frame 0 ms.lengths.master in
    let from-is : end_name.Master ≡ x.from = same_end_is x.from end_name.Master h.turn in
    let mine : same_end end_name.Master x.from ≡ true = ap (same_end end_name.Master) (sym from-is) in
    let from : IsFrom ms.lengths [] end_name.Master x = is_from ms.lengths [] end_name.Master x mine h in
    let next : NextFrame ms r [] g end_name.Master = reset_is_next ms r [] end_name.Master refl in
    let frame-is : x.frame ≡ g =
    same_bytes ms.lengths.master x.frame g ms.lengths.valid_master from.long are (reset_made ms.lengths.master) next.long
    (sent_same ms r x [] g end_name.Master read (rows_hold ms.lengths [] tt) mine from (head_of ms.lengths [] end_name.Master x from) (λ is-data sent. absurd (cc sent)) next) in
    subst (λ (x : Noted). Good ms r (x ∷ [])) (sym (same-noted x end_name.Master g (sym from-is) frame-is)) (good_first ms r)

settle-more : (ms : MasterSettings) (r : Partner ms) (x y : Noted) (t : List Noted) → Accepts ms r → IsPlain ms → Read ms r (x ∷ y ∷ t) → IsInTurn ms.lengths (before ms.lengths (y ∷ t)) x → AllInTurn ms.lengths (y ∷ t) → AreBytes x.frame → Good ms r (y ∷ t)
    → Good ms r (x ∷ y ∷ t)
settle-more ms r x y t accepts plain read h before-it are g =
    let at : End = turn (y ∷ t) in
    let l : ℕ = length_of ms.lengths at in
    let from-is : at ≡ x.from = same_end_is x.from at h.turn in
    let mine : same_end at x.from ≡ true = ap (same_end at) (sym from-is) ∙ same_itself at in
    let from : IsFrom ms.lengths (y ∷ t) at x = is_from ms.lengths (y ∷ t) at x mine h in
    let fits : length (frame_of l x.frame).load ≡ l = (whole l x.frame (valid_at ms.lengths at) from.long).load in
    let m : More ms r x (y ∷ t) = more ms r x y t accepts plain fits g.at in
    let head : HasHead ms.lengths (y ∷ t) l x.frame = head_of ms.lengths (y ∷ t) at x from in
    let sent : List ℕ = m.steps.answers.reaches.entry.sent in
    let frame-is : x.frame ≡ sent =
    same_bytes l x.frame sent (valid_at ms.lengths at) from.long are (steps-made ms r x (y ∷ t) m.steps) m.next.long
    (sent_same ms r x (y ∷ t) sent at read (rows_hold ms.lengths (y ∷ t) before-it) mine from head (steps-set ms r x (y ∷ t) m.steps head fits) m.next) in
    good_more ms r x y t g m (same-noted x at sent (sym from-is) frame-is)

-- ends with these settings send each beginning of the trace
pub settle : (ms : MasterSettings) (r : Partner ms) (x : Noted) (t : List Noted) → Accepts ms r → IsPlain ms → Read ms r (x ∷ t) → AllInTurn ms.lengths (x ∷ t) → AreOfBytes (x ∷ t) → Good ms r (x ∷ t)
settle ms r x [] accepts plain read h are = settle-first ms r x read h.0 (All-head (λ x. AreBytes x.frame) x [] are)
settle ms r x (y ∷ t) accepts plain read h are =
    settle-more ms r x y t accepts plain read h.0 h.1 (All-head (λ x. AreBytes x.frame) x (y ∷ t) are)
    (settle ms r y t accepts plain (read_before ms r x (y ∷ t) read) h.1 (All-tail (λ x. AreBytes x.frame) x (y ∷ t) are))
