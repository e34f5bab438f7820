-- One byte of an answer is compared with the piece that it repeats.
use Rattle.trace_diag.proofs.Common.{eq-eqb, first_differing, length-append, length-replicate, padded}
use Rattle.std.proofs.Common.{◌≡◌, ◌==◌, ℕ, suc, ◌+◌, ◌-◌, ◌<◌, ◌≤◌, List, length, drop, replicate, slice_index, Bool, Some, ap, ap₂, ◌∙◌, arith, if◌then◌else◌, rules}
use Rattle.std.proofs.Math.Seq.{drop-cons}
use Rattle.trace_diag.proofs.PieceRows.{at_followed}

due-long : (want : List ℕ) (n : ℕ) → n ≤ length (padded want n)
due-long want n = omega (arith, length-append want (replicate (n - length want) 0), length-replicate {A = ℕ} (n - length want) 0)

-- the next byte of both lists
next : (i : ℕ) (load want : List ℕ) → i < length load → first_differing i (drop i load) (drop i (padded want (length load)))
    ≡ (if slice_index load i == slice_index want i then first_differing (suc i) (drop (suc i) load) (drop (suc i) (padded want (length load))) else Some i)
next i load want h =
    ap₂ (first_differing i) (drop-cons load i 0 h) (drop-cons (padded want (length load)) i 0 (omega (arith, h, due-long want (length load))))
    ∙ ap (λ (b : ℕ). if slice_index load i == b then first_differing (suc i) (drop (suc i) load) (drop (suc i) (padded want (length load))) else Some i) (at_followed want (length load - length want) i)

pub echo_same : (i : ℕ) (load want : List ℕ) → i < length load → slice_index load i ≡ slice_index want i
    → first_differing i (drop i load) (drop i (padded want (length load))) ≡ first_differing (i + 1) (drop (i + 1) load) (drop (i + 1) (padded want (length load)))
echo_same i load want h e =
    let one : suc i ≡ i + 1 = omega arith in
    next i load want h
    ∙ (ap (λ (t : Bool). if t then first_differing (suc i) (drop (suc i) load) (drop (suc i) (padded want (length load))) else Some i) (eq-eqb (slice_index load i) (slice_index want i) e)
    ∙ ap (λ (n : ℕ). first_differing n (drop n load) (drop n (padded want (length load)))) one)

pub echo_other : (i : ℕ) (load want : List ℕ) → i < length load → (slice_index load i ≡ slice_index want i → ⊥) → first_differing i (drop i load) (drop i (padded want (length load))) ≡ Some i
echo_other i load want h k = search (rules, next)
