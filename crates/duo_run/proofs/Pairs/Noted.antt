-- The events with the first other entries of pairs are noted, one pair after another.
use Rattle.duo_run.proofs.Common.{AllStandOver, DuoView, NotesOthers, Option, Pair, PairsEvent, Some, events_to, first_of_both, first_other, is_some, other_event, other_events, same_Some, slice_get_within, world_of}
use Rattle.std.proofs.Common.{◌≡◌, ◌+◌, ℕ, zero, suc, List, [], ◌∷◌, length, slice_get, refl, arith, ap, sym, ◌∙◌, rules}
use Rattle.duo_run.specs.PairsStanding.{Notes}
use Rattle.duo_run.proofs.Pairs.At.{SetTo}
use Rattle.duo_run.proofs.Pairs.Ticking.{found_at}

pub noted_all : (number i : ℕ) (duos : List DuoView) (old now : List (Option ℕ)) → i ≡ length old → SetTo (Notes number duos) i old now → NotesOthers number duos old now
noted_all number i duos old now all s = record { many = s.many; each = λ j noted now at is. s.done j (let h = slice_get_within old j noted at in omega (arith, h, all)) noted now at is }

-- the number of each pair's event stands in its place
others_at : (k j : ℕ) (pairs : List Pair) (past : List PairsEvent) (p : Pair) → slice_get pairs j ≡ Some p → slice_get (other_events k pairs past) j ≡ Some (other_event (k + j) p past)
others_at k j [] past p at = cc
others_at k zero (q ∷ pairs) past p at =
    let same : q ≡ p = same_Some _ _ at in
    let n : k ≡ k + 0 = omega arith in
    ap (λ (q : Pair). Some (other_event k q past)) same ∙ ap (λ (n : ℕ). Some (other_event n p past)) n
others_at k (suc j) (q ∷ pairs) past p at =
    let n : suc k + j ≡ k + suc j = omega arith in
    others_at (suc k) j pairs past p at ∙ ap (λ (n : ℕ). Some (other_event n p past)) n

others_are : (k : ℕ) (pairs : List Pair) (past : List PairsEvent) (others : List (Option ℕ)) → length others ≡ length pairs → ((j : ℕ) (p : Pair) → slice_get pairs j ≡ Some p → slice_get others j ≡ Some (other_event (k + j) p past))
    → others ≡ other_events k pairs past
others_are k [] past [] e each = refl
others_are k (p ∷ pairs) past (o ∷ others) e each =
    let n : k + 0 ≡ k = omega arith in
    let first : o ≡ other_event k p past = same_Some _ _ (each 0 p refl) ∙ ap (λ (n : ℕ). other_event n p past) n in
    ap (λ (o : Option ℕ). o ∷ others) first
    ∙ ap (λ (rest : List (Option ℕ)). other_event k p past ∷ rest)
    (others_are (suc k) pairs past others (omega (arith, e)) (λ j q at. each (suc j) q at ∙ (let m : k + suc j ≡ suc k + j = omega arith in ap (λ (n : ℕ). Some (other_event n q past)) m)))
others_are k _ past _ e each = absurd (omega (arith, e))

pub others-length : (k : ℕ) (pairs : List Pair) (past : List PairsEvent) → length (other_events k pairs past) ≡ length pairs
others-length k [] past = refl
others-length k (p ∷ pairs) past = ap suc (others-length (suc k) pairs past)

-- after an event of all, by the worlds after it
pub others_after : (pairs : List Pair) (past : List PairsEvent) (event : PairsEvent) (duos : List DuoView) (number : ℕ) (old new : List (Option ℕ)) → number ≡ suc (length past) → old ≡ other_events 1 pairs past
    → AllStandOver pairs (λ k. events_to k (event ∷ past)) duos → NotesOthers number duos old new → new ≡ other_events 1 pairs (event ∷ past)
others_after pairs past event duos number old new e was stand notes =
    let long : length old ≡ length pairs = ap (length {A = Option ℕ}) was ∙ others-length 1 pairs past in
    others_are 1 pairs (event ∷ past) new (notes.many ∙ long)
    (λ j p at.
    let v = found_at duos j (let h = slice_get_within pairs j p at in omega (arith, h, stand.many)) in
    let n : 1 + j ≡ suc j = omega arith in
    let s = stand.each (suc j) p v.0 at v.1 in
    let before : slice_get old j ≡ Some (other_event (suc j) p past) = search (rules, others_at) in
    let now = found_at new j (let h = slice_get_within pairs j p at in omega (arith, h, notes.many, long)) in
    now.1
    ∙ ap (λ (o : Option ℕ). Some o) (notes.each j (other_event (suc j) p past) now.0 before now.1 v.0 p.master p.slave (world_of (suc j) p (event ∷ past)) v.1 s.stands)
    ∙ ap (λ (m : ℕ). Some (first_of_both (other_event (suc j) p past) (is_some (first_other (world_of (suc j) p (event ∷ past)))) m)) e
    ∙ ap (λ (n : ℕ). Some (other_event n p (event ∷ past))) (sym n))
