-- The first dot of a text.
use Rattle.std.proofs.Common.{◌≡◌, ℕ, ◌+◌, List, [], length, take, drop, arith, ap, sym}
use Rattle.std.specs.Prelude.{None, Some}
use Rattle.std.specs.List.{after_first, before_first, position_or_len}
use Rattle.std.proofs.lemmas.Bool.{false_from_ne_true}
use Rattle.std.proofs.lemmas.List.{drop_all}
use Rattle.std.proofs.lemmas.List.Sums.{position_or_len_is}
use Rattle.memchr.specs.Find.{IsFirstByte}
use Rattle.plant_conf.specs.Forms.{is_dot}

-- the parts round it
pub dot_found : (text : List ℕ) (at : ℕ) → IsFirstByte is_dot text (Some at) → (take at text ≡ before_first is_dot text) × (drop (at + 1) text ≡ after_first is_dot text)
dot_found text at first =
    let high = first.0.high in
    let is : position_or_len is_dot text ≡ at =
    position_or_len_is is_dot text at 0 (omega arith) (λ k lt. false_from_ne_true _ (first.0.before k (omega arith) lt)) (λ lt. first.1) in
    (ap (λ (n : ℕ). take n text) (sym is), ap (λ (n : ℕ). drop (n + 1) text) (sym is))

-- nothing follows where there is none
pub no_dot : (text : List ℕ) → IsFirstByte is_dot text None → after_first is_dot text ≡ []
no_dot text none =
    let is : position_or_len is_dot text ≡ length text =
    position_or_len_is is_dot text (length text) 0 (omega arith) (λ k lt. false_from_ne_true _ (none k (omega arith) lt)) (λ lt. absurd (omega arith)) in
    drop_all (position_or_len is_dot text + 1) text (omega arith)
