-- What memory tells says which memory it is, what it held, and what was written.
use Rattle.std.proofs.Common.{◌≡◌, ℕ, List, ◌++◌, length, take, drop, get_or, ap, sym, ◌∙◌, append_assoc}
use Rattle.std.proofs.Math.Seq.{take-append_seam, drop-append_seam}
use Rattle.replay_c.specs.Told.{told}

-- memory that tells what other memory told, and more, is the same, held the same, and was written more
pub record TellsMore (name : ℕ) (before written : List ℕ) (name' : ℕ) (before' written' text : List ℕ) : Type 0 where
  pub name_is : name' ≡ name
  pub before_is : before' ≡ before
  pub written_is : written' ≡ written ++ text

pub told_more : (name : ℕ) (before written : List ℕ) (name' : ℕ) (before' written' text : List ℕ) → told name' before' written' ≡ told name before written ++ text → TellsMore name before written name' before' written' text
told_more name before written name' before' written' text e =
    let len : length before' ≡ length before = ap (λ (all : List ℕ). get_or all 1 0) e in
    let rest : before' ++ written' ≡ before ++ (written ++ text) = ap (drop 2) e ∙ append_assoc before written text in
    record {
      name_is = ap (λ (all : List ℕ). get_or all 0 0) e;
      before_is = sym (take-append_seam before' written') ∙ ap (λ (n : ℕ). take n (before' ++ written')) len ∙ ap (take (length before)) rest ∙ take-append_seam before (written ++ text);
      written_is = sym (drop-append_seam before' written') ∙ ap (λ (n : ℕ). drop n (before' ++ written')) len ∙ ap (drop (length before)) rest ∙ drop-append_seam before (written ++ text);
    }
