-- The first line of an input is a title, or isn't.
use Rattle.file_run.proofs.Common.{ByTitle, Consumes, IfSome, IsLine, IsTitled, None, Ok, Option, Some, first_line}
use Rattle.std.proofs.Common.{◌≡◌, ℕ, List, [], ◌∷◌, ◌++◌, ap, inl, inr}
use Rattle.file_run.proofs.Lines.{by_line}

of_each : (told : Option (List ℕ)) (P : List ℕ → Type 0) → ((input : List ℕ) → P input) → IfSome told P
of_each None P each = tt
of_each (Some input) P each = each input

pub is_titled : (title text : List ℕ) (told now : Option (List ℕ)) (titled plain : Type 0) → IsLine text → Consumes told now (text ++ 10 ∷ []) → text ≡ title → titled → ByTitle title told titled plain
is_titled title text told now titled plain is goes same holds = record {
  one = inl holds;
  with_title = of_each told (λ input. IsTitled title input → titled) (λ input t. holds);
  without = by_line told now text (λ lines. ¬ (first_line lines ≡ Ok title) → plain) is goes (λ rest no. absurd (no (ap (λ (z : List ℕ). Ok z) same)));
}

pub is_plain : (title text : List ℕ) (told now : Option (List ℕ)) (titled plain : Type 0) → IsLine text → Consumes told now (text ++ 10 ∷ []) → ¬ (text ≡ title) → plain → ByTitle title told titled plain
is_plain title text told now titled plain is goes other holds = record {
  one = inr holds;
  with_title = by_line told now text (λ lines. first_line lines ≡ Ok title → titled) is goes (λ rest e. let same : text ≡ title = cc in absurd (other same));
  without = of_each told (λ input. ¬ (IsTitled title input) → plain) (λ input no. holds);
}

-- where both hold, so does the one that the first line decides
pub is_both : (title : List ℕ) (told : Option (List ℕ)) (titled plain : Type 0) → titled → plain → ByTitle title told titled plain
is_both title told titled plain t p = record {
  one = inr p;
  with_title = of_each told (λ input. IsTitled title input → titled) (λ input is. t);
  without = of_each told (λ input. ¬ (IsTitled title input) → plain) (λ input no. p);
}
