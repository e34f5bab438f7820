-- The first line of an input.
use Rattle.file_run.proofs.Common.{Consumes, Err, HasNoNewline, IfSome, InputCause, IsLine, IsTooLong, IsUnended, Long, NoNewline, None, Ok, Option, Result, Some, is_newline, lines_in, lines_of, open_line, whole_line}
use Rattle.std.proofs.Common.{◌≡◌, ℕ, zero, suc, ◌+◌, ◌≤◌, ◌<◌, List, [], ◌∷◌, ◌++◌, length, take, refl, arith, ap, ◌∙◌, sym, subst, append_assoc}
use Rattle.std.specs.List.{slice_split, onto_first}
use Rattle.std.proofs.lemmas.List.Splits.{slice_split_at, slice_split_none, length-slice_split, slice_split-cons_no}
use Rattle.schedule_file.proofs.OneField.{some_part}

whole_long : (text : List ℕ) → 641 ≤ length text → whole_line text ≡ Err Long
whole_long text h = grind arith

open_short : (b : ℕ) (text : List ℕ) → length (b ∷ text) ≤ 640 → open_line (b ∷ text) ≡ Err NoNewline ∷ []
open_short b text h = grind arith

open_long : (b : ℕ) (text : List ℕ) → 641 ≤ length (b ∷ text) → open_line (b ∷ text) ≡ Err Long ∷ []
open_long b text h = grind arith

lines_more : (text : List ℕ) (parts : List (List ℕ)) (k : ℕ) → length text ≤ 640 → length parts ≡ k + 1 → lines_in (text ∷ parts) ≡ Ok text ∷ lines_in parts
lines_more text parts k h l = grind arith

-- a whole line stands first, and the lines after it come next
pub lines_whole : (text more : List ℕ) → IsLine text → lines_of (text ++ 10 ∷ more) ≡ Ok text ∷ lines_of more
lines_whole text more is =
    ap lines_in (slice_split_at is_newline text 10 more is.1 refl)
    ∙ lines_more text (slice_split is_newline more) _ is.0 (length-slice_split is_newline more)

-- the input ends inside a line
pub lines_open : (input : List ℕ) → IsUnended input → lines_of input ≡ Err NoNewline ∷ []
lines_open [] is = absurd (omega arith)
lines_open (b ∷ text) is = ap lines_in (slice_split_none is_newline (b ∷ text) is.2) ∙ open_short b text is.1

-- the first part is as long as what no newline stands in
front : (k : ℕ) (input : List ℕ) → k ≤ length input → HasNoNewline (take k input)
    → (head : List ℕ) × (tail : List (List ℕ)) × (slice_split is_newline input ≡ head ∷ tail) × (k ≤ length head)
front zero input h none =
    let p = some_part (slice_split is_newline input) _ (length-slice_split is_newline input) in
    (p.0, p.1, p.2, omega arith)
front (suc k) [] h none = absurd (omega arith)
front (suc k) (x ∷ xs) h none =
    let le : k ≤ length xs = omega arith in
    let zero_in : 0 < length (x ∷ take k xs) = omega arith in
    let r = front k xs le (λ i d lt. none (suc i) d (omega arith)) in
    (x ∷ r.0, r.1, slice_split-cons_no is_newline x xs (none 0 0 zero_in) ∙ ap (onto_first x) r.2, omega (arith, r.3))

long_first : (head : List ℕ) (tail : List (List ℕ)) → 641 ≤ length head → (rest : List (Result (List ℕ) InputCause)) × (lines_in (head ∷ tail) ≡ Err Long ∷ rest)
long_first [] [] h = absurd (omega arith)
long_first (b ∷ text) [] h = ([], open_long b text h)
long_first head (next ∷ more) h = (lines_in (next ∷ more), ap (λ (r : Result (List ℕ) InputCause). r ∷ lines_in (next ∷ more)) (whole_long head h))

-- the first line is too long
pub lines_long : (input : List ℕ) → IsTooLong input → (rest : List (Result (List ℕ) InputCause)) × (lines_of input ≡ Err Long ∷ rest)
lines_long input is =
    let r = front 641 input is.0 is.1 in
    let first = long_first r.0 r.1 r.3 in
    (first.0, ap lines_in r.2 ∙ first.1)

-- what holds of lines holds of an input that begins with this line, that has a line that is too long, or that ends
-- inside a line
pub by_line : (old new : Option (List ℕ)) (text : List ℕ) (P : List (Result (List ℕ) InputCause) → Type 0) → IsLine text → Consumes old new (text ++ 10 ∷ [])
    → ((rest : List (Result (List ℕ) InputCause)) → P (Ok text ∷ rest)) → IfSome old (λ input. P (lines_of input))
by_line None new text P is goes holds = tt
by_line (Some xs) None text P is goes holds = absurd goes
by_line (Some xs) (Some ys) text P is goes holds =
    let first : lines_of xs ≡ Ok text ∷ lines_of ys = ap lines_of (goes ∙ append_assoc text (10 ∷ []) ys) ∙ lines_whole text ys is in
    subst P (sym first) (holds (lines_of ys))

pub by_long : (old : Option (List ℕ)) (P : List (Result (List ℕ) InputCause) → Type 0) → IfSome old IsTooLong → ((rest : List (Result (List ℕ) InputCause)) → P (Err Long ∷ rest))
    → IfSome old (λ input. P (lines_of input))
by_long None P is holds = tt
by_long (Some xs) P is holds = let r = lines_long xs is in subst P (sym r.1) (holds r.0)

pub by_open : (old : Option (List ℕ)) (P : List (Result (List ℕ) InputCause) → Type 0) → IfSome old IsUnended → P (Err NoNewline ∷ []) → IfSome old (λ input. P (lines_of input))
by_open None P is holds = tt
by_open (Some xs) P is holds = subst P (sym (lines_open xs is)) holds
