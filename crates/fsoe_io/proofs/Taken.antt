-- What a reader of lines holds and what its source has left are the rest of the input.
use Rattle.std.proofs.Common.{◌≡◌, ℕ, false, ◌+◌, List, [], ◌∷◌, ◌++◌, length, take, drop, arith, rules, ◌∙◌, sym, subst}
use Rattle.std.specs.Prelude.{◌==◌, Some, None, Ok, IfSome}
use Rattle.std.specs.declared.option.Option.{Option}
use Rattle.std.specs.Io.KnownBytes.{Consumes, prepend_known}
use Rattle.std.proofs.lemmas.Grind.{common_steps}
use Rattle.std.proofs.lemmas.List.{take-append-le, append-nil, length-append}
use Rattle.fsoe_io.specs.Line.{IsLine}
use Rattle.fsoe_io.specs.LineReader.{BeginsAs, Fills, IsTooLong, IsUnended}
use Rattle.fsoe_io.specs.declared.line_reader.Front.TheVariants as front_as

pub consumes_then : (a b c : Option (List ℕ)) (x y : List ℕ) → Consumes a b x → Consumes b c y → Consumes a c (x ++ y)
consumes_then a b c x y h k = grind (arith, common_steps)

-- what is held stays the beginning of a line where a fill gave nothing
pub some_held : (old new more : List ℕ) → IsLine old → new ≡ old ++ more → length more ≡ 0 → (length new == 0) ≡ false → IsUnended new
some_held old (b ∷ new) [] line e none h =
    let same : b ∷ new ≡ old = e ∙ append-nil old in
    let kept : IsLine (b ∷ new) = subst IsLine (sym same) line in
    (omega arith, kept.0, kept.1)
some_held old _ _ line e none h = cc

-- and the input ends there
pub unended : (input before now : Option (List ℕ)) (held new : List ℕ) (n : ℕ) → Consumes input (prepend_known held before) [] → IsLine held → Fills {E = Unit {0}} (Ok n) held new before now → n ≡ 0 → (length new == 0) ≡ false
    → IfSome input IsUnended × Consumes input (prepend_known new now) []
unended input before now held new n h k l m o = search (rules, some_held)

-- a line that was taken from the front of what is held
pub line_given : (input left : Option (List ℕ)) (held new line : List ℕ) (len : ℕ) → Consumes input (prepend_known held left) [] → BeginsAs (front_as.Line len) held → line ≡ take len held → new ≡ drop (len + 1) held
    → IsLine line × Consumes input (prepend_known new left) (line ++ 10 ∷ [])
line_given input left held new line len h k l m = grind (arith, common_steps)

pub too_long : (input left : Option (List ℕ)) (held : List ℕ) → Consumes input (prepend_known held left) [] → IsTooLong held → IfSome input IsTooLong
too_long None left held p e = tt
too_long (Some xs) None held p e = absurd p
too_long (Some xs) (Some ys) held p e = rw (p, take-append-le 641 held ys e.0) (omega (arith, length-append held ys), e.1)
