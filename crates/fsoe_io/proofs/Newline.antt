-- A search for the byte that ends a line.
use Rattle.std.proofs.Common.{◌≡◌, ℕ, ◌≤◌, ◌<◌, List, length, take, get_or, arith, ap, ◌∙◌}
use Rattle.std.specs.Prelude.{None, Some}
use Rattle.std.proofs.lemmas.List.{get_or-take, get_or_default, length-take}
use Rattle.std.proofs.lemmas.Bool.{false_from_ne_true, eqb-true}
use Rattle.memchr.specs.Find.{Nowhere, Passes, IsFirstByte, is_byte}
use Rattle.fsoe_io.specs.Line.{is_newline, HasNoNewline, IsLine}
use Rattle.fsoe_io.specs.LineReader.{BeginsAs, IsTooLong}
use Rattle.fsoe_io.specs.declared.line_reader.Front.TheVariants as front_as

none_found : (bytes : List ℕ) (n : ℕ) → n ≤ length bytes → Nowhere (Passes (is_byte 10) bytes) 0 n → HasNoNewline (take n bytes)
none_found bytes n fits none =
    λ k d lt.
    let below : k < n = omega (arith, lt, length-take n bytes) in
    let same : get_or (take n bytes) k d ≡ get_or bytes k 0 = get_or-take n bytes k d below ∙ get_or_default bytes k d 0 (omega arith) in
    ap is_newline same ∙ false_from_ne_true _ (none k (omega arith) below)

pub near : (at : ℕ) (bytes : List ℕ) → IsFirstByte (is_byte 10) bytes (Some at) → at ≤ 640 → BeginsAs (front_as.Line at) bytes
near at bytes first small = (small, first.0.high, none_found bytes at (omega (arith, first.0.high)) first.0.before, eqb-true _ _ first.1)

-- more bytes than a line may have come before a newline
pub none_near : (n : ℕ) (bytes : List ℕ) → 640 < n → n ≤ length bytes → Nowhere (Passes (is_byte 10) bytes) 0 n → IsTooLong bytes
none_near n bytes past fits none = (omega arith, none_found bytes 641 (omega arith) (λ k low lt. none k low (omega arith)))

pub nowhere_yet : (bytes : List ℕ) → IsFirstByte (is_byte 10) bytes None → length bytes ≤ 640 → IsLine bytes
nowhere_yet bytes none short =
    (short, λ k d lt. ap is_newline (get_or_default bytes k d 0 lt) ∙ false_from_ne_true _ (none k (omega arith) lt))
