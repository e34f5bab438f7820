-- Hexadecimal digits are one field.
use Rattle.schedule_file.proofs.Common.{Err, FromHexError, LineCause, None, Ok, Result, Some, bytes_said, decode_of, decode_of-ok, fields_of, is_hex_digit, is_space, join_with_byte, join_with_byte-slice_split, not_hex, one_hex_field, slice_split_none, some_bytes, value_or}
use Rattle.std.proofs.Common.{◌≡◌, ℕ, List, [], ◌∷◌, refl, sym, ap, ◌∙◌, arith, false, true, rules}
use Rattle.schedule_file.specs.declared.line_cause.LineCause.TheVariants as cause

-- a space is no digit
no_space : (c : ℕ) → is_hex_digit c ≡ true → is_space c ≡ false
no_space c h = grind arith

decoded : (most : ℕ) (r : Result (List ℕ) FromHexError) (bytes : List ℕ) → some_bytes most r ≡ Some bytes → (all : List ℕ) × (r ≡ Ok all)
decoded most r bytes h = grind arith

-- digits are one field
alone : (most : ℕ) (text bytes : List ℕ) → bytes_said most text ≡ Some bytes → fields_of text ≡ text ∷ []
alone most text bytes e =
    let all = decoded most (decode_of text) bytes e in
    let ok = decode_of-ok text all.0 all.1 in
    slice_split_none is_space text (λ i d lt. no_space _ (ok.1 i d lt))

pub hex_said : (most : ℕ) (text bytes : List ℕ) → bytes_said most text ≡ Some bytes → one_hex_field most (fields_of text) ≡ Ok bytes
hex_said most text bytes e = ap (one_hex_field most) (alone most text bytes e) ∙ ap (value_or cause.Hex) e

unsaid : (most : ℕ) (text : List ℕ) (fields : List (List ℕ)) → bytes_said most text ≡ None → ((field : List ℕ) → fields ≡ field ∷ [] → field ≡ text) → one_hex_field most fields ≡ Err (not_hex fields)
unsaid most text (field ∷ []) e same = ap (λ t. value_or cause.Hex (bytes_said most t)) (same field refl) ∙ ap (value_or cause.Hex) e
unsaid most text _ e same = refl

pub hex_unsaid : (most : ℕ) (text : List ℕ) → bytes_said most text ≡ None → one_hex_field most (fields_of text) ≡ Err (not_hex (fields_of text))
hex_unsaid most text e = unsaid most text (fields_of text) e (λ field is. ap (join_with_byte 32) (sym is) ∙ join_with_byte-slice_split 32 text)

pub said_alone : (most : ℕ) (text bytes : List ℕ) → value_or cause.Hex (bytes_said most text) ≡ Ok bytes → one_hex_field most (fields_of text) ≡ Ok bytes
said_alone most text bytes h = search (rules, hex_said)

pub unsaid_alone : (most : ℕ) (text : List ℕ) (why : LineCause) → value_or cause.Hex (bytes_said most text) ≡ Err why → one_hex_field most (fields_of text) ≡ Err (not_hex (fields_of text))
unsaid_alone most text why h = search (rules, hex_unsaid)
