-- Bytes in hexadecimal, decoded into as much room as their digits need.
use Rattle.std.proofs.Common.{◌≡◌, sym, ℕ, ◌/◌, ◌<◌, List, length, None, Result, Ok, Err, refl, arith}
use Rattle.std.proofs.lemmas.Grind.{common_steps}
use Rattle.hex.specs.Hex.{decode_of}
use Rattle.hex.specs.declared.error.FromHexError.{FromHexError}
use Rattle.hex.proofs.HexLemmas.{decode_of-ok}
use Rattle.plant_conf.specs.Forms.{at_most}

long-cases : (text : List ℕ) (r : Result (List ℕ) FromHexError) → r ≡ decode_of text → 512 < length text / 2 → None ≡ at_most 512 r
long-cases text (Err e) q h = refl
long-cases text (Ok bytes) q h = grind (arith, common_steps, decode_of-ok text bytes (sym q), (decode_of-ok text bytes (sym q)).2)

-- more digits than those of 512 bytes aren't at most 512 bytes
pub too_long : (text : List ℕ) → 512 < length text / 2 → None ≡ at_most 512 (decode_of text)
too_long text h = long-cases text (decode_of text) refl h
