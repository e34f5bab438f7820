-- Bytes behind those that are written stay.
use Rattle.std.proofs.Common.{◌≡◌, ℕ, ◌+◌, ◌-◌, ◌≤◌, List, length, take, drop, ap, sym, ◌∙◌, arith}
use Rattle.std.proofs.lemmas.List.{length-take-le}
use borrow.Rule.Slice.PartMut.{put_mid}
use Rattle.std.proofs.lemmas.Slice.{drop-put_mid}
use Rattle.std.proofs.Math.Seq.{drop-drop}
use Rattle.std.proofs.Math.ListN.{length-drop}

-- what stands from a place on is what stood there, also from a later place on, where bytes are written before that
pub past_on : (from to : ℕ) (bytes piece before : List ℕ) → from ≤ to → to ≤ length bytes → length piece ≡ length (take (to - from) (drop from bytes)) → drop from bytes ≡ drop from before
    → drop to (put_mid from (to - from) bytes piece) ≡ drop to before
past_on from to bytes piece before order room len past =
    let there : from + (to - from) ≡ to = omega arith in
    let fits : length piece ≡ to - from = len ∙ length-take-le (to - from) (drop from bytes) (omega (arith, length-drop from bytes)) in
    drop-put_mid from (to - from) bytes piece to (omega arith) (omega arith) fits
    ∙ ap (λ (n : ℕ). drop n bytes) (sym there) ∙ sym (drop-drop (to - from) from bytes) ∙ ap (drop (to - from)) past ∙ drop-drop (to - from) from before
    ∙ ap (λ (n : ℕ). drop n before) there
