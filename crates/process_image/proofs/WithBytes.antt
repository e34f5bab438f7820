-- Bytes that are written into an image, one run after another.
use Rattle.process_image.proofs.Common.{common_steps, with_bytes}
use Rattle.std.proofs.Common.{◌≡◌, ℕ, ◌+◌, ◌-◌, ◌≤◌, List, ◌++◌, length, take, drop, sym, arith}
use Rattle.std.proofs.lemmas.List.{drop-take, take-take}
use Rattle.std.proofs.lemmas.Slice.{drop-append-drop}
use Rattle.std.proofs.Math.Seq.{take-append-add}

-- the number of bytes stays
pub same_size : (at : ℕ) (bytes image : List ℕ) → at + length bytes ≤ length image → length (with_bytes at bytes image) ≡ length image
same_size at bytes image h = grind (arith, common_steps)

-- bytes in the same place are overwritten
pub again : (at : ℕ) (g f image : List ℕ) → length g ≡ length f → at + length f ≤ length image → with_bytes at g (with_bytes at f image) ≡ with_bytes at g image
again at g f image h k = grind (arith, common_steps)

-- bytes behind those that were written stay
pub stay_behind : (at b : ℕ) (f image : List ℕ) → b + length f ≤ at → b + length f ≤ length image → drop at (with_bytes b f image) ≡ drop at image
stay_behind at b f image h k = grind (arith, common_steps, drop-append-drop {X = ℕ})

-- bytes that are written into the first part of an image leave the rest, and the first part is then as if it were alone
in-part : (a : ℕ) (g xs ys : List ℕ) → a + length g ≤ length xs → with_bytes a g (xs ++ ys) ≡ with_bytes a g xs ++ ys
in-part a g xs ys h = grind (arith, common_steps)

within : (a : ℕ) (g : List ℕ) (b : ℕ) (image : List ℕ) → a + length g ≤ b → b ≤ length image → take b (with_bytes a g image) ≡ with_bytes a g (take b image)
within a g b image h inside =
    let n : a + length g + (b - (a + length g)) ≡ b = omega arith in
    let long : length (take a image ++ g) ≡ a + length g = grind (arith, common_steps) in
    let first = take-append-add (take a image ++ g) (drop (a + length g) image) (b - (a + length g)) in
    let rest = drop-take (a + length g) (b - (a + length g)) image in
    rw (take-take a b image (omega arith), rw n at rest) (rw (long, n) at first)

-- bytes of places apart may be written in either order
in_front : (a : ℕ) (g : List ℕ) (b : ℕ) (f image : List ℕ) → a + length g ≤ b → b + length f ≤ length image → with_bytes a g (with_bytes b f image) ≡ with_bytes b f (with_bytes a g image)
in_front a g b f image h inside =
    let w = within a g b image h (omega arith) in
    let s = stay_behind (b + length f) a g image (omega arith) (omega arith) in
    grind (arith, common_steps, w, s, in-part a g (take b image) f, in-part a g (take b image ++ f) (drop (b + length f) image))

pub behind : (a : ℕ) (g : List ℕ) (b : ℕ) (f image : List ℕ) → b + length f ≤ a → a + length g ≤ length image → with_bytes a g (with_bytes b f image) ≡ with_bytes b f (with_bytes a g image)
behind a g b f image h inside = sym (in_front b f a g image h inside)
