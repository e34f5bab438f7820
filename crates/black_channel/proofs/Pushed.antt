-- A window that is pushed a frame stands for the frames with it, and gives each of them back.
use Rattle.std.proofs.Common.{◌≡◌, ◌⊎◌, inl, inr, ℕ, zero, suc, ◌+◌, ◌-◌, ◌%◌, ◌^◌, ◌<◌, ◌≤◌, min, List, [], ◌∷◌, ◌++◌, length, get_or, set, take, drop, reverse, slice_get, Option, Some, None, refl, sym, ap, ap₂, ◌∙◌, append_assoc, add-one, arith, rules}
use Rattle.std.specs.List.{refill}
use Rattle.std.proofs.lemmas.List.{reverse-append, length-reverse, take_more_set, drop-set-lt, length-append, length-take, length-drop, length-set, get_or-reverse, get_or-append_right, get_or-take, get_or-drop, append-nil}
use Rattle.std.proofs.lemmas.Option.{slice_get_past, slice_get-get_or}
use Rattle.std.proofs.Math.ListN.{get_or-append, drop_of_length-le}
use Rattle.std.proofs.Math.Nat.{mod-eq_of_lt}
use Rattle.std.proofs.Math.Seq.{drop-cons}
use Rattle.black_channel.specs.Window.{WindowView, Pushes, Tells, newest_first}
use Rattle.black_channel.specs.Altered.{back_th}
use Rattle.std.proofs.lemmas.Grind.{common_steps}

order : (a b : ℕ) → (a < b) ⊎ (b ≤ a)
order a b = grind arith

take-whole : (xs ys : List (List ℕ)) (n : ℕ) → length xs ≡ n → take n (xs ++ ys) ≡ xs
take-whole xs ys n h = grind (arith, common_steps)

take-short : (xs : List (List ℕ)) (n : ℕ) → length xs ≤ n → take n xs ≡ xs
take-short xs n h = grind (arith, common_steps)

-- a list without its first item and with another one at its end, from its end
turned-list : (k : ℕ) (xs : List (List ℕ)) (x : List ℕ) → length xs ≡ suc k → reverse (drop 1 xs ++ x ∷ []) ≡ x ∷ take k (reverse xs)
turned-list k xs x h = grind (arith, common_steps)

-- the places of a ring after a frame came in place of the oldest
next-place : (ring : List (List ℕ)) (next : ℕ) (frame : List ℕ) → next < length ring
    → drop (next + 1) (set ring next frame) ++ take (next + 1) (set ring next frame) ≡ drop 1 (drop next ring ++ take next ring) ++ frame ∷ []
next-place ring next frame h =
    let d : drop next ring ≡ get_or ring next [] ∷ drop (suc next) ring = drop-cons ring next [] h in
    ap₂ (λ (a b : List (List ℕ)). a ++ b) (drop-set-lt (next + 1) ring next frame (omega arith) ∙ ap (λ (n : ℕ). drop n ring) (add-one next)) (take_more_set ring next frame h)
    ∙ sym (append_assoc (drop (suc next) ring) (take next ring) (frame ∷ []))
    ∙ ap (λ (l : List (List ℕ)). drop 1 (l ++ take next ring) ++ frame ∷ []) (sym d)

-- a ring that begins anew at its first place
anew : (n : ℕ) (ring : List (List ℕ)) → length ring ≤ n → newest_first 0 ring ≡ reverse (drop n ring ++ take n ring)
anew n ring h = ap reverse (append-nil ring ∙ sym (ap₂ (λ (a b : List (List ℕ)). a ++ b) (drop_of_length-le ring h) (take-short ring n h)))

next-frame : (next place : ℕ) (ring : List (List ℕ)) (frame : List ℕ) → next < 64 → length ring ≡ 64 → place ≡ (next + 1) % 64
    → newest_first place (set ring next frame) ≡ reverse (drop (next + 1) (set ring next frame) ++ take (next + 1) (set ring next frame))
next-frame next place ring frame h n is = elim (order (next + 1) 64) [
  | inl more ↦ ap (λ (p : ℕ). newest_first p (set ring next frame)) (is ∙ mod-eq_of_lt more)
  | inr last ↦
      let q : next + 1 ≡ 64 = omega arith in
      let p : place ≡ 0 = is ∙ ap (λ (n : ℕ). n % 64) q in
      ap (λ (p : ℕ). newest_first p (set ring next frame)) p ∙ anew (next + 1) (set ring next frame) (omega (arith, length-set ring next frame))
]

whole-slice : (ring ws : List (List ℕ)) → length ws ≡ length ring → refill (length ring) ring ws ≡ ws
whole-slice ring ws h = take-whole ws (drop (length ws) ring) (length ring) h

pub turned : (next : ℕ) (ring : List (List ℕ)) (frame : List ℕ) → length ring ≡ 64 → next < 64 → newest_first ((next + 1) % 64) (refill (length ring) ring (set ring next frame)) ≡ take 64 (frame ∷ newest_first next ring)
turned next ring frame n h =
    let l : length (drop next ring ++ take next ring) ≡ 64 = omega (arith, length-append (drop next ring) (take next ring), length-drop next ring, length-take next ring) in
    ap (newest_first ((next + 1) % 64)) (whole-slice ring (set ring next frame) (length-set ring next frame))
    ∙ next-frame next ((next + 1) % 64) ring frame h n refl
    ∙ ap reverse (next-place ring next frame (omega arith))
    ∙ turned-list 63 (drop next ring ++ take next ring) frame l

pub grown : (ring : List (List ℕ)) (frame : List ℕ) → length ring < 64 → newest_first 0 (ring ++ frame ∷ []) ≡ take 64 (frame ∷ newest_first 0 ring)
grown ring frame h =
    ap reverse (append-nil (ring ++ frame ∷ []))
    ∙ reverse-append ring (frame ∷ [])
    ∙ ap (λ (l : List (List ℕ)). frame ∷ l) (sym (take-short (reverse ring) 63 (omega (arith, length-reverse ring))) ∙ sym (ap (λ (l : List (List ℕ)). take 63 (reverse l)) (append-nil ring)))

at-place : (ring : List (List ℕ)) (next i place : ℕ) (d : List ℕ) → next ≤ length ring → (i + next < length ring → place ≡ next + i) → (length ring ≤ i + next → i ≡ (length ring - next) + place) → i < length ring
    → get_or (drop next ring ++ take next ring) i d ≡ get_or ring place d
at-place ring next i place d h low high inside = elim (order (i + next) (length ring)) [
  | inl before ↦
      get_or-append (drop next ring) (take next ring) d i (omega (arith, length-drop next ring))
      ∙ get_or-drop next ring i d ∙ ap (λ (p : ℕ). get_or ring p d) (sym (low before))
  | inr after ↦
      let e : i ≡ (length ring - next) + place = high after in
      get_or-append_right (drop next ring) (take next ring) (length ring - next) i d (length-drop next ring) (omega arith)
      ∙ ap (λ (p : ℕ). get_or (take next ring) p d) (let q : i - (length ring - next) ≡ place = omega arith in q)
      ∙ get_or-take next ring place d (omega arith)
]

found-back : (ring : List (List ℕ)) (next k place : ℕ) (x : List ℕ) → suc k ≤ length ring → next ≤ length ring
    → (suc k ≤ next → place ≡ next - suc k) → (next < suc k → place ≡ next + length ring - suc k) → x ≡ get_or ring place x → Some x ≡ slice_get (newest_first next ring) k
found-back ring next k place x within place-in low high is =
    let l : List (List ℕ) = drop next ring ++ take next ring in
    let n : length l ≡ length ring = omega (arith, length-append (drop next ring) (take next ring), length-drop next ring, length-take next ring) in
    let i : length l - 1 - k ≡ length ring - suc k = omega arith in
    let a : get_or (reverse l) k x ≡ get_or l (length l - 1 - k) x = get_or-reverse l k x (omega arith) in
    let b : get_or l (length ring - suc k) x ≡ get_or ring place x =
    at-place ring next (length ring - suc k) place x place-in
    (λ h. let q : place ≡ next + length ring - suc k = high (omega arith) in omega arith)
    (λ h. let q : place ≡ next - suc k = low (omega arith) in omega arith)
    (omega arith) in
    ap Some (is ∙ sym b ∙ ap (λ (i : ℕ). get_or l i x) (sym i) ∙ sym a) ∙ sym (slice_get-get_or (reverse l) k x (omega (arith, length-reverse l)))

pub found_at : (ring : List (List ℕ)) (next j place : ℕ) (x : List ℕ) → 1 ≤ j → j ≤ length ring → next ≤ length ring
    → (j ≤ next → place ≡ next - j) → (next < j → place ≡ next + length ring - j) → x ≡ get_or ring place x → Some x ≡ back_th j (newest_first next ring)
found_at ring next j place x h k l m n o = search (rules, found-back)

pub not_found : (ring : List (List ℕ)) (next j : ℕ) → next ≤ length ring → length ring < j → None ≡ back_th j (newest_first next ring)
not_found ring next j h k = grind (arith, common_steps, slice_get_past)

-- the first of the first of a list
fewer : (n : ℕ) (xs : List (List ℕ)) → take n (take (suc n) xs) ≡ take n xs
fewer n xs = grind (arith, common_steps)

one-more : (n most : ℕ) → min (min n most + 1) most ≡ min (suc n) most
one-more n most = omega arith

same-view : (f g : List (List ℕ)) (m n : ℕ) → f ≡ g → m ≡ n → (let v : WindowView = record { frames = f; sent = m } in v) ≡ record { frames = g; sent = n }
same-view f g m n h i = cc

pub pushes_by : (old new : WindowView) (frame : List ℕ) → new.frames ≡ take 64 (frame ∷ old.frames) → new.sent ≡ min (old.sent + 1) (2 ^ 64 - 1) → Pushes old frame new
pushes_by old new frame f s = record {
  stands = λ frames is.
      same-view new.frames (take 64 (frame ∷ frames)) new.sent (min (suc (length frames)) (2 ^ 64 - 1))
      (f ∙ ap (λ (v : WindowView). frame ∷ take 63 v.frames) is ∙ ap (λ (l : List (List ℕ)). frame ∷ l) (fewer 63 frames))
      (s ∙ ap (λ (v : WindowView). min (v.sent + 1) (2 ^ 64 - 1)) is ∙ one-more (length frames) (2 ^ 64 - 1));
}

within : (n k : ℕ) (xs : List (List ℕ)) → k < n → slice_get (take n xs) k ≡ slice_get xs k
within zero k xs h = absurd (omega arith)
within (suc n) k [] h = refl
within (suc n) zero (x ∷ xs) h = refl
within (suc n) (suc k) (x ∷ xs) h = within n k xs (omega arith)

pub back_within : (n j : ℕ) (frames : List (List ℕ)) → j ≤ n → back_th j (take n frames) ≡ back_th j frames
back_within n j frames h = search (rules, within)

pub tells_by : (v : WindowView) (j : ℕ) (told : Option (List ℕ)) → j ≤ 64 → told ≡ back_th j v.frames → Tells v j told
tells_by v j told h is = record { tells = λ frames e. is ∙ ap (λ (v : WindowView). back_th j v.frames) e ∙ back_within 64 j frames h }
