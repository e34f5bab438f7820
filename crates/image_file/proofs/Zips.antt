-- Two lists side by side.
use Rattle.image_file.proofs.Common.{AllZip, all_zipped_more, take_all, take_more}
use Rattle.std.proofs.Common.{◌≡◌, ◌≤◌, ◌<◌, ◌+◌, ℕ, List, [], ◌∷◌, ◌++◌, length, take, get_or, map, refl, sym, ap, ap₂, subst, ◌∙◌}

-- two words say the same of both lists, where they do of each pair
pub zip_same : {A B C : Type 0} (R : A → B → Type 0) (f : A → C) (g : B → C) (xs : List A) (ys : List B) → ((x : A) (y : B) → R x y → g y ≡ f x) → AllZip R xs ys → map g ys ≡ map f xs
zip_same R f g [] [] one z = refl
zip_same {A} {B} {C} R f g (x ∷ xs) (y ∷ ys) one z = ap₂ (λ (c : C) (cs : List C). c ∷ cs) (one x y z.0) (zip_same R f g xs ys one z.1)
zip_same R f g _ _ one z = absurd z

-- one more at the end of both
pub zip_more : {A B : Type 0} (R : A → B → Type 0) (xs : List A) (ys ys' : List B) (i : ℕ) (x : A) (y : B) → i < length xs → x ≡ get_or xs i x → AllZip R (take i xs) ys → R x y → ys' ≡ ys ++ y ∷ [] → AllZip R (take (i + 1) xs) ys'
zip_more R xs ys ys' i x y h e z r is =
    let more : take (i + 1) xs ≡ take i xs ++ x ∷ [] = take_more xs i x h ∙ ap (λ a. take i xs ++ a ∷ []) (sym e) in
    rw (more, is) (all_zipped_more R (take i xs) ys x y z r)

pub zip_last : {A B : Type 0} (R : A → B → Type 0) (xs all : List A) (ys ys' : List B) (x : A) (y : B) → AllZip R xs ys → R x y → all ≡ xs ++ x ∷ [] → ys' ≡ ys ++ y ∷ [] → AllZip R all ys'
zip_last R xs all ys ys' x y z r e is = rw (e, is) (all_zipped_more R xs ys x y z r)

-- so far as both go
pub zip_whole : {A B : Type 0} (R : A → B → Type 0) (xs : List A) (ys : List B) (i : ℕ) → length xs ≤ i → AllZip R (take i xs) ys → AllZip R xs ys
zip_whole R xs ys i h z = subst (λ xs. AllZip R xs ys) (take_all i xs h) z
