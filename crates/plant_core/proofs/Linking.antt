-- What holds of each connection and of what is kept of it.
use Rattle.plant_core.proofs.Common.{EachLink, LinkConf, LinkView}
use Rattle.std.proofs.Common.{◌≡◌, ◌≢◌, ◌≤◌, ◌<◌, ℕ, zero, suc, ◌+◌, List, [], ◌∷◌, length, slice_get, slice_set, Some, refl, sym, ap, subst, arith}

-- the number of a connection by its place
pub from_one : (n place : ℕ) → n ≡ suc place → n ≡ 1 + place
from_one n place e = omega arith

-- the connection of which something is kept at a place
pub record Beside (P : LinkConf → Type 0) (links : List LinkConf) (place : ℕ) : Type 0 where
  pub link : LinkConf
  pub is : slice_get links place ≡ Some link
  pub holds : P link

pub each_at : (P : ℕ → LinkConf → LinkView → Type 0) (k : ℕ) (links : List LinkConf) (vs : List LinkView) (place n : ℕ) (v : LinkView) → EachLink P k links vs → slice_get vs place ≡ Some v → n ≡ k + place
    → Beside (λ link. P n link v) links place
each_at P k [] [] place n v h e i = cc
each_at P k (link ∷ links) (x ∷ vs) zero n v h e i =
    let same : x ≡ v = cc in
    let number : k ≡ n = omega arith in
    record { link = link; is = refl; holds = subst (λ (z : LinkView). P n link z) same (subst (λ (m : ℕ). P m link x) number h.0) }
each_at P k (link ∷ links) (x ∷ vs) (suc place) n v h e i =
    let at = each_at P (suc k) links vs place n v h.1 e (omega arith) in
    record { link = at.link; is = at.is; holds = at.holds }
each_at P k _ _ place n v h e i = absurd h

pub each_count : (P : ℕ → LinkConf → LinkView → Type 0) (k : ℕ) (links : List LinkConf) (vs : List LinkView) → EachLink P k links vs → length vs ≡ length links
each_count P k [] [] h = refl
each_count P k (link ∷ links) (v ∷ vs) h = ap suc (each_count P (suc k) links vs h.1)
each_count P k _ _ h = absurd h

-- what holds of each number from k on, and of each connection, follows
pub each_from : (P Q : ℕ → LinkConf → LinkView → Type 0) (k : ℕ) (links : List LinkConf) (vs : List LinkView) → EachLink P k links vs
    → ((n : ℕ) (link : LinkConf) (v : LinkView) → k ≤ n → n < k + length links → P n link v → Q n link v) → EachLink Q k links vs
each_from P Q k [] [] h f = tt
each_from P Q k (link ∷ links) (v ∷ vs) h f =
    (f k link v (omega arith) (omega arith) h.0, each_from P Q (suc k) links vs h.1 (λ n l w from below p. f n l w (omega arith) (omega arith) p))
each_from P Q k _ _ h f = absurd h

pub each_map : (P Q : ℕ → LinkConf → LinkView → Type 0) (k : ℕ) (links : List LinkConf) (vs : List LinkView) → EachLink P k links vs
    → ((n : ℕ) (link : LinkConf) (v : LinkView) → P n link v → Q n link v) → EachLink Q k links vs
each_map P Q k links vs h f = each_from P Q k links vs h (λ n link v from below p. f n link v p)

-- something else is kept at a place
pub each_set : (P Q : ℕ → LinkConf → LinkView → Type 0) (k : ℕ) (links : List LinkConf) (vs : List LinkView) (place n : ℕ) (old new : LinkView) → EachLink P k links vs → slice_get vs place ≡ Some old
    → n ≡ k + place → ((link : LinkConf) → slice_get links place ≡ Some link → P n link old → Q n link new)
    → ((m : ℕ) (link : LinkConf) (v : LinkView) → m ≢ n → P m link v → Q m link v) → EachLink Q k links (slice_set vs place new)
each_set P Q k [] [] place n old new h e i f others = absurd (cc e)
each_set P Q k (link ∷ links) (v ∷ vs) zero n old new h e i f others =
    let same : v ≡ old = cc in
    let number : k ≡ n = omega arith in
    let here : P n link old = subst (λ (z : LinkView). P n link z) same (subst (λ (m : ℕ). P m link v) number h.0) in (
      subst (λ (m : ℕ). Q m link new) (sym number) (f link refl here),
      each_from P Q (suc k) links vs h.1 (λ m l w from below p. others m l w (λ z. absurd (omega arith)) p),
    )
each_set P Q k (link ∷ links) (v ∷ vs) (suc place) n old new h e i f others = (
  others k link v (λ z. absurd (omega arith)) h.0,
  each_set P Q (suc k) links vs place n old new h.1 e (omega arith) f others,
)
each_set P Q k _ _ place n old new h e i f others = absurd h
