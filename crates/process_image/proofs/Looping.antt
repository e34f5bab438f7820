-- Loops over all slots, step by step.
use Rattle.process_image.proofs.Common.{All-get_or, All-nil, All-push, Does, DoesEach, Seat, SeatStep, after_steps, take_all, take_more, with_sent}
use Rattle.std.proofs.Common.{◌≡◌, ◌≤◌, ℕ, ◌+◌, ◌<◌, List, [], ◌∷◌, ◌++◌, map, length, take, drop, get_or, slice_set, All, ◌==◌, refl, sym, ap, ap₂, ◌∙◌, arith}
use Rattle.std.proofs.lemmas.List.{drop-drop, drop-set-lt, get_or-drop, map-append, take_more_set}
use Rattle.process_image.proofs.Giving.{sent_size}

-- one step more
push : {S A : Type 0} (f : S → A) (steps : List S) (x : S) (front : List A) (a : A) → map f steps ≡ front → f x ≡ a → map f (steps ++ x ∷ []) ≡ front ++ a ∷ []
push {S} {A} f steps x front a h e = map-append f steps (x ∷ []) ∙ ap₂ (λ (front : List A) (b : A). front ++ b ∷ []) h e

steps-push : (steps : List SeatStep) (x : SeatStep) (image : List ℕ) → after_steps (steps ++ x ∷ []) image ≡ with_sent x.old x.sent (after_steps steps image)
steps-push [] x image = refl
steps-push (y ∷ steps) x image = steps-push steps x (with_sent y.old y.sent image)

-- the first of the slots did their part, so many, and this is told of them
pub record DoneSoFar {T : Type 0} (Q : SeatStep → Type 0) (tell : SeatStep → T) (old : List Seat) (before : List ℕ) (new : List Seat) (after : List ℕ) (told : List T) (i : ℕ) : Type 0 where
  pub done : DoesEach Q tell (take i old) before (take i new) after (take i told)
  pub left : drop i new ≡ drop i old
  pub size : length after ≡ length before

pub does_begun : {T : Type 0} (Q : SeatStep → Type 0) (tell : SeatStep → T) (old : List Seat) (image : List ℕ) (told : List T) → DoneSoFar Q tell old image old image told 0
does_begun Q tell old image told = record { done = record { steps = []; each = All-nil Q; old_are = refl; new_are = refl; told_are = refl; output_is = refl }; left = refl; size = refl }

-- the next of them is as it was
next-slot : (old new : List Seat) (i : ℕ) (seat : Seat) → drop i new ≡ drop i old → get_or new i seat ≡ get_or old i seat
next-slot old new i seat left =
    let e : i + 0 ≡ i = omega arith in
    ap (λ (k : ℕ). get_or new k seat) (sym e) ∙ sym (get_or-drop i new 0 seat) ∙ ap (λ (seats : List Seat). get_or seats 0 seat) left ∙ get_or-drop i old 0 seat ∙ ap (λ (k : ℕ). get_or old k seat) e

-- so it has the property of all
pub next_has : {T : Type 0} {Q : SeatStep → Type 0} {tell : SeatStep → T} {before : List ℕ} {new : List Seat} {after : List ℕ} {told : List T} {i : ℕ} (P : ℕ → Seat → Type 0) (old : List Seat) (seat : Seat) → All (P (length before)) old → i < length old
    → DoneSoFar Q tell old before new after told i → P (length after) (get_or new i seat)
next_has {T} {Q} {tell} {before} {new} {after} {told} {i} P old seat all in-old p =
    rw (p.size, next-slot old new i seat p.left) (All-get_or (P (length before)) old i seat in-old all)

pub does_more : {T : Type 0} (Q : SeatStep → Type 0) (tell : SeatStep → T) (old : List Seat) (before : List ℕ) (new : List Seat) (after after' : List ℕ) (told : List T) (i : ℕ) (seat seat' : Seat) (t' : T)
    → i < length old → i < length new → i < length told → (get_or new i seat).at_out + (get_or new i seat).len_out ≤ length after → DoneSoFar Q tell old before new after told i → Does Q tell (get_or new i seat) after seat' after' t'
    → DoneSoFar Q tell old before (slice_set new i seat') after' (slice_set told i t') (i + 1)
does_more Q tell old before new after after' told i seat seat' t' in-old in-new in-told inside p d =
    let now : Seat = get_or new i seat in
    let q = p.done in
    record {
      done = record {
        steps = q.steps ++ d.step ∷ [];
        each = All-push Q q.steps d.step q.each d.is;
        old_are = push (λ (x : SeatStep). x.old) q.steps d.step (take i old) (get_or old i seat) q.old_are (d.old_is ∙ next-slot old new i seat p.left) ∙ sym (take_more old i seat in-old);
        new_are = push (λ (x : SeatStep). x.new) q.steps d.step (take i new) seat' q.new_are d.new_is ∙ sym (take_more_set new i seat' in-new);
        told_are = take_more_set told i t' in-told ∙ sym (push tell q.steps d.step (take i told) t' (sym q.told_are) (sym d.told_is));
        output_is = d.output_is ∙ ap (λ s. with_sent s d.step.sent after) (sym d.old_is) ∙ ap (with_sent d.step.old d.step.sent) q.output_is ∙ sym (steps-push q.steps d.step before);
      };
      left = drop-set-lt (i + 1) new i seat' (omega arith) ∙ sym (drop-drop 1 i new) ∙ ap (drop 1) p.left ∙ drop-drop 1 i old;
      size = ap length d.output_is ∙ sent_size now.at_out now.len_out d.step.sent after (length d.step.sent == now.len_out) refl inside ∙ p.size;
    }

-- all of them did
pub does_whole : {T : Type 0} {Q : SeatStep → Type 0} {tell : SeatStep → T} {old new : List Seat} {before after : List ℕ} {told : List T} {i : ℕ} → DoneSoFar Q tell old before new after told i → length old ≤ i → length new ≤ i → length told ≤ i
    → DoesEach Q tell old before new after told
does_whole {T} {Q} {tell} {old} {new} {before} {after} {told} {i} p h k l = rw (take_all i old h, take_all i new k, take_all i told l) at p.done
