-- The frames that are delivered to a slot, and samples that change nothing.
use Rattle.process_image.proofs.Common.{ImageEvent, Move, Place, Plan, Unwritten, and_move, at_samples, slot_contents, distinct_after, frames_in, input, move_in, moves, slot_next_deed, option_map, output, pointwise, sampled, told, with_bytes}
use Rattle.std.proofs.Common.{◌≡◌, ℕ, ◌==◌, List, [], ◌∷◌, ◌++◌, replicate, Option, Some, None, Bool, true, nat_eq, if◌then◌else◌, refl, sym, ap, ap₂, ◌∙◌, arith, rules}
use Rattle.param_load.specs.declared.entry.Move.TheVariants as move
use Rattle.image_file.specs.declared.event.ImageEvent.TheVariants as event

-- where nothing was written since, what was sampled last is the input image
unwritten-is : (size : ℕ) (calls : List ImageEvent) → Unwritten calls → sampled size calls ≡ input size calls
unwritten-is size [] h = refl
unwritten-is size (event.Sample ∷ calls) h = refl
unwritten-is size (event.Write at bytes ∷ calls) h = absurd h
unwritten-is size (_ ∷ calls) h = unwritten-is size calls h

quiet-move : (size : ℕ) (p : Place) (calls : List ImageEvent) → Unwritten calls → move_in size p calls event.Sample ≡ None
quiet-move size p calls h = search (rules, unwritten-is)

pub quiet_told : (size : ℕ) (p : Place) (calls : List ImageEvent) → Unwritten calls → told size calls event.Sample p ≡ None
quiet_told size p calls h = ap (option_map (λ what. (slot_next_deed size p calls what).did)) (quiet-move size p calls h)

-- calls after it find the images as without it
input-alike : (size : ℕ) (later calls : List ImageEvent) → input size (later ++ event.Sample ∷ calls) ≡ input size (later ++ calls)
input-alike size [] calls = refl
input-alike size (event.Write at bytes ∷ later) calls = ap (with_bytes at bytes) (input-alike size later calls)
input-alike size (_ ∷ later) calls = input-alike size later calls

sampled-alike : (size : ℕ) (later calls : List ImageEvent) → Unwritten calls → sampled size (later ++ event.Sample ∷ calls) ≡ sampled size (later ++ calls)
sampled-alike size [] calls h = sym (unwritten-is size calls h)
sampled-alike size (event.Sample ∷ later) calls h = input-alike size later calls
sampled-alike size (_ ∷ later) calls h = sampled-alike size later calls h

move-alike : (size : ℕ) (p : Place) (later calls : List ImageEvent) (call : ImageEvent) → Unwritten calls → move_in size p (later ++ event.Sample ∷ calls) call ≡ move_in size p (later ++ calls) call
move-alike size p later calls call h = search (rules, sampled-alike, input-alike)

pub quiet_moves : (size : ℕ) (p : Place) (calls later : List ImageEvent) → Unwritten calls → moves size p (later ++ event.Sample ∷ calls) ≡ moves size p (later ++ calls)
quiet_moves size p calls [] h = ap (λ (o : Option Move). and_move o (moves size p calls)) (quiet-move size p calls h)
quiet_moves size p calls (call ∷ later) h = ap₂ and_move (move-alike size p later calls call h) (quiet_moves size p calls later h)

pub quiet_output : (plan : Plan) (calls later : List ImageEvent) → Unwritten calls → output plan (later ++ event.Sample ∷ calls) ≡ output plan (later ++ calls)
quiet_output plan calls later h = search (rules, quiet_moves)

-- the last of a list, where this comes before the first
abbrev last-of : List ℕ → List (List ℕ) → List ℕ
last-of before [] = before
last-of before (now ∷ later) = last-of now later

last-push : (before : List ℕ) (xs : List (List ℕ)) (x : List ℕ) → last-of before (xs ++ x ∷ []) ≡ x
last-push before [] x = refl
last-push before (y ∷ xs) x = last-push y xs x

-- the list with one more
abbrev one-if : List ℕ → List ℕ → List (List ℕ)
one-if before now = if pointwise nat_eq before now then [] else now ∷ []

push-by : (b : Bool) (y : List ℕ) (rest : List (List ℕ)) (more : List (List ℕ)) → (if b then rest ++ more else y ∷ (rest ++ more)) ≡ (if b then rest else y ∷ rest) ++ more
push-by b y rest more = grind arith

distinct-push : (before : List ℕ) (xs : List (List ℕ)) (x : List ℕ) → distinct_after before (xs ++ x ∷ []) ≡ distinct_after before xs ++ one-if (last-of before xs) x
distinct-push before [] x = refl
distinct-push before (y ∷ xs) x =
    ap (λ (later : List (List ℕ)). if pointwise nat_eq before y then later else y ∷ later) (distinct-push y xs x)
    ∙ push-by (pointwise nat_eq before y) y (distinct_after y xs) (one-if (last-of y xs) x)

-- the last contents are those of the last sample
last-is : (size : ℕ) (p : Place) (calls : List ImageEvent) → last-of (slot_contents p (replicate size 0)) (at_samples size p calls) ≡ slot_contents p (sampled size calls)
last-is size p [] = refl
last-is size p (event.Sample ∷ calls) = last-push (slot_contents p (replicate size 0)) (at_samples size p calls) (slot_contents p (input size calls))
last-is size p (_ ∷ calls) = last-is size p calls

-- the frames of moves with one more
frames-push : (ms : List Move) (what : Move) → frames_in (ms ++ what ∷ []) ≡ frames_in ms ++ frames_in (what ∷ [])
frames-push [] what = refl
frames-push (move.Deliver bytes ∷ ms) what = ap (λ (rest : List (List ℕ)). bytes ∷ rest) (frames-push ms what)
frames-push (_ ∷ ms) what = frames-push ms what

-- a move that delivers nothing
quiet-frames : (b : Bool) (what : Move) (ms : List Move) → frames_in (what ∷ []) ≡ [] → frames_in (and_move (if b then Some what else None) ms) ≡ frames_in ms
quiet-frames b what ms h = search (rules, frames-push)

sample-frames : (b : Bool) (now : List ℕ) (ms : List Move) → frames_in (and_move (if b then None else Some (move.Deliver now)) ms) ≡ frames_in ms ++ (if b then [] else now ∷ [])
sample-frames b now ms = search (rules, frames-push)

-- the frames that are delivered are the contents at the samples, without those that equal the ones before
pub distinct : (size : ℕ) (p : Place) (calls : List ImageEvent) → frames_in (moves size p calls) ≡ distinct_after (slot_contents p (replicate size 0)) (at_samples size p calls)
distinct size p [] = refl
distinct size p (event.Write at bytes ∷ calls) = distinct size p calls
distinct size p (event.Sample ∷ calls) =
    let before : List ℕ = slot_contents p (sampled size calls) in
    let now : List ℕ = slot_contents p (input size calls) in
    sample-frames (pointwise nat_eq before now) now (moves size p calls)
    ∙ ap (λ (xs : List (List ℕ)). xs ++ one-if before now) (distinct size p calls)
    ∙ ap (λ (last : List ℕ). distinct_after (slot_contents p (replicate size 0)) (at_samples size p calls) ++ one-if last now) (sym (last-is size p calls))
    ∙ sym (distinct-push (slot_contents p (replicate size 0)) (at_samples size p calls) now)
distinct size p (event.Tick ∷ calls) = quiet-frames true move.Tick (moves size p calls) refl ∙ distinct size p calls
distinct size p (event.Put slot load ∷ calls) = quiet-frames (slot == p.number) (move.Put load) (moves size p calls) refl ∙ distinct size p calls
distinct size p (event.Hold slot failsafe ∷ calls) = quiet-frames (slot == p.number) (move.Hold failsafe) (moves size p calls) refl ∙ distinct size p calls
distinct size p (event.Nonce slot id ∷ calls) = quiet-frames (slot == p.number) (move.Nonce id) (moves size p calls) refl ∙ distinct size p calls
distinct size p (event.Reset slot ∷ calls) = quiet-frames (slot == p.number) move.Local (moves size p calls) refl ∙ distinct size p calls
