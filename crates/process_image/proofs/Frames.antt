-- What an output image has at each slot, and beside all slots.
use Rattle.process_image.proofs.Common.{All-cons, All-head, All-nil, All-tail, HoldsFrames, ImageEvent, ImagesView, IsBeside, Place, Plan, ShowsFrames, StandsFor, WritesFit, bytes_at, common_steps, slot_contents, input, length-replicate, output, share, spans_of, with_bytes, with_frames}
use Rattle.std.proofs.Common.{◌≡◌, ◌≤◌, ◌+◌, ◌-◌, ◌⊎◌, ℕ, List, [], ◌∷◌, length, take, drop, All, false, refl, sym, ap, ◌∙◌, arith, rules}
use Rattle.std.proofs.lemmas.List.{drop-take}
use Rattle.image_file.specs.declared.event.ImageEvent.TheVariants as event
use Rattle.process_image.proofs.Apart.{plan_apart}
use Rattle.process_image.proofs.Beginning.{zeros_at}
use Rattle.process_image.proofs.Following.{seats_long}
use Rattle.process_image.proofs.Giving.{len_at, IsAway, AwayFrom, AreApart, AreLong, frames_long}
use Rattle.process_image.proofs.WithBytes.{same_size, stay_behind}

-- so many bytes from a place on, said by their number
bytes-are : (at len : ℕ) (image : List ℕ) → bytes_at at len image ≡ take len (drop at image)
bytes-are at len image = let n : at + len - at ≡ len = omega arith in ap (λ (k : ℕ). take k (drop at image)) n

-- bytes stand where they were written
there : (at : ℕ) (f image : List ℕ) → at + length f ≤ length image → take (length f) (drop at (with_bytes at f image)) ≡ f
there at f image h = grind (arith, common_steps)

front-stays : (len b : ℕ) (f image : List ℕ) → len ≤ b → b + length f ≤ length image → take len (with_bytes b f image) ≡ take len image
front-stays len b f image h k = grind (arith, common_steps)

pub stay_before : (at len b : ℕ) (f image : List ℕ) → at + len ≤ b → b + length f ≤ length image → take len (drop at (with_bytes b f image)) ≡ take len (drop at image)
stay_before at len b f image h inside = sym (drop-take at len (with_bytes b f image)) ∙ ap (drop at) (front-stays (at + len) b f image h inside) ∙ drop-take at len image

-- bytes beside those that were written stay
pub stays : (at len b : ℕ) (f image : List ℕ) → ((at + len ≤ b) ⊎ (b + length f ≤ at)) → b + length f ≤ length image → bytes_at at len (with_bytes b f image) ≡ bytes_at at len image
stays at len b f image h k = search (rules, stay_before, stay_behind)

-- the frame of a slot in an image
abbrev Has : (Place → List ℕ) → List ℕ → Place → Type 0
Has frame image p = bytes_at p.at_out (len_at p) image ≡ frame p

swapped : (p q : Place) → IsAway p q → (q.at_out + len_at q ≤ p.at_out) ⊎ (p.at_out + len_at p ≤ q.at_out)
swapped p q h = grind arith

-- one frame more leaves those of slots that are away
kept : (frame : Place → List ℕ) (p : Place) (f image : List ℕ) (places : List Place) → AwayFrom p places → length f ≡ len_at p → p.at_out + length f ≤ length image → All (Has frame image) places
    → All (Has frame (with_bytes p.at_out f image)) places
kept frame p f image [] away e inside has = All-nil (Has frame (with_bytes p.at_out f image))
kept frame p f image (q ∷ places) away e inside has =
    let apart : (q.at_out + len_at q ≤ p.at_out) ⊎ (p.at_out + length f ≤ q.at_out) = rw e (swapped p q away.0) in
    All-cons (Has frame (with_bytes p.at_out f image)) q places (stays q.at_out (len_at q) p.at_out f image apart inside ∙ All-head (Has frame image) q places has)
    (kept frame p f image places away.1 e inside (All-tail (Has frame image) q places has))

pub frames_there : (frame : Place → List ℕ) (size_in size : ℕ) (places : List Place) (image : List ℕ) → AreApart size_in size places → AreLong frame places → length image ≡ size → All (Has frame (with_frames frame places image)) places
frames_there frame size_in size [] image apart long n = All-nil (Has frame image)
frames_there frame size_in size (p ∷ places) image apart long n =
    let e : length (frame p) ≡ len_at p = All-head (λ p. length (frame p) ≡ len_at p) p places long in
    let rest : List ℕ = with_frames frame places image in
    let more : AreLong frame places = All-tail (λ p. length (frame p) ≡ len_at p) p places long in
    let m : length rest ≡ size = frames_long frame size_in size places image apart.3 more n in
    let inside : p.at_out + length (frame p) ≤ length rest = rw (e, m) apart.0 in
    All-cons (Has frame (with_frames frame (p ∷ places) image)) p places
    (bytes-are p.at_out (len_at p) (with_bytes p.at_out (frame p) rest) ∙ ap (λ (k : ℕ). take k (drop p.at_out (with_bytes p.at_out (frame p) rest))) (sym e) ∙ there p.at_out (frame p) rest inside)
    (kept frame p (frame p) rest places apart.1 e inside (frames_there frame size_in size places image apart.3 more n))

-- bytes beside all slots are those of the image without frames
unshared : (at len b lb : ℕ) → share at len b lb ≡ false → (at + len ≤ b) ⊎ (b + lb ≤ at)
unshared at len b lb h = grind arith

pub beside_all : (frame : Place → List ℕ) (size_in size : ℕ) (places : List Place) (image : List ℕ) (at len : ℕ) → AreApart size_in size places → AreLong frame places → length image ≡ size → All (IsBeside at len) places
    → bytes_at at len (with_frames frame places image) ≡ bytes_at at len image
beside_all frame size_in size [] image at len apart long n beside = refl
beside_all frame size_in size (p ∷ places) image at len apart long n beside =
    let e : length (frame p) ≡ len_at p = All-head (λ p. length (frame p) ≡ len_at p) p places long in
    let rest : List ℕ = with_frames frame places image in
    let more : AreLong frame places = All-tail (λ p. length (frame p) ≡ len_at p) p places long in
    let m : length rest ≡ size = frames_long frame size_in size places image apart.3 more n in
    let one : (at + len ≤ p.at_out) ⊎ (p.at_out + length (frame p) ≤ at) = rw e (unshared at len p.at_out (len_at p) (All-head (IsBeside at len) p places beside)) in
    stays at len p.at_out (frame p) rest one (rw (e, m) apart.0) ∙ beside_all frame size_in size places image at len apart.3 more n (All-tail (IsBeside at len) p places beside)

-- so of images that stand for calls
pub holds_frames : (plan : Plan) (v : ImagesView) (calls : List ImageEvent) → StandsFor plan v calls → HoldsFrames plan calls (output plan calls)
holds_frames plan v calls h = search (rules, plan_apart, seats_long, length-replicate, frames_there, beside_all, zeros_at)

pub shows_frames : (v : ImagesView) (shown : List ℕ) → shown ≡ v.output → ShowsFrames v shown
shows_frames v shown e = record { shows = λ plan calls h. rw (e, h.output_is) (holds_frames plan v calls h) }

-- a write beside a slot leaves its contents
input-size : (size : ℕ) (calls : List ImageEvent) → WritesFit size calls → length (input size calls) ≡ size
input-size size [] fit = length-replicate size 0
input-size size (event.Write at bytes ∷ calls) fit =
    let n : length (input size calls) ≡ size = input-size size calls fit.1 in
    same_size at bytes (input size calls) (rw n fit.0) ∙ n
input-size size (_ ∷ calls) fit = input-size size calls fit

pub write_beside : (size at : ℕ) (bytes : List ℕ) (p : Place) (calls : List ImageEvent) → WritesFit size (event.Write at bytes ∷ calls) → share p.at_in (spans_of p).len_in at (length bytes) ≡ false
    → slot_contents p (input size (event.Write at bytes ∷ calls)) ≡ slot_contents p (input size calls)
write_beside size at bytes p calls h k = search (rules, input-size, stays)
