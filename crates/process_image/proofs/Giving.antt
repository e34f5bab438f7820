-- The output image while slots send, one after another.
use Rattle.process_image.proofs.Common.{All-head, All-tail, AllZip, Place, SeatStep, after_steps, spans_of, with_bytes, with_frames, with_sent}
use Rattle.std.proofs.Common.{◌≡◌, ℕ, ◌+◌, ◌≤◌, ◌⊎◌, ◌==◌, List, [], ◌∷◌, length, All, Bool, if◌then◌else◌, refl, sym, ap, ◌∙◌, rules}
use Rattle.process_image.proofs.WithBytes.{again, behind, same_size}

-- the bytes of a frame that the end of a slot sends
abbrev pub len_at : Place → ℕ
len_at p = (spans_of p).len_out

-- no byte of the output image is shared
abbrev pub IsAway : Place → Place → Type 0
IsAway p q = (p.at_out + len_at p ≤ q.at_out) ⊎ (q.at_out + len_at q ≤ p.at_out)

abbrev pub AwayFrom : Place → List Place → Type 0
AwayFrom p [] = Unit {0}
AwayFrom p (q ∷ places) = IsAway p q × AwayFrom p places

-- these slots lie inside images of these sizes, and share no byte of the output image
abbrev pub AreApart : ℕ → ℕ → List Place → Type 0
AreApart size_in size [] = Unit {0}
AreApart size_in size (p ∷ places) = (p.at_out + len_at p ≤ size) × AwayFrom p places × (p.at_in + (spans_of p).len_in ≤ size_in) × AreApart size_in size places

-- what a slot gives in a step: its frame is then the one that was sent, or the one before
pub record Gives (frame frame' : Place → List ℕ) (p : Place) (x : SeatStep) : Type 0 where
  pub at_is : x.old.at_out ≡ p.at_out
  pub len_is : x.old.len_out ≡ len_at p
  pub frame_is : frame' p ≡ (if length x.sent == x.old.len_out then x.sent else frame p)
  pub new_long : length (frame' p) ≡ len_at p

-- one slot
put-by : (at len : ℕ) (sent f image : List ℕ) (b : Bool) → length sent == len ≡ b → length f ≡ len → at + len ≤ length image
    → (if b then with_bytes at sent (with_bytes at f image) else with_bytes at f image) ≡ with_bytes at (if b then sent else f) image
put-by at len sent f image b h k l = search (rules, again)

away-by : (at len : ℕ) (sent : List ℕ) (b : ℕ) (f image : List ℕ) (c : Bool) → length sent == len ≡ c → ((at + len ≤ b) ⊎ (b + length f ≤ at)) → at + len ≤ length image → b + length f ≤ length image
    → (if c then with_bytes at sent (with_bytes b f image) else with_bytes b f image) ≡ with_bytes b f (if c then with_bytes at sent image else image)
away-by at len sent b f image c h k l m = search (rules, behind)

pub sent_size : (at len : ℕ) (sent image : List ℕ) (c : Bool) → length sent == len ≡ c → at + len ≤ length image → length (if c then with_bytes at sent image else image) ≡ length image
sent_size at len sent image c h k = search (rules, same_size)

-- the steps of later slots leave this one
steps-away : (frame frame' : Place → List ℕ) (p : Place) (f : List ℕ) (size_in size : ℕ) (places : List Place) (xs : List SeatStep) (image : List ℕ) → AllZip (Gives frame frame') places xs → AwayFrom p places
    → AreApart size_in size places → length f ≡ len_at p → p.at_out + len_at p ≤ size → length image ≡ size → after_steps xs (with_bytes p.at_out f image) ≡ with_bytes p.at_out f (after_steps xs image)
steps-away frame frame' p f size_in size [] [] image g away apart e inside n = refl
steps-away frame frame' p f size_in size (q ∷ places) (x ∷ xs) image g away apart e inside n =
    let away' : (x.old.at_out + x.old.len_out ≤ p.at_out) ⊎ (p.at_out + length f ≤ x.old.at_out) = search rules in
    let inside' : x.old.at_out + x.old.len_out ≤ length image = rw (g.0.at_is, g.0.len_is, n) apart.0 in
    let one : with_sent x.old x.sent (with_bytes p.at_out f image) ≡ with_bytes p.at_out f (with_sent x.old x.sent image) =
    away-by x.old.at_out x.old.len_out x.sent p.at_out f image (length x.sent == x.old.len_out) refl away' inside' (rw (e, n) inside)
    in
    let n' : length (with_sent x.old x.sent image) ≡ size = sent_size x.old.at_out x.old.len_out x.sent image (length x.sent == x.old.len_out) refl inside' ∙ n in
    ap (after_steps xs) one ∙ steps-away frame frame' p f size_in size places xs (with_sent x.old x.sent image) g.1 away.1 apart.3 e inside n'
steps-away frame frame' p f size_in size _ _ image g away apart e inside n = absurd g

-- frames as long as those that their ends send
abbrev pub AreLong : (Place → List ℕ) → List Place → Type 0
AreLong frame places = All (λ p. length (frame p) ≡ len_at p) places

pub frames_long : (frame : Place → List ℕ) (size_in size : ℕ) (places : List Place) (image : List ℕ) → AreApart size_in size places → AreLong frame places → length image ≡ size → length (with_frames frame places image) ≡ size
frames_long frame size_in size [] image apart long n = n
frames_long frame size_in size (p ∷ places) image apart long n =
    let e : length (frame p) ≡ len_at p = All-head (λ p. length (frame p) ≡ len_at p) p places long in
    let m : length (with_frames frame places image) ≡ size = frames_long frame size_in size places image apart.3 (All-tail (λ p. length (frame p) ≡ len_at p) p places long) n in
    same_size p.at_out (frame p) (with_frames frame places image) (rw (e, m) apart.0) ∙ m

-- after the steps of all slots the image has their new frames
pub steps_give : (frame frame' : Place → List ℕ) (size_in size : ℕ) (places : List Place) (xs : List SeatStep) (image : List ℕ) → AllZip (Gives frame frame') places xs → AreApart size_in size places → AreLong frame places → length image ≡ size
    → after_steps xs (with_frames frame places image) ≡ with_frames frame' places image
steps_give frame frame' size_in size [] [] image g apart long n = refl
steps_give frame frame' size_in size (p ∷ places) (x ∷ xs) image g apart long n =
    let more : AreLong frame places = All-tail (λ p. length (frame p) ≡ len_at p) p places long in
    let rest : List ℕ = with_frames frame places image in
    let m : length rest ≡ size = frames_long frame size_in size places image apart.3 more n in
    let inside : x.old.at_out + x.old.len_out ≤ length rest = rw (g.0.at_is, g.0.len_is, m) apart.0 in
    let one : with_sent x.old x.sent (with_bytes x.old.at_out (frame p) rest) ≡ with_bytes x.old.at_out (if length x.sent == x.old.len_out then x.sent else frame p) rest =
    put-by x.old.at_out x.old.len_out x.sent (frame p) rest (length x.sent == x.old.len_out) refl (All-head (λ p. length (frame p) ≡ len_at p) p places long ∙ sym g.0.len_is) inside
    in
    let here : with_sent x.old x.sent (with_bytes p.at_out (frame p) rest) ≡ with_bytes p.at_out (frame' p) rest = search (rules, with_bytes) in
    ap (after_steps xs) here
    ∙ steps-away frame frame' p (frame' p) size_in size places xs rest g.1 apart.1 apart.3 g.0.new_long apart.0 m
    ∙ ap (with_bytes p.at_out (frame' p)) (steps_give frame frame' size_in size places xs image g.1 apart.3 more n)
steps_give frame frame' size_in size _ _ image g apart long n = absurd g
