-- What is noted of the last frames of a session.
use Rattle.end_model.proofs.Common.{Deed, Link, Setup, delivered, first_of, frame_of, is_empty, newest_crc, of_session, own, own_link, receives, sends, taken, taken_link}
use Rattle.std.proofs.Common.{◌≡◌, ℕ, List, [], ◌∷◌, Bool, Option, Some, is_some, if◌then◌else◌, refl, arith}
use Rattle.seq_chain.specs.Numbers.{last_crc}

skips : (l : ℕ) (b : Bool) (before : Option Link) (noted : Link) (frames : List (List ℕ)) (f : List ℕ) → last_crc before ≡ newest_crc l frames → noted.crc ≡ first_of (frame_of l f).crcs
    → last_crc (if b then before else Some noted) ≡ newest_crc l (if b then frames else f ∷ frames)
skips l b before noted frames f h k = grind arith

adds : (l : ℕ) (b : Bool) (before : Option Link) (noted : Link) (frames : List (List ℕ)) (f : List ℕ) → last_crc before ≡ newest_crc l frames → noted.crc ≡ first_of (frame_of l f).crcs
    → last_crc (if b then Some noted else before) ≡ newest_crc l (if b then f ∷ frames else frames)
adds l b before noted frames f h k = grind arith

pub own_crc : (s : Setup) (e : List Deed) → last_crc (own_link s e) ≡ newest_crc (sends s) (own e)
own_crc s [] = refl
own_crc s (x ∷ e) = skips (sends s) (is_empty x.sent) (own_link s e) _ (own e) x.sent (own_crc s e) refl

pub taken_crc : (s : Setup) (e : List Deed) → last_crc (taken_link s e) ≡ newest_crc (receives s) (taken e)
taken_crc s [] = refl
taken_crc s (x ∷ e) = adds (receives s) (is_some (of_session x.did.took)) (taken_link s e) _ (taken e) (delivered x.what) (taken_crc s e) refl
