-- Each change of the items of both ends keeps what they say of one another.
use Rattle.exchange_model.proofs.Common.{Item, State, phase_of_frame}
use Rattle.std.proofs.Common.{◌≡◌, ℕ, ◌≤◌, List, [], ◌∷◌, length, true, false, Some, arith, rules}
use Rattle.exchange_model.proofs.Joint.Awaited.{up_to_all, newest_phase, Found}
use Rattle.exchange_model.proofs.Joint.Joint.{is_guarded_in, is_loading, NoneCarried, Place, Placed, AllPlaced, Standing, Before, Past, Joint, Uploads, slave_takes}

-- one more item of the slave
place-more : (l c : ℕ) (i : Item) (s rest : List Item) (n : ℕ) → n ≤ length s → Place l c s rest n → Place l c (i ∷ s) rest n
place-more l c i s rest n h k = search rules

placed-more : (l c : ℕ) (i : Item) (s m : List Item) → AllPlaced l c s m → AllPlaced l c (i ∷ s) m
placed-more l c i s [] h = tt
placed-more l c i s (j ∷ m) h = search (rules, place-more, placed-more l c i s m h.1)

pub master_adds : (l c : ℕ) (now : State) (uploads : State → List ℕ) (s m : List Item) (i : Item) → Placed l c s m i → Joint l c now uploads s m → Joint l c now uploads s (i ∷ m)
master_adds l c now uploads s m i h k = search rules

-- an item that isn't guarded has no place to keep
pub unguarded_placed : (l c : ℕ) (s m : List Item) (i : Item) → ((n : ℕ) → i.answers ≡ Some n → n ≤ length s) → is_guarded_in (phase_of_frame i.bytes) ≡ false → Placed l c s m i
unguarded_placed l c s m i h g = record { within = h; place = λ n e k. cc }

-- the item of a master that takes the awaited frame
pub next_placed : (l c : ℕ) (s m : List Item) (i j : Item) → is_guarded_in (phase_of_frame j.bytes) ≡ true → Found (length m) s j → i.answers ≡ Some j.number → Placed l c s m i
next_placed l c s m i j h k n = grind arith

-- the item of a master that takes a Session frame, where it has sent nothing past the session id
pub first_placed : (l c : ℕ) (s m : List Item) (i : Item) → ((n : ℕ) → i.answers ≡ Some n → (n ≡ length s) × (is_guarded_in (newest_phase s) ≡ false)) → NoneCarried l c m → Placed l c s m i
first_placed l c s m i h k = search (rules, up_to_all)

-- a slave that sends a frame in Reset or Session
pub slave_before : (l c : ℕ) (now after : State) (before uploads : State → List ℕ) (s m : List Item) (i : Item) → phase_of_frame i.bytes ≡ after → is_guarded_in after ≡ false
    → ((phase : State) → is_loading phase ≡ true → uploads phase ≡ []) → Joint l c now before s m → Joint l c after uploads (i ∷ s) m
slave_before l c now after before uploads s m i p g none j = record { placed = placed-more l c i s m j.placed; newest_is = p; standing = Before g none }

-- what a slave in Reset or Session uploaded
pub none_uploaded : (l c : ℕ) (now : State) (uploads : State → List ℕ) (s m : List Item) → is_guarded_in now ≡ false → Standing l c now uploads s m
    → (phase : State) → is_loading phase ≡ true → uploads phase ≡ []
none_uploaded l c now uploads s m h k phase n = grind arith

-- a slave that takes the awaited frame, and answers it with one of the same phase
pub slave_past : (l c : ℕ) (now : State) (before after : State → List ℕ) (s m : List Item) (i j : Item) → is_guarded_in (phase_of_frame j.bytes) ≡ true → phase_of_frame i.bytes ≡ phase_of_frame j.bytes
    → Uploads l c j.bytes before after → Found (length s) m j → i.answers ≡ Some j.number → Joint l c now before s m → Joint l c (phase_of_frame j.bytes) after (i ∷ s) m
slave_past l c now before after s m i j g p u k a h =
    record {
      placed = placed-more l c i s m h.placed;
      newest_is = p;
      standing = Past g (record { item = j.number; is = a; within = k.within; mirrors = slave_takes l c now before after s m j g u h k });
    }
