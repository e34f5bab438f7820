-- What is known of deeds in which no frame was taken, or none was sent; and the first byte of a frame that is read.
use Rattle.end_model.proofs.Common.{Deed, Did, Link, Move, Setup, State, delivered, id_sent, is_empty, is_length, joined, joined_with, of_session, own, own_link, phase_after, phase_taken, receives, since, taken, taken_link}
use Rattle.std.proofs.Common.{◌≡◌, ℕ, List, [], ◌∷◌, Bool, Option, Some, None, is_some, if◌then◌else◌, IsTrue, refl, arith}
use Rattle.fsoe_base.specs.declared.command.State.TheVariants as state
use Rattle.fsoe_base.specs.declared.did.Took.{Took}
use Rattle.end_model.proofs.Runs.{deed}

-- nothing is noted where no frame was sent
noted_none : (none : Bool) (before : Option Link) (link : Link) (frames : List (List ℕ)) (f : List ℕ) → (frames ≡ [] → before ≡ None) → (if none then frames else f ∷ frames) ≡ [] → (if none then before else Some link) ≡ None
noted_none none before link frames f h k = grind arith

pub none_own_link : (s : Setup) (e : List Deed) → own e ≡ [] → own_link s e ≡ None
none_own_link s [] h = refl
none_own_link s (x ∷ e) h = noted_none (is_empty x.sent) (own_link s e) _ (own e) x.sent (none_own_link s e) h

-- nor where none was taken
took_none : (some : Bool) (before : Option Link) (link : Link) (frames : List (List ℕ)) (f : List ℕ) → (frames ≡ [] → before ≡ None) → (if some then f ∷ frames else frames) ≡ [] → (if some then Some link else before) ≡ None
took_none some before link frames f h k = grind arith

pub none_taken_link : (s : Setup) (e : List Deed) → taken e ≡ [] → taken_link s e ≡ None
none_taken_link s [] h = refl
none_taken_link s (x ∷ e) h = took_none (is_some (of_session x.did.took)) (taken_link s e) _ (taken e) (delivered x.what) (none_taken_link s e) h

phase_none : (o : Option Took) (before : State) (frames : List (List ℕ)) (f : List ℕ) → (frames ≡ [] → before ≡ state.Reset) → (if is_some o then f ∷ frames else frames) ≡ [] → phase_after o before ≡ state.Reset
phase_none o before frames f h k = grind arith

pub none_phase : (e : List Deed) → taken e ≡ [] → phase_taken e ≡ state.Reset
none_phase [] h = refl
none_phase (x ∷ e) h = phase_none (of_session x.did.took) (phase_taken e) (taken e) (delivered x.what) (none_phase e) h

joined_none : (phase : State) (c : ℕ) (o : Option Took) (before : List ℕ) (frames : List (List ℕ)) (f : List ℕ) → (frames ≡ [] → before ≡ []) → (if is_some o then f ∷ frames else frames) ≡ [] → joined_with phase c o before ≡ []
joined_none phase c o before frames f h k = grind arith

pub none_joined : (phase : State) (c : ℕ) (e : List Deed) → taken e ≡ [] → joined phase c e ≡ []
none_joined phase c [] h = refl
none_joined phase c (x ∷ e) h = joined_none phase c (of_session x.did.took) (joined phase c e) (taken e) (delivered x.what) (none_joined phase c e) h

id_none : (s : Setup) (m : Move) (did : Did) (sent : List ℕ) (e : List Deed) → (own (since e) ≡ [] → id_sent s e ≡ None) → own (since (deed m did sent ∷ e)) ≡ [] → id_sent s (deed m did sent ∷ e) ≡ None
id_none s m did sent e h k = grind arith

pub none_id : (s : Setup) (e : List Deed) → own (since e) ≡ [] → id_sent s e ≡ None
none_id s [] h = refl
none_id s (x ∷ e) h = id_none s x.what x.did x.sent e (none_id s e) h

-- the command that a frame is read with is that of its first byte
pub valid_received : (s : Setup) → IsTrue (is_length (receives s))
valid_received s = grind arith
