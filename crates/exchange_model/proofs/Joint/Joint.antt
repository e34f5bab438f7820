-- What both ends' items say of one another: the heart of the law. Lists of items are newest first; s are the slave's, m
-- the master's, l the safe data bytes of a master's frame, c those of a piece. Pieces don't matter here: what a slave
-- has uploaded is what the master's own frames carried, up to the item that the slave's newest item answers.
use Rattle.exchange_model.proofs.Common.{Item, State, frame_of, has_command, phase_of_frame, same_phase}
use Rattle.std.proofs.Common.{◌≡◌, ℕ, ◌≤◌, List, [], ◌∷◌, ◌++◌, length, take, Bool, true, false, Option, Some, None, if◌then◌else◌, sym, subst, arith, rules}
use Rattle.fsoe_base.specs.declared.command.State.TheVariants as state
use Rattle.fsoe_base.specs.declared.command.Command.TheVariants as command
use Rattle.exchange_model.proofs.Worlds.Frames.{bytes_in}
use Rattle.exchange_model.proofs.Joint.Awaited.{up_to, up_to_all, newest_phase, Found}

-- whether frames of this phase are guarded
abbrev pub is_guarded_in : State → Bool
is_guarded_in state.Reset = false
is_guarded_in state.Session = false
is_guarded_in _ = true

-- whether a slave uploads in this phase what the law speaks of
abbrev pub is_loading : State → Bool
is_loading state.Connection = true
is_loading state.Parameter = true
is_loading _ = false

-- the frames after the last Reset frame
abbrev pub session : List (List ℕ) → List (List ℕ)
session [] = []
session (f ∷ frames) = if has_command command.Reset f then [] else f ∷ session frames

-- joined bytes, and the first c safe data bytes of a frame where it is of the phase
abbrev pub with_part : State → ℕ → ℕ → List ℕ → List ℕ → List ℕ
with_part phase l c f before = if same_phase phase (phase_of_frame f) then before ++ take c (frame_of l f).load else before

-- the first c safe data bytes of each of these frames that is of the phase, in order
abbrev pub carried_by : State → ℕ → ℕ → List (List ℕ) → List ℕ
carried_by phase l c [] = []
carried_by phase l c (f ∷ frames) = with_part phase l c f (carried_by phase l c frames)

-- what the items of a session carried in a phase
abbrev pub carried : State → ℕ → ℕ → List Item → List ℕ
carried phase l c found = carried_by phase l c (session (bytes_in found))

abbrev pub newest_answers : List Item → Option ℕ
newest_answers [] = None
newest_answers (i ∷ found) = i.answers

-- these items carried nothing of a connection or of parameters
abbrev pub NoneCarried : ℕ → ℕ → List Item → Type 0
NoneCarried l c found = (phase : State) → is_loading phase ≡ true → carried phase l c found ≡ []

-- what a guarded item of the master answers, where rest are those that it had sent before: a Session item, as the first
-- of its session, or the answer to the item that it sent just before
pub data Place (l c : ℕ) (s rest : List Item) (n : ℕ) : Type 0 where
  First : is_guarded_in (newest_phase (up_to n s)) ≡ false → NoneCarried l c rest → Place l c s rest n
  Next : is_guarded_in (newest_phase (up_to n s)) ≡ true → newest_answers (up_to n s) ≡ Some (length rest) → Place l c s rest n

pub record Placed (l c : ℕ) (s rest : List Item) (i : Item) : Type 0 where
  pub within : (n : ℕ) → i.answers ≡ Some n → n ≤ length s
  pub place : (n : ℕ) → i.answers ≡ Some n → is_guarded_in (phase_of_frame i.bytes) ≡ true → Place l c s rest n

abbrev pub AllPlaced : ℕ → ℕ → List Item → List Item → Type 0
AllPlaced l c s [] = Unit {0}
AllPlaced l c s (i ∷ rest) = Placed l c s rest i × AllPlaced l c s rest

-- a slave in this state uploaded what these items of the master carried, and the newest of them is of that phase
pub record Mirrors (l c : ℕ) (now : State) (uploads : State → List ℕ) (t : List Item) : Type 0 where
  pub phase_is : newest_phase t ≡ now
  pub same : (phase : State) → is_loading phase ≡ true → uploads phase ≡ carried phase l c t

-- the item that the slave's newest item answers, and what the slave uploaded up to it
pub record Answering (l c : ℕ) (now : State) (uploads : State → List ℕ) (s m : List Item) : Type 0 where
  pub item : ℕ
  pub is : newest_answers s ≡ Some item
  pub within : item ≤ length m
  pub mirrors : Mirrors l c now uploads (up_to item m)

-- a slave in Reset or Session uploaded nothing of the kind; a slave past them mirrors the master
pub data Standing (l c : ℕ) (now : State) (uploads : State → List ℕ) (s m : List Item) : Type 0 where
  Before : is_guarded_in now ≡ false → ((phase : State) → is_loading phase ≡ true → uploads phase ≡ []) → Standing l c now uploads s m
  Past : is_guarded_in now ≡ true → Answering l c now uploads s m → Standing l c now uploads s m

-- the invariant: each guarded item of the master has its place, and the slave, whose newest item is of its state,
-- stands so
pub record Joint (l c : ℕ) (now : State) (uploads : State → List ℕ) (s m : List Item) : Type 0 where
  pub placed : AllPlaced l c s m
  pub newest_is : newest_phase s ≡ now
  pub standing : Standing l c now uploads s m

-- an item among the master's has its place
pub placed_at : (l c n : ℕ) (s m rest : List Item) (j : Item) → AllPlaced l c s m → up_to n m ≡ j ∷ rest → Placed l c s rest j
placed_at l c n s [] rest j p h = cc
placed_at l c n s (i ∷ m) rest j p h = grind (arith, placed_at l c n s m rest j p.1)

-- a slave that takes a frame uploads its part
abbrev pub Uploads : ℕ → ℕ → List ℕ → (State → List ℕ) → (State → List ℕ) → Type 0
Uploads l c f before after = (phase : State) → is_loading phase ≡ true → after phase ≡ with_part phase l c f (before phase)

-- the frame that a slave takes is the one after those that it mirrors
mirrors-next : (l c : ℕ) (before after : State → List ℕ) (rest : List Item) (j : Item) → is_guarded_in (phase_of_frame j.bytes) ≡ true → Uploads l c j.bytes before after
    → ((phase : State) → is_loading phase ≡ true → before phase ≡ carried phase l c rest) → Mirrors l c (phase_of_frame j.bytes) after (j ∷ rest)
mirrors-next l c before after rest j h k m = grind arith

-- the awaited item follows what the slave mirrors
uploaded-before : (l c : ℕ) (now : State) (before : State → List ℕ) (s m rest : List Item) → up_to (length rest) m ≡ rest → newest_phase s ≡ now
    → Standing l c now before s m → Place l c s rest (length s) → (phase : State) → is_loading phase ≡ true → before phase ≡ carried phase l c rest
uploaded-before l c now before s m rest h k n o phase p = search (rules, up_to_all)

-- a slave that takes the awaited frame mirrors the master up to it
pub slave_takes : (l c : ℕ) (now : State) (before after : State → List ℕ) (s m : List Item) (j : Item) → is_guarded_in (phase_of_frame j.bytes) ≡ true → Uploads l c j.bytes before after
    → Joint l c now before s m → Found (length s) m j → Mirrors l c (phase_of_frame j.bytes) after (up_to j.number m)
slave_takes l c now before after s m j g u h k =
    let q : Placed l c s k.rest j = placed_at l c j.number s m k.rest j h.placed k.is in
    subst (λ t. Mirrors l c (phase_of_frame j.bytes) after t) (sym k.is)
    (mirrors-next l c before after k.rest j g u (uploaded-before l c now before s m k.rest k.before h.newest_is h.standing (q.place (length s) k.answers g)))
