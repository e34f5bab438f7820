-- Each end of a world runs as it runs alone.
use Rattle.exchange_model.proofs.Common.{All-head, All-tail, Deed, End, Entry, Event, IsNextEntry, IsProper, IsProperEvent, IsReaction, IsRun, IsWorld, MasterSettings, Move, Setup, SlaveSettings, deed_in, deeds, end_of_event, entries, entry_at, entry_of, entry_on, going_on, move_from, moves, of_end, reacted, run, same_end, setup_of, step, world, world_after}
use Rattle.std.proofs.Common.{◌≡◌, ℕ, List, [], ◌∷◌, true, refl, ap, sym, ◌∙◌, All, Option, Some, arith, rules}
use Rattle.end_model.proofs.Runs.{run_append}

pub same : (a b : End) → same_end a b ≡ true → b ≡ a
same a b h = grind arith

-- the deed of the next entry is the next step
pub next_deed : (s : Setup) (x : Entry) (e : List Deed) → IsNextEntry s x e → deed_in x ≡ step s e x.what
next_deed s x e next = ap deed_in next.stepped

-- the next entry tells the next step
pub next_told : (s : Setup) (x : Entry) (e : List Deed) → IsNextEntry s x e → x ≡ entry_of s e (deed_in x)
next_told s x e next = next.stepped ∙ sym (ap (entry_of s e) (next_deed s x e next))

-- the deeds of an end are the run of its own events
pub own_run : (ms : MasterSettings) (ss : SlaveSettings) (which : End) (w : List Entry) → IsWorld ms ss w
    → deeds which w ≡ run (setup_of ms ss which) (moves which w)
own_run ms ss which [] so_far = refl
own_run ms ss which (x ∷ w) so_far = search (rules, run_append, own_run ms ss which w so_far.1)

-- the entries of an end tell its deeds
pub told : (ms : MasterSettings) (ss : SlaveSettings) (which : End) (w : List Entry) → IsWorld ms ss w
    → of_end which w ≡ entries (setup_of ms ss which) (deeds which w)
told ms ss which [] so_far = refl
told ms ss which (x ∷ w) so_far = grind (arith, told ms ss which w so_far.1)

-- the entries of an end are those of the run of its own events
pub projection : (ms : MasterSettings) (ss : SlaveSettings) (which : End) (w : List Entry) → IsWorld ms ss w
    → of_end which w ≡ entries (setup_of ms ss which) (run (setup_of ms ss which) (moves which w))
projection ms ss which w so_far = told ms ss which w so_far ∙ ap (entries (setup_of ms ss which)) (own_run ms ss which w so_far)

-- the deeds of an end in a world are a run
pub deeds_are_run : (ms : MasterSettings) (ss : SlaveSettings) (which : End) (w : List Entry) → IsWorld ms ss w → IsRun (setup_of ms ss which) (deeds which w)
deeds_are_run ms ss which [] h = tt
deeds_are_run ms ss which (x ∷ w) h = grind (arith, deeds_are_run ms ss which w h.1)

-- the same of the deeds of an entry's end, with the entry's own
pub next_run : (ms : MasterSettings) (ss : SlaveSettings) (x : Entry) (w : List Entry) → IsWorld ms ss (x ∷ w) → IsRun (setup_of ms ss x.end) (deed_in x ∷ deeds x.end w)
next_run ms ss x w h = (record { proper = h.0.proper; stepped = next_deed (setup_of ms ss x.end) x (deeds x.end w) h.0 }, deeds_are_run ms ss x.end w h.1)

-- each entry of a world is one of the reactions of its end
pub entry_reacted : (ms : MasterSettings) (ss : SlaveSettings) (x : Entry) (w : List Entry) → IsWorld ms ss (x ∷ w) → IsReaction (setup_of ms ss x.end) (deeds x.end w) (deed_in x)
entry_reacted ms ss x w h = reacted (setup_of ms ss x.end) (deed_in x) (deeds x.end w) (next_run ms ss x w h)

move_proper : (ms : MasterSettings) (ss : SlaveSettings) (frames : List (List ℕ)) (event : Event) (what : Move) → IsProperEvent ms ss event → move_from frames event ≡ Some what → IsProper (setup_of ms ss (end_of_event event)) what
move_proper ms ss frames event what h k = grind arith

-- the entry of a proper event is the next one of its end
entry_follows : (ms : MasterSettings) (ss : SlaveSettings) (at : End) (w : List Entry) (what : Option Move) (x : Entry) → ((m : Move) → what ≡ Some m → IsProper (setup_of ms ss at) m) → entry_on (setup_of ms ss at) (deeds at w) what ≡ Some x
    → IsNextEntry (setup_of ms ss x.end) x (deeds x.end w)
entry_follows ms ss at w what x h k = grind arith

after_entry : (ms : MasterSettings) (ss : SlaveSettings) (events : List Event) (w : List Entry) (next : Option Entry) → ((x : Entry) → next ≡ Some x → IsWorld ms ss (x ∷ w)) → IsWorld ms ss w
    → ((x : Entry) → IsWorld ms ss (x ∷ w) → IsWorld ms ss (world_after ms ss events (x ∷ w))) → IsWorld ms ss (going_on w next (world_after ms ss events))
after_entry ms ss events w next h k l = grind arith

after_is_world : (ms : MasterSettings) (ss : SlaveSettings) (events : List Event) (w : List Entry) → All (IsProperEvent ms ss) events → IsWorld ms ss w
    → IsWorld ms ss (world_after ms ss events w)
after_is_world ms ss [] w proper so_far = so_far
after_is_world ms ss (event ∷ events) w proper so_far =
    after_entry ms ss events w (entry_at ms ss w event)
    (λ x is. (entry_follows ms ss (end_of_event event) w _ x (λ m. move_proper ms ss _ event m (All-head (IsProperEvent ms ss) event events proper)) is, so_far)) so_far
    (λ x here. after_is_world ms ss events (x ∷ w) (All-tail (IsProperEvent ms ss) event events proper) here)

-- a schedule of proper events makes a world
pub world_is_world : (ms : MasterSettings) (ss : SlaveSettings) (events : List Event) → All (IsProperEvent ms ss) events → IsWorld ms ss (world ms ss events)
world_is_world ms ss events proper = after_is_world ms ss events [] proper tt
