-- A pair over a whole list of events.
use Rattle.std.specs.Prelude.{◌≡◌, ◌⊎◌, List, [], ◌∷◌}
use Rattle.param_load.specs.declared.entry.Entry.{Entry}
use Rattle.schedule_file.specs.declared.event.Event.{Event}
use Rattle.duo_run.specs.Duo.{DuoView, Steps, Misses}

-- a pair was given these events in turn, and its entries were put before those so far; an event whose frame wasn't sent
-- ended that
abbrev pub Ran : DuoView → List Event → List Entry → DuoView → List Entry → Type 0
Ran first [] w last whole = (first ≡ last) × (w ≡ whole)
Ran first (event ∷ events) w last whole =
    ((x : Entry) × (v : DuoView) × Steps first event x v × Ran v events (x ∷ w) last whole)
    ⊎ (Misses first event × (first ≡ last) × (w ≡ whole))
