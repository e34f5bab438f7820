-- The entries over a longer schedule: those over its first events come first.
use Rattle.exchange_model.proofs.Common.{Entry, Event, MasterSettings, SlaveSettings, entry_at, world, world_after}
use Rattle.std.proofs.Common.{◌≡◌, ◌+◌, List, [], ◌∷◌, ◌++◌, length, Some, None, refl, arith, rules}

after_whole : (ms : MasterSettings) (ss : SlaveSettings) (log more : List Event) (w : List Entry) → length (world_after ms ss log w) ≡ length w + length log
    → world_after ms ss (log ++ more) w ≡ world_after ms ss more (world_after ms ss log w)
after_whole ms ss [] more w whole = refl
after_whole ms ss (event ∷ log) more w whole = grind (arith, λ (x : Entry). after_whole ms ss log more (x ∷ w))

-- where each of these events has its entry, the run goes on from there
pub world_on : (ms : MasterSettings) (ss : SlaveSettings) (log more : List Event) → length (world ms ss log) ≡ length log → world ms ss (log ++ more) ≡ world_after ms ss more (world ms ss log)
world_on ms ss log more whole = after_whole ms ss log more [] (omega (arith, whole))

-- the next event has its entry, which is the next one
pub world_next : (ms : MasterSettings) (ss : SlaveSettings) (log : List Event) (event : Event) (x : Entry) → length (world ms ss log) ≡ length log → entry_at ms ss (world ms ss log) event ≡ Some x
    → world ms ss (log ++ event ∷ []) ≡ x ∷ world ms ss log
world_next ms ss log event x h k = search (rules, world_on)

-- or it has none, and the run ends there, whatever comes after
pub world_missed : (ms : MasterSettings) (ss : SlaveSettings) (log more : List Event) (event : Event) → length (world ms ss log) ≡ length log → entry_at ms ss (world ms ss log) event ≡ None
    → world ms ss (log ++ event ∷ more) ≡ world ms ss log
world_missed ms ss log more event h k = search (rules, world_on)
