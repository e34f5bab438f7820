-- What holds of a run holds of its older entries; and the ticks of an end since.
use Rattle.exchange_model.proofs.Common.{End, Entry, IsWorld, MasterSettings, NoOther, SlaveSettings, ticks_of}
use Rattle.std.proofs.Common.{◌≡◌, ◌+◌, List, [], ◌∷◌, ◌++◌, arith}
use Rattle.exchange_model.proofs.Joint.Taking.{NoneOther, none_other}

-- the older entries of a world are one
pub older_world : (ms : MasterSettings) (ss : SlaveSettings) (later w : List Entry) → IsWorld ms ss (later ++ w) → IsWorld ms ss w
older_world ms ss [] w h = h
older_world ms ss (x ∷ later) w h = older_world ms ss later w h.1

-- where no entry is other, no older one is
pub older_clean : (later w : List Entry) → NoOther (later ++ w) → NoOther w
older_clean [] w n = n
older_clean (x ∷ later) w n = let o : NoneOther x (later ++ w) = none_other x (later ++ w) n in older_clean later w o.before

-- the ticks among joined entries
pub ticks_joined : (which : End) (later w : List Entry) → ticks_of which (later ++ w) ≡ ticks_of which later + ticks_of which w
ticks_joined which [] w = omega arith
ticks_joined which (x ∷ later) w = grind (arith, ticks_joined which later w)
