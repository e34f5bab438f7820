-- The reaction bound of a plant: for how long a drive may stay on after the e-stop that guards it was pressed, whatever
-- the channel gives. The e-stop is a bit that a slave offers and that its master takes to the application; the drive is
-- a bit that the application answers, and that its master offers to another slave. Acts are listed newest first, steps
-- oldest first.
use Rattle.std.specs.Prelude.{◌≡◌, ◌≤◌, ◌+◌, ◌*◌, ℕ, Bool, false, ◌&&◌, not, IsTrue, List, [], ◌∷◌, ◌++◌, map, Some, IfSome}
use Rattle.std.specs.Option.{option_map_or}
use Rattle.fsoe_base.specs.declared.command.End.TheVariants as side
use Rattle.fsoe_base.specs.Image.{bit_of}
use Rattle.failsafe_io.specs.declared.bit.Bit.{Bit}
use Rattle.failsafe_io.specs.Bits.{bit_at}
use Rattle.plant_conf.specs.declared.conf.BoundSpec.{BoundSpec}
use Rattle.plant_conf.specs.declared.conf.LinkConf.{LinkConf}
use Rattle.exchange_model.specs.Ends.{of_end}
use Rattle.exchange_model.specs.Items.{Offered, Unset, next_offered}
use Rattle.exchange_model.specs.Fair.{offers_bit}
use Rattle.exchange_model.specs.Other.{NoOther}
use Rattle.multi_master.specs.Connection as connection
use Rattle.plant_model.specs.declared.journal.JournalStep.{JournalStep}
use Rattle.plant_model.specs.Acts.{Beginning, Act, masters, act_cycle, journal}
use Rattle.plant_model.specs.Pair.{pair, link_at, end_outputs, journal_ticks}

-- what the slave of connection k offers after these acts; a connection that there isn't offers nothing
abbrev pub slave_offers : Beginning → ℕ → List Act → Offered
slave_offers b k acts = option_map_or (λ link. next_offered (of_end side.Slave (pair link k (journal b acts)))) (link_at b.links k) Unset

-- whether the e-stop is off: its slave offers its bit as 0, or is held
abbrev pub is_off : Beginning → Bit → List Act → Bool
is_off b estop acts = not (offers_bit estop.bit (slave_offers b estop.link acts))

-- whether the application that runs guards the drive by the e-stop
abbrev pub is_drive_guarded : Beginning → BoundSpec → List Act → Bool
is_drive_guarded b bound acts = (masters b acts).app.guards bound.drive bound.estop

-- whether a bound is still (active) after these acts, not by the journal alone: its e-stop is off, and the application
-- that runs guards its drive by that
abbrev pub is_still : Beginning → BoundSpec → List Act → Bool
is_still b bound acts = is_off b bound.estop acts && is_drive_guarded b bound acts

-- the outputs of all masters, which are the application's inputs, and their offers
abbrev pub inputs_after : Beginning → List Act → List (List ℕ)
inputs_after b acts = map connection.connection_outputs (masters b acts).connections

abbrev pub offers_after : Beginning → List Act → List (List ℕ)
offers_after b acts = map connection.offer_at (masters b acts).connections

-- from some acts on the e-stop of a bound is off, after these and after each later one. Where a later one runs a cycle,
-- and its master has the e-stop's bit as 0 after it, the drive's bit is offered as 0 then
abbrev pub StaysOff : Beginning → BoundSpec → List Act → List Act → Type 0
StaysOff b bound [] earlier = IsTrue (is_off b bound.estop earlier)
StaysOff b bound (act ∷ later) earlier =
    let done : List Act = act ∷ later ++ earlier in
    IsTrue (is_off b bound.estop done)
    × IfSome (act_cycle b act (later ++ earlier)) (λ a. bit_at (inputs_after b done) bound.estop ≡ false → bit_at (offers_after b done) bound.drive ≡ false)
    × StaysOff b bound later earlier

-- the connections of a bound, which there are
pub record HasLinks (b : Beginning) (bound : BoundSpec) (estop drive : LinkConf) : Type 0 where
  pub estop_is : link_at b.links bound.estop.link ≡ Some estop
  pub drive_is : link_at b.links bound.drive.link ≡ Some drive

-- the limit of a bound in ticks: twice the watchdog of the one connection and twice that of the other. A report calls a
-- tick late from the limit on; the law below is sharper by three
abbrev pub reaction_limit : LinkConf → LinkConf → ℕ
reaction_limit estop drive = 2 * estop.master.watchdog + 2 * drive.master.watchdog

-- no entry of the pair of either connection is other
pub record AreClean (bound : BoundSpec) (estop drive : LinkConf) (journal : List JournalStep) : Type 0 where
  pub estop_pair : NoOther (pair estop bound.estop.link journal)
  pub drive_pair : NoOther (pair drive bound.drive.link journal)

-- whether the drive is on: its slave has the bit as 1
abbrev pub is_drive_on : BoundSpec → LinkConf → List JournalStep → Bool
is_drive_on bound drive journal = bit_of (end_outputs drive side.Slave (pair drive bound.drive.link journal)) bound.drive.bit

-- the reaction bound: let the e-stop stay off after `earlier`. The drive is off by each first part of the journal that
-- has at least as many ticks more than that of `earlier` as the limit, less three, as long as no entry of either pair
-- is other in this part
abbrev pub Reacts : Beginning → List Act → Type 0
Reacts b done =
    (bound : BoundSpec) (estop drive : LinkConf) (more later earlier : List Act) (steps newer : List JournalStep)
    → HasLinks b bound estop drive → done ≡ more ++ (later ++ earlier) → StaysOff b bound later earlier
    → journal b (later ++ earlier) ≡ steps ++ newer → AreClean bound estop drive steps
    → journal_ticks (journal b earlier) + reaction_limit estop drive ≤ journal_ticks steps + 3 → is_drive_on bound drive steps ≡ false
