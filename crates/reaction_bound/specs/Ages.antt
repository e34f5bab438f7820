-- What is kept of both ends to tell the ages of their outputs, and how an entry changes it.
use Rattle.std.specs.Prelude.{ℕ, suc, ◌≡◌, ◌-◌, ◌==◌, ◌||◌, nat_le, List, [], ◌∷◌, Bool, Option, Some, None, IfSome, is_some, option_map, if◌then◌else◌}
use Rattle.fsoe_base.specs.declared.command.End.{End}
use Rattle.fsoe_base.specs.declared.command.End.TheVariants as side
use Rattle.fsoe_base.specs.declared.command.Command.{Command}
use Rattle.fsoe_base.specs.declared.command.Command.TheVariants as command
use Rattle.fsoe_base.specs.declared.did.Did.{Did}
use Rattle.fsoe_base.specs.declared.did.Took.{Took}
use Rattle.param_load.specs.declared.terms.Terms.{Terms}
use Rattle.param_load.specs.declared.entry.Entry.{Entry}
use Rattle.exchange_model.specs.Ends.{same_end}
use Rattle.exchange_model.specs.Items.{items, awaited}
use Rattle.exchange_model.specs.Honest.{is_tick}
use Rattle.exchange_model.specs.Monitor as monitor
use Rattle.exchange_model.specs.Monitor.{MonitorView, HasParts}
use Rattle.exchange_model.specs.Other.{item_number}
use Rattle.reaction_bound.specs.declared.end_age.Standing.{Standing}
use Rattle.reaction_bound.specs.declared.end_age.EndAge.{EndAge}
use Rattle.reaction_bound.specs.Age.{ticked_at, source, ticks_since, greater, worst_of, told_ticks, told_age}

-- the number of the item that an end awaits, if it awaits one
abbrev pub awaited_by : End → List Entry → Option ℕ
awaited_by which w = item_number (awaited (items w) which)

-- the ticks of an end since its peer sent the item of this number, as they are told; 0 where there is no number
abbrev pub waited : End → List Entry → Option ℕ → ℕ
waited which w None = 0
waited which w (Some number) = told_ticks (ticks_since which number w)

-- the ticks that are left of the watchdog of these terms, which were told n ticks ago
abbrev pub left_by : ℕ → Option Terms → ℕ
left_by n None = 0
left_by n (Some terms) = terms.watchdog - n

-- the ticks that are left after an entry: by the frame that it took; where it took none, as the entries before it give
abbrev pub left_at : ℕ → Option Terms → Option Took → ℕ → ℕ
left_at n terms None earlier = earlier
left_at n terms (Some t) earlier = left_by n terms

-- the ticks of an end that are left until its watchdog expires, since it took a frame last, n ticks later
abbrev pub left_after : End → ℕ → List Entry → ℕ
left_after which n [] = 0
left_after which n (x ∷ w) =
    let earlier : ℕ = left_after which (ticked_at which x n) w in
    if same_end which x.end then left_at n x.terms x.did.took earlier else earlier

-- the outputs of an end where they are from an item: how many ticks are left until they are zeros, and their age
abbrev pub standing_of : End → List Entry → Option Standing
standing_of which w = option_map (λ number. record { left = left_after which 0 w; age = told_ticks (ticks_since which number w) }) (source which w)

-- what is kept of an end
abbrev pub kept_of : End → List Entry → EndAge
kept_of which w = record { waited = waited which w (awaited_by which w); standing = standing_of which w; worst = told_age (worst_of which w) }

-- what contracts see of the ages: the monitor, and what is kept of each end
pub record AgesView : Type 0 where
  pub monitor : MonitorView
  pub master : EndAge
  pub slave : EndAge

-- ages that noted these entries
abbrev pub view_of : List Entry → AgesView
view_of w = record { monitor = monitor.view_of w; master = kept_of side.Master w; slave = kept_of side.Slave w }

-- ages that had noted some entries have noted this one too
pub record NotesEntry (old : AgesView) (x : Entry) (new : AgesView) : Type 0 where
  pub notes : (w : List Entry) → old ≡ view_of w → new ≡ view_of (x ∷ w)

-- the watchdog in the terms, if some are told
abbrev pub watchdog_in : Option Terms → Option ℕ
watchdog_in terms = option_map (λ t. t.watchdog) terms

-- this is the watchdog in the terms that an entry tells, where it took ProcessData; of another entry none is asked
abbrev pub HasWatchdog : Entry → Option ℕ → Type 0
HasWatchdog x watchdog = IfSome x.did.took (λ t. t.command ≡ command.ProcessData → watchdog ≡ watchdog_in x.terms)

-- an entry has these parts, by which its age is noted: those by which a monitor notes it, whether it is a tick, and the
-- watchdog
pub record HasAgeParts (x : Entry) (at : End) (tick : Bool) (came : List ℕ) (did : Did) (sent : List ℕ) (watchdog : Option ℕ) : Type 0 where
  pub parts : HasParts x at came did sent
  pub tick_is : is_tick x.what ≡ tick
  pub watchdog_is : HasWatchdog x watchdog

-- ages that had noted some entries have noted one with these parts too
pub record NotesParts (old : AgesView) (at : End) (tick : Bool) (came : List ℕ) (did : Did) (sent : List ℕ) (watchdog : Option ℕ) (new : AgesView)
    : Type 0 where
  pub notes : (x : Entry) → HasAgeParts x at tick came did sent watchdog → NotesEntry old x new

-- an end of which nothing was noted
abbrev pub first_kept : EndAge
first_kept = record { waited = 0; standing = None; worst = None }

-- the age of outputs that are from an item
abbrev pub age_in : Option Standing → Option ℕ
age_in standing = option_map (λ s. s.age) standing

-- the ticks of an end since the item that it awaits was sent, after an entry before which they were n: an item that
-- wasn't awaited before the entry was sent in it
abbrev pub waited_next : Option ℕ → Option ℕ → ℕ → ℕ
waited_next (Some old) (Some new) n = if old == new then n else 0
waited_next before after n = 0

-- one more tick, as it is told
abbrev pub counted : Bool → ℕ → ℕ
counted tick n = if tick then told_ticks (suc n) else n

-- outputs after a tick: zeros where the watchdog expires with it
abbrev pub standing_ticked : Option Standing → Option Standing
standing_ticked None = None
standing_ticked (Some s) = if nat_le s.left 1 then None else Some (record { left = s.left - 1; age = told_ticks (suc s.age) })

-- outputs after an entry that may be a tick
abbrev pub standing_counted : Bool → Option Standing → Option Standing
standing_counted tick standing = if tick then standing_ticked standing else standing

-- outputs by a frame that was taken under this watchdog, where an item that was awaited before was sent n ticks ago
abbrev pub standing_taken : Bool → Option ℕ → Option ℕ → ℕ → Command → Option Standing
standing_taken other (Some number) (Some watchdog) n command.ProcessData =
    if other || nat_le watchdog 0 then None else Some (record { left = watchdog; age = n })
standing_taken other awaited watchdog n c = None

-- outputs after an entry: by the frame that it took; where it took none, as the entries before it give
abbrev pub standing_at : Bool → Option ℕ → Option ℕ → ℕ → Option Took → Option Standing → Option Standing
standing_at other awaited watchdog n None earlier = earlier
standing_at other awaited watchdog n (Some t) earlier = standing_taken other awaited watchdog n t.command

-- outputs after an entry of the end
abbrev pub standing_next : Bool → Bool → Did → Option ℕ → Option ℕ → EndAge → Option Standing
standing_next tick other did watchdog awaited old =
    if is_some did.reset then None
    else standing_at other awaited watchdog (counted tick old.waited) did.took (standing_counted tick old.standing)

-- what is kept of an end after an entry of its own, before which and after which it awaits the items of these numbers
abbrev pub acted_next : Bool → Bool → Did → Option ℕ → Option ℕ → Option ℕ → EndAge → EndAge
acted_next tick other did watchdog before after old =
    let standing : Option Standing = standing_next tick other did watchdog before old in
    record { waited = waited_next before after (counted tick old.waited); standing = standing; worst = greater (age_in standing) old.worst }

-- what is kept of an end after an entry of its peer
abbrev pub heard_next : Option ℕ → Option ℕ → EndAge → EndAge
heard_next before after old = record { waited = waited_next before after old.waited; standing = old.standing; worst = old.worst }
