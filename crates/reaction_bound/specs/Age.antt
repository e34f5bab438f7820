-- The age of an end's outputs: how many ticks of the end ago its peer sent the item from which they are. Lists are
-- newest first, and the word is this profile's own.
use Rattle.std.specs.Prelude.{ℕ, suc, ◌-◌, ◌^◌, min, max, ◌==◌, List, [], ◌∷◌, length, Bool, ◌&&◌, not, Option, Some, None, is_some, option_map, if◌then◌else◌}
use Rattle.fsoe_base.specs.declared.command.End.{End}
use Rattle.fsoe_base.specs.declared.command.Command.{Command}
use Rattle.fsoe_base.specs.declared.command.Command.TheVariants as command
use Rattle.fsoe_base.specs.declared.did.Took.{Took}
use Rattle.param_load.specs.declared.terms.Terms.{Terms}
use Rattle.param_load.specs.declared.entry.Entry.{Entry}
use Rattle.end_model.specs.Deed.{ticked, is_empty}
use Rattle.exchange_model.specs.Ends.{same_end, peer}
use Rattle.exchange_model.specs.Items.{items_of, items, awaited}
use Rattle.exchange_model.specs.Other.{is_other, item_number}
use Rattle.exchange_model.specs.Fair.{in_time}

-- whether an entry, where w are those before it, sends the item of an end that has this number
abbrev pub sends_item : End → ℕ → Entry → List Entry → Bool
sends_item which number x w = same_end which x.end && not (is_empty x.sent) && number == suc (length (items_of which (items w)))

-- one tick more where an entry is a tick of this end
abbrev pub ticked_at : End → Entry → ℕ → ℕ
ticked_at which x n = if same_end which x.end then ticked x.what n else n

-- the ticks of an end since its peer sent the item of this number; all of its ticks where the peer sent no such item
abbrev pub ticks_since : End → ℕ → List Entry → ℕ
ticks_since which number [] = 0
ticks_since which number (x ∷ w) = if sends_item (peer which) number x w then 0 else ticked_at which x (ticks_since which number w)

-- the number of the item from which the outputs are by a frame that was taken n ticks ago, under the terms told then:
-- of the item awaited before, where the frame was of ProcessData, the watchdog didn't expire and the entry wasn't other
abbrev pub source_by : ℕ → Option Terms → Bool → Option ℕ → Command → Option ℕ
source_by n told other before command.ProcessData = if in_time n told && not other then before else None
source_by n told other before _ = None

-- the number of that item after an entry: by the frame that it took; where it took none, as the entries before it give
abbrev pub source_at : ℕ → Option Terms → Bool → Option ℕ → Option Took → Option ℕ → Option ℕ
source_at n told other before None earlier = earlier
source_at n told other before (Some t) earlier = source_by n told other before t.command

-- the number of that item after an entry of the end, before which the item of a number was awaited: a reset makes zeros
-- of the outputs
abbrev pub source_in : ℕ → Entry → Bool → Option ℕ → Option ℕ → Option ℕ
source_in n x other before earlier = if is_some x.did.reset then None else source_at n x.terms other before x.did.took earlier

-- the number of the item from which an end's outputs are, n ticks later; it is found by looking back as the outputs are
-- (outputs_after)
abbrev pub source_after : End → ℕ → List Entry → Option ℕ
source_after which n [] = None
source_after which n (x ∷ w) =
    let earlier : Option ℕ = source_after which (ticked_at which x n) w in
    if same_end which x.end then source_in n x (is_other (items w) x) (item_number (awaited (items w) which)) earlier else earlier

-- the number of the item from which an end's outputs are
abbrev pub source : End → List Entry → Option ℕ
source which w = source_after which 0 w

-- the age of an end's outputs: its ticks since its peer sent the item from which they are; none where they are from no
-- item
abbrev pub age_of : End → List Entry → Option ℕ
age_of which w = option_map (λ number. ticks_since which number w) (source which w)

-- the greater of two ages, where there may be none
abbrev pub greater : Option ℕ → Option ℕ → Option ℕ
greater None b = b
greater (Some a) None = Some a
greater (Some a) (Some b) = Some (max a b)

-- the greatest age of an end's outputs after any entry; none where there was none after each
abbrev pub worst_of : End → List Entry → Option ℕ
worst_of which [] = None
worst_of which (x ∷ w) = greater (age_of which (x ∷ w)) (worst_of which w)

-- the number by which so many ticks are told: at most 2^32 - 1
abbrev pub told_ticks : ℕ → ℕ
told_ticks n = min n (2 ^ 32 - 1)

-- an age as it is told, if there is one
abbrev pub told_age : Option ℕ → Option ℕ
told_age age = option_map told_ticks age
