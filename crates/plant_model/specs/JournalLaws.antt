-- What laws say of a plant's journal: which acts run a cycle, which parcels are pulled, and which steps are lines of
-- the script.
use Rattle.param_load.specs.declared.entry.Entry.{Entry}
use Rattle.exchange_model.specs.World.{deeds}
use Rattle.multi_master.specs.Calls.{numbered_connection}
use Rattle.plant_model.specs.Acts.{Beginning, act_cycle, App, Happen, masters, Start, journal, Act, PullFrom, Event}
use Rattle.plant_model.specs.Pair.{pair, link_at, is_tick_step, is_tick_event, pulls_after}
use Rattle.plant_model.specs.declared.journal.JournalStep.TheVariants as journal_step
use Rattle.plant_model.specs.declared.journal.JournalStep.{JournalStep}
use Rattle.plant_model.specs.PlantReport.{is_line}
use Rattle.std.specs.List.{flat_map}
use Rattle.std.specs.Prelude.{filter, suc, [], IsSomeAnd, true, Some, false, List, IfSome, Option, ◌-◌, ◌≡◌, Bool, ◌∷◌, is_some, ◌<◌, ℕ, None, zero}
use Rattle.black_channel.specs.declared.channel.Parcel.{Parcel}
use Rattle.plant_conf.specs.declared.conf.LinkConf.{LinkConf}
use Rattle.fsoe_base.specs.declared.command.End.{End}
use Rattle.fsoe_base.specs.declared.command.End.TheVariants as side
use Rattle.master_core.specs.Due.{tells_due}

-- the master of each pair did what this connection of the master of many did
abbrev pub MastersAgree : Beginning → List Act → Type 0
MastersAgree b acts =
    (k : ℕ) → IfSome (link_at b.links k) (λ link.
    IsSomeAnd (numbered_connection k (masters b acts)) (λ c. deeds side.Master (pair link k (journal b acts)) ≡ c.deeds))

-- whether the newest entry tells that a frame was taken, or that its end reset
abbrev pub tells_hearing : List Entry → Bool
tells_hearing [] = false
tells_hearing (x ∷ w) = tells_due x.did

-- whether the last parcel of a journal went to a master of a connection, which took it or was reset by it
abbrev pub master_hears : Option LinkConf → End → ℕ → List JournalStep → Bool
master_hears (Some link) side.Master k journal = tells_hearing (pair link k journal)
master_hears _ _ k journal = false

-- whether an act runs a cycle of the application, where the journal is this with the steps of the act: at the start, in
-- each tick, after each change of the application, and at each parcel that a master takes or resets on
abbrev pub runs_cycle : List LinkConf → Act → List JournalStep → Bool
runs_cycle links Start journal = true
runs_cycle links (Happen (Event event)) journal = is_tick_event event
runs_cycle links (Happen (App app)) journal = true
runs_cycle links (PullFrom None) journal = false
runs_cycle links (PullFrom (Some parcel)) journal = master_hears (link_at links parcel.to.link) parcel.to.end parcel.to.link journal

-- exactly these acts run one
abbrev pub Cycles : Beginning → Act → List Act → Type 0
Cycles b act acts = is_some (act_cycle b act acts) ≡ runs_cycle b.links act (journal b (act ∷ acts))

-- between a tick and the next line of the script at most 64 parcels were pulled, and none elsewhere; `room` says how
-- many may come before the first line of these steps
abbrev pub PullsFit : ℕ → List JournalStep → Type 0
PullsFit room [] = Unit {0}
PullsFit room (journal_step.Offer link load ∷ steps) = PullsFit room steps
PullsFit room (journal_step.Pulled parcel ∷ steps) = (0 < room) × PullsFit (room - 1) steps
PullsFit room (line ∷ steps) = PullsFit (pulls_after (is_tick_step line)) steps

-- the parcel of a step, where one was pulled
abbrev pub parcel_of : JournalStep → List Parcel
parcel_of (journal_step.Pulled parcel) = parcel ∷ []
parcel_of _ = []

-- the parcels that were pulled
abbrev pub pulled_in : List JournalStep → List Parcel
pulled_in journal = flat_map parcel_of journal

-- one more where so many parcels, and not none, may still come
abbrev pub one_if_left : ℕ → ℕ → ℕ
one_if_left zero n = n
one_if_left (suc room) n = suc n

-- the number of ticks after which fewer than 64 parcels were pulled before the next line of the script; `room` says how
-- many may come before the first line of these steps
abbrev pub short_ticks : ℕ → List JournalStep → ℕ
short_ticks room [] = one_if_left room 0
short_ticks room (journal_step.Offer link load ∷ steps) = short_ticks room steps
short_ticks room (journal_step.Pulled parcel ∷ steps) = short_ticks (room - 1) steps
short_ticks room (line ∷ steps) = one_if_left room (short_ticks (pulls_after (is_tick_step line)) steps)

-- the steps of a journal that are lines of the script
abbrev pub line_steps : List JournalStep → List JournalStep
line_steps journal = filter is_line journal
