-- The lines of a plant's report about the bounds that it watches. A moment of a plant is its start, or the end of a
-- line of its script; it is still for a bound where the e-stop is off and the application that runs guards the drive by
-- it. A tick of the script is late where the drive is on after it, and as many ticks as the bound's limit came, itself
-- counted, after the first of the still moments that reach it without a break. Acts are listed newest first.
use Rattle.std.specs.Prelude.{ℕ, Bool, false, List, [], ◌∷◌, ◌++◌, codes, decimal, Option, Some, None, if◌then◌else◌}
use Rattle.std.specs.Option.{option_map_or}
use Rattle.fsoe_base.specs.declared.command.End.{End}
use Rattle.fsoe_base.specs.declared.command.End.TheVariants as side
use Rattle.failsafe_io.specs.declared.bit.Bit.{Bit}
use Rattle.plant_conf.specs.declared.conf.BoundSpec.{BoundSpec}
use Rattle.plant_conf.specs.declared.conf.LinkConf.{LinkConf}
use Rattle.reaction_bound.specs.Age.{told_age, worst_of}
use Rattle.reaction_bound.specs.Reaction as reaction
use Rattle.plant_model.specs.declared.journal.JournalStep.{JournalStep}
use Rattle.plant_model.specs.Acts.{Act, Happen, PullFrom, Beginning, journal, line_step}
use Rattle.plant_model.specs.Bound.{is_drive_on, is_still, reaction_limit}
use Rattle.plant_model.specs.Pair.{is_tick_step, link_at, pair}

-- the limit of a bound, in ticks, 0 where there isn't one of its connections
abbrev pub limit_by : Option LinkConf → Option LinkConf → ℕ
limit_by (Some estop) (Some drive) = reaction_limit estop drive
limit_by _ _ = 0

abbrev pub limit_of : List LinkConf → BoundSpec → ℕ
limit_of links bound = limit_by (link_at links bound.estop.link) (link_at links bound.drive.link)

-- whether the drive of a bound is on after these acts
abbrev pub is_driven : Beginning → BoundSpec → List Act → Bool
is_driven b bound done = option_map_or (λ drive. is_drive_on bound drive (journal b done)) (link_at b.links bound.drive.link) false

-- what a reaction heard of a bound with a line of the script, after what it heard before, where these are all acts with
-- the line: if that is a tick, whether the drive is on; and then whether the moment after it is still
abbrev pub heard : Beginning → BoundSpec → Bool → List Act → List reaction.Heard → List reaction.Heard
heard b bound tick done before =
    reaction.Quiet (is_still b bound done) ∷ (if tick then reaction.Tick (is_driven b bound done) ∷ before else before)

-- whether the newest line of the script in these acts is a tick
abbrev pub is_ticking : List Act → Bool
is_ticking (Happen said ∷ acts) = is_tick_step (line_step said)
is_ticking (PullFrom gift ∷ acts) = is_ticking acts
is_ticking _ = false

-- what it heard of a bound before the newest line in these acts, newest first; and with that line, or with the start
abbrev pub heard_before : Beginning → BoundSpec → List Act → List reaction.Heard
heard_before b bound (Happen said ∷ acts) = heard b bound (is_ticking acts) acts (heard_before b bound acts)
heard_before b bound (PullFrom gift ∷ acts) = heard_before b bound acts
heard_before b bound _ = []

abbrev pub heard_of : Beginning → BoundSpec → List Act → List reaction.Heard
heard_of b bound acts = heard b bound (is_ticking acts) acts (heard_before b bound acts)

-- the least number of a late tick, if there is one; ticks are counted as in the lines of ticks
abbrev pub broken_at : Beginning → BoundSpec → List Act → Option ℕ
broken_at b bound acts = reaction.broken_of (limit_of b.links bound) (heard_of b bound acts)

-- the greatest age of an end's outputs at connection k by a journal, after any entry of its pair, if there was one
abbrev pub worst_at : List LinkConf → List JournalStep → ℕ → End → Option ℕ
worst_at links steps k end = option_map_or (λ link. told_age (worst_of end (pair link k steps))) (link_at links k) None

-- the connection of a bit, and its number there
abbrev pub bit_text : Bit → List ℕ
bit_text bit = decimal bit.link ++ codes "." ++ decimal bit.bit

-- an age, if there was one
abbrev pub age_text : Option ℕ → List ℕ
age_text None = codes "-"
age_text (Some age) = decimal age

-- whether a bound was kept, or else the number of its first late tick
abbrev pub broken_text : Option ℕ → List ℕ
broken_text None = codes "kept"
broken_text (Some tick) = codes "broken " ++ decimal tick

-- the line of a bound by a journal: its limit, the greatest age of the outputs of the e-stop's master and of the
-- drive's slave, and its first late tick
abbrev pub line_by : List LinkConf → List JournalStep → BoundSpec → Option ℕ → List ℕ
line_by links steps bound broken =
    codes "bound i" ++ bit_text bound.estop ++ codes " o" ++ bit_text bound.drive ++ codes " " ++ decimal (limit_of links bound)
    ++ codes " worst " ++ age_text (worst_at links steps bound.estop.link side.Master)
    ++ codes " " ++ age_text (worst_at links steps bound.drive.link side.Slave) ++ codes " " ++ broken_text broken ++ codes "\n"

-- the line of a bound over these acts
abbrev pub bound_line : Beginning → List Act → BoundSpec → List ℕ
bound_line b acts bound = line_by b.links (journal b acts) bound (broken_at b bound acts)

-- the lines of these bounds
abbrev pub bound_lines : Beginning → List Act → List BoundSpec → List ℕ
bound_lines b acts [] = []
bound_lines b acts (bound ∷ bounds) = bound_line b acts bound ++ bound_lines b acts bounds
