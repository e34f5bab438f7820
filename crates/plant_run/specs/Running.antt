-- What it means that a plant runs over a script and watches bounds: what a reaction of each bound was told, and the
-- lines that wait to be written. Acts are listed newest first, the lines of a script oldest first.
use Rattle.std.specs.Prelude.{◌≡◌, ◌+◌, ◌<◌, ◌≤◌, ◌^◌, ◌-◌, ℕ, suc, Bool, List, [], ◌∷◌, ◌++◌, length, drop, map, All, Option}
use Rattle.fsoe_base.specs.declared.lengths.Lengths.{Lengths}
use Rattle.fsoe_io.specs.declared.status.Ended.{Ended}
use Rattle.black_channel.specs.Told.{ChannelTold}
use Rattle.schedule_file.specs.Input.{AtEnd}
use Rattle.plant_conf.specs.ConfView.{ConfView}
use Rattle.plant_conf.specs.Kept.{HasSameLengths}
use Rattle.plant_conf.specs.declared.conf.BoundSpec.{BoundSpec}
use Rattle.plant_conf.specs.declared.conf.LinkConf.{LinkConf}
use Rattle.reaction_bound.specs.Kept.{view_of}
use Rattle.reaction_bound.specs.Reaction as reaction
use Rattle.plant_model.specs.Acts.{Beginning, Act, uses}
use Rattle.plant_model.specs.BoundLines.{heard, limit_of, line_by, heard_of}
use Rattle.plant_model.specs.Fits.{lengths_in, Fits}
use Rattle.plant_model.specs.Pair.{journal_ticks}
use Rattle.plant_model.specs.Past.{Named, said, said_in}
use Rattle.plant_model.specs.PlantReport.{link_lines, report_end, report_text, ticks_text}
use Rattle.plant_model.specs.Uses.{Trace}
use Rattle.plant_model.specs.declared.event.PlantLine.{PlantLine}
use Rattle.plant_model.specs.declared.event.PlantLine.TheVariants as script_says
use Rattle.plant_model.specs.declared.journal.JournalStep.{JournalStep}
use Rattle.plant_core.specs.Link.{LinkView}
use Rattle.plant_core.specs.Making.{links_made}
use Rattle.plant_core.specs.Standing.{PlantStands, PlantView, IsAged, fixed_in}
use Rattle.plant_run.specs.Reporting.{Terms}
use Rattle.plant_run.specs.Script.{ScriptHeading}
use Rattle.plant_run.specs.declared.machine.Rest.{Rest}
use Rattle.plant_run.specs.declared.machine.Rest.TheVariants as rest
use Rattle.plant_run.specs.declared.watching.Watched.{Watched}

-- a reaction can be told of a tick more
abbrev pub HasRoom : Watched → Type 0
HasRoom w = w.reaction.ticks + 1 < 2 ^ 64

-- a bound that is watched, and has heard this
abbrev pub watching : List LinkConf → BoundSpec → List reaction.Heard → Watched
watching links bound heard = record { bound = bound; limit = limit_of links bound; reaction = view_of (limit_of links bound) heard }

-- these bounds, each of which has heard this
abbrev pub watched_by : List LinkConf → (BoundSpec → List reaction.Heard) → List BoundSpec → List Watched
watched_by links before bounds = map (λ bound. watching links bound (before bound)) bounds

-- these bounds over these acts
abbrev pub watched_after : Beginning → List Act → List BoundSpec → List Watched
watched_after b acts bounds = watched_by b.links (λ bound. heard_of b bound acts) bounds

-- the reaction of a bound is told of a line of the script, which may be a tick, by a plant that stands for the acts
-- with it
pub record HearsOne (v : PlantView) (tick : Bool) (old new : Watched) : Type 0 where
  pub same : new ≡ record old { reaction = new.reaction }
  pub hears : (b : Beginning) (acts : List Act) (before : List reaction.Heard) → PlantStands b v acts → old.reaction ≡ view_of (limit_of b.links old.bound) before
      → new.reaction ≡ view_of (limit_of b.links old.bound) (heard b old.bound tick acts before)

-- the ages of both connections of a bound are told
pub record AreAged (vs : List LinkView) (bound : BoundSpec) : Type 0 where
  pub estop : IsAged vs bound.estop.link
  pub drive : IsAged vs bound.drive.link

-- the line of a bound with this limit is shown by a plant
pub record ShowsBound (v : PlantView) (bound : BoundSpec) (most : ℕ) (broken : Option ℕ) (text : List ℕ) : Type 0 where
  pub shows : (b : Beginning) (acts : List Act) → PlantStands b v acts → most ≡ limit_of b.links bound → text ≡ line_by b.links v.journal bound broken

-- the lines of the bounds that are watched, by a journal
abbrev pub lines_by : List LinkConf → List JournalStep → List Watched → List ℕ
lines_by links steps [] = []
lines_by links steps (w ∷ ws) = line_by links steps w.bound w.reaction.broken ++ lines_by links steps ws

-- all lines that wait, by the configuration, the journal of the plant and the bounds that are watched
abbrev pub rest_in : Rest → ConfView → List JournalStep → List Watched → List ℕ
rest_in rest.Nothing conf journal watched = []
rest_in (rest.Links next) conf journal watched = link_lines (suc next) (drop next conf.links) journal
rest_in (rest.Bounds next) conf journal watched = lines_by conf.links journal (drop next watched)

-- and how many these are at most
abbrev pub rest_left : Rest → ℕ
rest_left rest.Nothing = 0
rest_left (rest.Links next) = 64 - next
rest_left (rest.Bounds next) = 16 - next

-- what a run comes to: the plant, the bounds that are watched, the applications that are left for further lines, and
-- what the channel tells
pub record RunView : Type 0 where
  pub plant : PlantView
  pub watched : List Watched
  pub left : List Named
  pub told : ChannelTold

-- a plant that is run with these terms stands for the acts of these lines: its bounds are watched so, its channel, which
-- told this before, was used as the acts say, it had so many ticks, and this text is the report of its ticks
pub record RunStands (t : Terms) (before : ChannelTold) (now : RunView) (count : ℕ) (h : ScriptHeading) (log : List PlantLine) (text : List ℕ) : Type 0 where
  pub acts : List Act
  pub stands : PlantStands t.begins now.plant acts
  pub whole : length (said_in acts) ≡ length log
  pub says : (more : List PlantLine) → said t.spare (log ++ more) ≡ said_in acts ++ said now.left more
  pub channel : Trace (uses t.begins acts) before now.told
  pub watched_are : now.watched ≡ watched_after t.begins acts t.bounds
  pub fixed : fixed_in now.plant.links ≡ fixed_in (links_made 1 t.bounds t.begins.links)
  pub same_lengths : All HasSameLengths t.begins.links
  pub counted : count ≡ journal_ticks now.plant.journal
  pub few : count ≤ length log
  pub lengths_are : h.lengths ≡ map lengths_in t.begins.links
  pub text_is : text ≡ ticks_text t.begins.links now.plant.journal

-- it did all lines of a script, of which this is the report, and the run ends so
pub record RunCloses (t : Terms) (before : ChannelTold) (now : RunView) (h : ScriptHeading) (log : List PlantLine) (text : List ℕ) (ended : Ended) : Type 0 where
  pub count : ℕ
  pub ticks : List ℕ
  pub stands : RunStands t before now count h log ticks
  pub text_is : text ≡ report_text t.begins.links now.plant.journal (lines_by t.begins.links now.plant.journal now.watched) AtEnd
  pub ended_is : ended ≡ report_end t.begins.links now.plant.journal AtEnd

-- the event of a line, where it has one, fits
abbrev pub LineFits : List Lengths → PlantLine → Type 0
LineFits lengths (script_says.Step event) = Fits lengths event
LineFits lengths _ = Unit {0}
