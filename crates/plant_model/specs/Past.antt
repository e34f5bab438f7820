-- What a plant may have done, by the lines of its script and by what its channel gave. Acts and what the channel gave
-- are listed newest first, the lines of a script oldest first.
use Rattle.std.specs.Prelude.{◌≡◌, ℕ, suc, List, [], ◌∷◌, ◌++◌, All, map, Option, Some, None, if◌then◌else◌}
use Rattle.std.specs.Str.{bytes_eq}
use Rattle.black_channel.specs.declared.channel.Parcel.{Parcel}
use Rattle.multi_master.specs.Calls.{AppView}
use Rattle.plant_model.specs.declared.event.PlantLine.{PlantLine}
use Rattle.plant_model.specs.declared.event.PlantLine.TheVariants as script_says
use Rattle.plant_model.specs.Acts.{Said, Event, App, Act, Start, Happen, PullFrom, line_step}
use Rattle.plant_conf.specs.declared.conf.LinkConf.{LinkConf}
use Rattle.plant_model.specs.Fits.{EventFits}
use Rattle.plant_model.specs.Pair.{is_tick_step, pulls_after}

-- what a line says fits the connections: an event of the script; any application does
abbrev pub SaidFits : List LinkConf → Said → Type 0
SaidFits links (Event event) = EventFits links event
SaidFits links (App app) = Unit {0}

-- a plant may have done these acts, and may pull so many parcels before the next line of its script. It starts. Then
-- come the lines, each after the last pull of the line before. So in a tick 64 parcels are pulled, or all until a pull
-- gives nothing, and none elsewhere
abbrev pub IsPast : ℕ → List Act → Type 0
IsPast room (Start ∷ []) = room ≡ 0
IsPast room (Happen said ∷ acts) = (room ≡ (pulls_after (is_tick_step (line_step said)))) × IsPast 0 acts
IsPast room (PullFrom None ∷ acts) = (room ≡ 0) × ((left : ℕ) × IsPast (suc left) acts)
IsPast room (PullFrom (Some parcel) ∷ acts) = IsPast (suc room) acts
IsPast room _ = ⊥

-- what was said in these acts, the first of which comes first
abbrev pub said_in : List Act → List Said
said_in [] = []
said_in (Happen said ∷ acts) = said_in acts ++ said ∷ []
said_in (_ ∷ acts) = said_in acts

-- a plant of these connections may have done these acts, up to the end of a line
pub record MayHaveDone (links : List LinkConf) (acts : List Act) : Type 0 where
  pub past : IsPast 0 acts
  pub fit : All (SaidFits links) (said_in acts)

-- these acts with those of one line more: what the line says, and then the pulls, which gave this, newest first. So at
-- a tick come first the ticks of all slaves and of all masters with a cycle of the application (`script_part`,
-- `event_call`, `cycle_in`), its offers and the frames that were sent (`offers`, `all_pushes`); and then pull after
-- pull, each with what it leads to
abbrev pub with_line : Said → List (Option Parcel) → List Act → List Act
with_line said gifts acts = map PullFrom gifts ++ Happen said ∷ acts

-- an application that was handed in, by its name
pub record Named : Type 0 where
  pub name : List ℕ
  pub app : AppView

-- an application that was taken, and those that are left
pub record Taken : Type 0 where
  pub app : AppView
  pub left : List Named

-- what is taken of others, where it isn't this one that is
abbrev pub passed : Named → Option Taken → Option Taken
passed first None = None
passed first (Some taken) = Some (record taken { left = first ∷ taken.left })

-- the first application of this name, if there is one, is taken
abbrev pub take_app : List ℕ → List Named → Option Taken
take_app name [] = None
take_app name (first ∷ others) =
    if bytes_eq first.name name then Some (record { app = first.app; left = others }) else passed first (take_app name others)

-- what is said with an application that was taken, and then with those left
abbrev pub said_with : Option Taken → (List Named → List Said) → List Said
said_with None later = []
said_with (Some taken) later = App taken.app ∷ later taken.left

-- what these lines of a script say, where these applications are handed in: each line for an application takes the
-- first of its name that isn't yet used. After a line that finds none nothing more is said
abbrev pub said : List Named → List PlantLine → List Said
said spare [] = []
said spare (script_says.Step event ∷ lines) = Event event ∷ said spare lines
said spare (script_says.App name ∷ lines) = said_with (take_app name spare) (λ left. said left lines)
said spare (script_says.End ∷ lines) = []

-- the applications that were said are among these, each an entry that no earlier one took
abbrev pub AppsAreSpare : List Named → List Said → Type 0
AppsAreSpare spare [] = Unit {0}
AppsAreSpare spare (Event event ∷ said) = AppsAreSpare spare said
AppsAreSpare spare (App app ∷ said) =
    (before : List Named) × (named : Named) × (after : List Named) × (spare ≡ before ++ named ∷ after) × (named.app ≡ app) × AppsAreSpare (before ++ after) said
