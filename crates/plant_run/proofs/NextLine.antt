-- A plant that runs goes on by a line of its script.
use Rattle.plant_run.proofs.Common.{Act, App, AppView, Beginning, BoundSpec, Ended, EndsStopped, EndsWhole, EntryOf, Fits, Follows, HearsOne, IfOk-at_ok, IsReportOf, IsSaid, IsTaken, JournalStep, KindOf, Lengths, LineFits, LinkConf, None, Option, Parcel, PlantLine, PlantStands, PlantView, Plays, RunCloses, RunStands, RunView, Said, ScriptHeading, Some, Start, Starts, Taken, TellsOther, Terms, ChannelTold, Watched, codes, common_steps, decimal, ended_with, fixed_in, happening, has_other, heard, heard_before, heard_of, is_tick_step, is_ticking, journal, length_push, lengths_in, lengths_kept, lengths_made, line_said, line_step, lines_by, link_lines, links_made, lowest_other, named, no_lines_by, offers, other_line, name_place, plant_reporting, report_text, said, said_in, said_with, script_format, string_bytes, plant_tick_lines, journal_ticks, ticks_text, trace_append, uses, watched_after, watched_by, with_line}
use Rattle.std.proofs.Common.{◌≡◌, ℕ, ◌+◌, ◌≤◌, Bool, true, false, cond, suc, List, [], ◌∷◌, ◌++◌, length, map, All, if◌then◌else◌, refl, sym, ap, ap₂, subst, ◌∙◌, append_assoc, arith, rules}
use Rattle.std.specs.Prelude.{◌⊎◌}
use Rattle.std.specs.List.{AllZip}
use Rattle.fb_net.specs.declared.kind_of.KindOf.TheVariants as kind
use Rattle.schedule_file.specs.Input.{AtEnd}
use Rattle.file_run.specs.declared.stopped.Stopped.{Stopped}
use Rattle.file_run.specs.declared.stopped.Stopped.TheVariants as stopped
use Rattle.plant_conf.specs.Kept.{HasSameLengths}
use Rattle.plant_model.specs.declared.event.PlantEvent.{PlantEvent}
use Rattle.plant_model.specs.declared.event.PlantLine.TheVariants as line
use Rattle.plant_model.specs.Uses.{Trace}
use Rattle.plant_core.proofs.Pulling.{more_uses}
use Rattle.plant_run.proofs.Hearing.{all_heard}
use Rattle.plant_run.proofs.ScriptFits.{all_fit}
use Rattle.plant_run.proofs.TakenApps.{app_missing, app_taken}
use Rattle.plant_run.proofs.Scripted.{After, after_line, bounds_shown, quiet, text_after}

-- one tick more, where the line is one
abbrev pub one_if : Bool → ℕ
one_if tick = cond tick 1 0

one_most : (tick : Bool) → one_if tick ≤ 1
one_most tick = grind arith

ticks_after : (one : Said) (old new : List JournalStep) → After one old new → journal_ticks new ≡ journal_ticks old + one_if (is_tick_step (line_step one))
ticks_after one old new h = let none : journal_ticks h.rest ≡ 0 = (quiet h.rest h.none).0 in grind (arith, common_steps, none)

-- the channel of a plant that went on by a line was used by that too
used : (b : Beginning) (acts : List Act) (one : Said) (new : PlantView) (before mid after : ChannelTold) → Trace (uses b acts) before mid → (p : Plays b acts one new mid after)
    → Trace (uses b (with_line one p.gifts acts)) before after
used b acts one new before mid after h p = grind (arith, common_steps, more_uses, trace_append)

-- what is heard of bounds with a line
line_heard : (b : Beginning) (one : Said) (gifts : List (Option Parcel)) (done now : List Act) (bounds : List BoundSpec) → let new : List Act = with_line one gifts done in
    watched_by b.links (λ bound. heard b bound (is_tick_step (line_step one)) now (heard_of b bound done)) bounds ≡ watched_by b.links (λ bound. heard b bound (is_ticking new) now (heard_before b bound new)) bounds
line_heard b one [] done now bounds = refl
line_heard b one (gift ∷ gifts) done now bounds = line_heard b one gifts done now bounds

-- what is written at a line: the lines of a tick, the first of which numbers it; else nothing
abbrev pub written_at : Said → ℕ → List LinkConf → List JournalStep → List ℕ
written_at one count links steps =
    if is_tick_step (line_step one) then (codes "tick" ++ codes " " ++ decimal count ++ codes "\n") ++ link_lines 1 links steps else []

-- a plant that runs goes on by a line
pub goes_on : {t : Terms} {before : ChannelTold} {old new : RunView} {count now : ℕ} {h : ScriptHeading} {log : List PlantLine} {text piece : List ℕ} {event says : PlantLine} {one : Said} → event ≡ says → RunStands t before old count h log text
    → Follows old.plant one new.plant old.told new.told → fixed_in new.plant.links ≡ fixed_in old.plant.links → AllZip (HearsOne new.plant (is_tick_step (line_step one))) old.watched new.watched
    → ((more : List PlantLine) → said old.left (says ∷ more) ≡ one ∷ said new.left more) → now ≡ count + one_if (is_tick_step (line_step one)) → piece ≡ written_at one now t.begins.links new.plant.journal
    → RunStands t before new now h (log ++ event ∷ []) (text ++ piece)
goes_on {t} {before} {old} {new} {count} {now} {h} {log} {text} {piece} {event} {says} {one} is k follows same hears goes counts written =
    let p = follows.plays t.begins k.acts k.stands.has_done in
    let acts : List Act = with_line one p.gifts k.acts in
    let stands : PlantStands t.begins new.plant acts = record { may = p.may k.stands.may; has_done = p.has_done } in
    let grew : After one old.plant.journal new.plant.journal = rw (k.stands.has_done.journal_is, p.has_done.journal_is) (after_line t.begins one p.gifts k.acts) in
    let counted : now ≡ journal_ticks new.plant.journal = let more = ticks_after one old.plant.journal new.plant.journal grew in omega (arith, more, k.counted, counts) in
    let in_line = line_said one p.gifts k.acts in
    record {
      acts = acts;
      stands = stands;
      whole = omega (arith, k.whole, length_push log event, ap (length {A = Said}) in_line, length_push (said_in k.acts) one);
      says = λ more.
          ap (said t.spare) (append_assoc log (event ∷ []) more)
          ∙ k.says (event ∷ more)
          ∙ ap (λ (first : PlantLine). said_in k.acts ++ said old.left (first ∷ more)) is
          ∙ ap (λ (z : List Said). said_in k.acts ++ z) (goes more)
          ∙ sym (append_assoc (said_in k.acts) (one ∷ []) (said new.left more))
          ∙ ap (λ (z : List Said). z ++ said new.left more) (sym in_line);
      channel = used t.begins k.acts one new.plant before old.told new.told k.channel p;
      watched_are =
          all_heard t.begins acts new.plant (is_tick_step (line_step one)) (λ bound. heard_of t.begins bound k.acts) t.bounds new.watched stands (rw k.watched_are at hears)
          ∙ line_heard t.begins one p.gifts k.acts acts t.bounds;
      fixed = same ∙ k.fixed;
      same_lengths = k.same_lengths;
      counted = counted;
      few = omega (arith, k.few, counts, one_most (is_tick_step (line_step one)), length_push log event);
      lengths_are = k.lengths_are;
      text_is =
          ap₂ (λ (x y : List ℕ). x ++ y) k.text_is (written ∙ ap (λ (n : ℕ). written_at one n t.begins.links new.plant.journal) counted)
          ∙ sym (text_after t.begins.links one old.plant.journal new.plant.journal grew);
    }

-- a plant that has begun runs
pub begun : {t : Terms} {before : ChannelTold} {now : RunView} {h : ScriptHeading} {made : List Watched} → Starts t.begins now.plant before now.told → fixed_in now.plant.links ≡ fixed_in (links_made 1 t.bounds t.begins.links) → made ≡ watched_by t.begins.links (λ bound. []) t.bounds
    → AllZip (HearsOne now.plant false) made now.watched → All HasSameLengths t.begins.links → h.lengths ≡ map lengths_in t.begins.links → ((more : List PlantLine) → said t.spare more ≡ said now.left more) → RunStands t before now 0 h [] []
begun {t} {before} {now} starts fixed fresh hears all lengths_are left =
    let q = quiet (offers t.begins Start []) (no_lines_by t.begins Start []) in
    record {
      acts = Start ∷ [];
      stands = starts.stands;
      whole = refl;
      says = left;
      channel = starts.channel;
      watched_are = all_heard t.begins (Start ∷ []) now.plant false (λ bound. []) t.bounds now.watched starts.stands (rw fresh at hears);
      fixed = fixed;
      same_lengths = all;
      counted = sym (ap journal_ticks starts.stands.has_done.journal_is ∙ q.0);
      few = omega arith;
      lengths_are = lengths_are;
      text_is = sym (ap (ticks_text t.begins.links) starts.stands.has_done.journal_is ∙ q.2 t.begins.links [] ∙ ap (λ (tick : Bool). if tick then plant_tick_lines t.begins.links (offers t.begins Start []) else []) (q.1 false));
    }

-- the line of an event
says_step : (event : PlantLine) (e : PlantEvent) → happening event ≡ Some (line.Step e) → event ≡ line.Step e
says_step event e h = grind arith

-- it fits the connections of the plant
pub step_fits : {t : Terms} {before : ChannelTold} {now : RunView} {count : ℕ} {h : ScriptHeading} {log : List PlantLine} {text : List ℕ} {e : PlantEvent} → RunStands t before now count h log text → IsSaid (script_format (map lengths_in t.begins.links)) h (line.Step e) → Fits (lengths_kept now.plant.links) e
step_fits {t} {before} {now} {count} {h} {log} {text} {e} k said =
    let same : h.lengths ≡ lengths_kept now.plant.links = k.lengths_are ∙ sym (lengths_made t.bounds t.begins.links now.plant.links k.fixed) in
    subst (λ (all : List Lengths). Fits all e) same (subst (LineFits h.lengths) (says_step said.1 e said.3) (IfOk-at_ok (LineFits h.lengths) said.2 (all_fit h.lengths said.0)))

-- what is said with an application that its script takes
pub says_app : {H : Type 0} (view : KindOf H → AppView) (name : List ℕ) (all left : List (EntryOf H)) (entry : EntryOf H) → IsTaken (λ e. string_bytes e.name) name all entry left → (more : List PlantLine)
    → said (map (named view) all) (line.App name ∷ more) ≡ App (view (kind.Handed entry.app)) ∷ said (map (named view) left) more
says_app view name all left entry taken more = ap (λ (o : Option Taken). said_with o (λ rest. said rest more)) (app_taken view name all left entry taken)

lowest_by : (b : Bool) (k : ℕ) (rest : Option ℕ) (n : ℕ) → (rest ≡ Some n → suc k ≤ n) → (if b then Some k else rest) ≡ Some n → k ≤ n
lowest_by b k rest n h l = grind arith

lowest_from : (k : ℕ) (links : List LinkConf) (steps : List JournalStep) (n : ℕ) → lowest_other k links steps ≡ Some n → k ≤ n
lowest_from k [] steps n is = cc
lowest_from k (link ∷ links) steps n is = lowest_by (has_other link k steps) k (lowest_other (suc k) links steps) n (λ e. lowest_from (suc k) links steps n e) is

pub other_ends : {t : Terms} {before : ChannelTold} {now : RunView} {count : ℕ} {h : ScriptHeading} {log : List PlantLine} {text : List ℕ} {other : Option ℕ} → RunStands t before now count h log text → TellsOther now.plant other → EndsWhole true (ended_with other).status (ended_with other).place
other_ends k l = search (rules, lowest_from)

-- an application isn't taken: there is none of its name, or no memory
pub app_stopped : {H : Type 0} (view : KindOf H → AppView) {t : Terms} {before : ChannelTold} {now : RunView} {count : ℕ} {h : ScriptHeading} {log : List PlantLine} {text : List ℕ} (all : List (EntryOf H)) (name : List ℕ) (event : PlantLine) (why : Stopped) → event ≡ line.App name → RunStands t before now count h log text → now.left ≡ map (named view) all
    → (why ≡ stopped.Memory) ⊎ ((why ≡ stopped.NoApp) × (name_place name (map (λ e. string_bytes e.name) all) ≡ None)) → EndsStopped (plant_reporting t) h log text event why
app_stopped view all name event why k l same m = grind (arith, common_steps, app_missing)

-- a plant that has run closes with the lines of its bounds, which wait
pub closed : {t : Terms} {before : ChannelTold} {now : RunView} {count : ℕ} {h : ScriptHeading} {log : List PlantLine} {text : List ℕ} {other : Option ℕ} {piece : List ℕ} {links : List LinkConf} {ended : Ended} → RunStands t before now count h log text → TellsOther now.plant other → piece ≡ (codes "ticks" ++ codes " " ++ decimal count ++ codes "\n") ++ other_line other
    → links ≡ t.begins.links → ended ≡ ended_with other → RunCloses t before now h log (text ++ (piece ++ lines_by links now.plant.journal now.watched)) ended
closed {t} {before} {now} {count} {h} {log} {text} k told is same ended_is =
    let lowest = told.tells t.begins k.acts k.stands in
    let first = is ∙ ap₂ (λ (n : ℕ) (o : Option ℕ). (codes "ticks " ++ decimal n ++ codes "\n") ++ other_line o) k.counted lowest in
    record {
      count = count;
      ticks = text;
      stands = k;
      text_is = ap₂ (λ (x y : List ℕ). x ++ y) k.text_is (ap₂ (λ (x : List ℕ) (ls : List LinkConf). x ++ lines_by ls now.plant.journal now.watched) first same);
      ended_is = ended_is ∙ ap ended_with lowest;
    }

-- it is the report of any acts by which there is its journal, and over which bounds are watched as they are
pub reported : {t : Terms} {before : ChannelTold} {now : RunView} {h : ScriptHeading} {log : List PlantLine} {text : List ℕ} {ended : Ended} (acts : List Act) → now.plant.journal ≡ journal t.begins acts → now.watched ≡ watched_after t.begins acts t.bounds → RunCloses t before now h log text ended
    → IsReportOf t acts now.plant.journal h log text ended
reported {t} {before} {now} acts same are c = (c.text_is ∙ ap (λ (z : List ℕ). report_text t.begins.links now.plant.journal z AtEnd) (bounds_shown t now acts same are), c.ended_is)
