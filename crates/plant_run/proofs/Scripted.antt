-- What a plant reports of its script, as far as it ran.
use Rattle.plant_run.proofs.Common.{Act, Beginning, Ended, EndsReport, Happen, IsPast, IsPrefix, JournalStep, LinkConf, None, Option, Parcel, PlantLine, PlantReports, PullFrom, ReportsSoFar, RunCloses, RunStands, RunView, Said, Script, ScriptHeading, Some, Start, Terms, ChannelTold, append-nil, bound_line, bound_lines, in_tick, input_stopped, is_line, is_tick_step, journal, plant_last_lines, line_said, line_step, line_steps, lines_by, lines_due, lines_from, no_lines_by, no_lines_pulled, offers, plant_reporting, pulls_after, report_end, report_text, script_stop, said, said_in, plant_tick_lines, journal_ticks, ticks_text, watched_after, with_line}
use Rattle.std.proofs.Common.{◌≡◌, ℕ, ◌+◌, Bool, true, false, List, [], ◌∷◌, ◌++◌, length, if◌then◌else◌, refl, sym, ap, ap₂, ◌∙◌, append_assoc, eq-eqb, arith}
use Rattle.std.proofs.lemmas.List.Elements.{filter-append}
use Rattle.schedule_file.specs.Input.{AtEnd, NoApp, Refused, Stop}
use Rattle.plant_conf.specs.declared.conf.BoundSpec.{BoundSpec}
use Rattle.plant_model.specs.declared.journal.JournalStep.TheVariants as step

-- the lines go on after a line of the script
lines_split : (links : List LinkConf) (before a b : List JournalStep) (one : JournalStep) → is_line one ≡ true
    → lines_from links before (a ++ one ∷ b) ≡ lines_from links before a ++ lines_from links ((before ++ a) ++ one ∷ []) b
lines_split links before [] b one is =
    ap (λ (line : Bool). (if line then lines_due links before else []) ++ lines_from links (before ++ one ∷ []) b) is
    ∙ ap (λ (z : List JournalStep). lines_due links before ++ lines_from links (z ++ one ∷ []) b) (sym (append-nil before))
lines_split links before (x ∷ a) b one is =
    let due : List ℕ = if is_line x then lines_due links before else [] in
    ap (λ (z : List ℕ). due ++ z) (lines_split links (before ++ x ∷ []) a b one is)
    ∙ sym (append_assoc due (lines_from links (before ++ x ∷ []) a) (lines_from links (((before ++ x ∷ []) ++ a) ++ one ∷ []) b))
    ∙ ap (λ (z : List JournalStep). (due ++ lines_from links (before ++ x ∷ []) a) ++ lines_from links (z ++ one ∷ []) b) (append_assoc before (x ∷ []) a)

-- steps that are no lines of the script are no ticks, and come before the lines of their tick
pub quiet : (rest : List JournalStep) → line_steps rest ≡ [] → (journal_ticks rest ≡ 0) × ((before : Bool) → in_tick before rest ≡ before) × ((links : List LinkConf) (before : List JournalStep) → lines_from links before rest ≡ lines_due links (before ++ rest))
quiet [] none = (refl, λ before. refl, λ links before. ap (lines_due links) (sym (append-nil before)))
quiet (step.Offer link load ∷ rest) none =
    let q = quiet rest none in
    (q.0, q.1, λ links before. q.2 links (before ++ step.Offer link load ∷ []) ∙ ap (lines_due links) (append_assoc before (step.Offer link load ∷ []) rest))
quiet (step.Pulled parcel ∷ rest) none =
    let q = quiet rest none in
    (q.0, q.1, λ links before. q.2 links (before ++ step.Pulled parcel ∷ []) ∙ ap (lines_due links) (append_assoc before (step.Pulled parcel ∷ []) rest))
quiet _ none = absurd (cc none)

in_tick_append : (before : Bool) (a b : List JournalStep) → in_tick before (a ++ b) ≡ in_tick (in_tick before a) b
in_tick_append before [] b = refl
in_tick_append before (x ∷ a) b = in_tick_append (if is_line x then is_tick_step x else before) a b

-- a journal is another one, a line of the script, and steps that are none
pub record After (said : Said) (old new : List JournalStep) : Type 0 where
  pub rest : List JournalStep
  pub is : new ≡ old ++ line_step said ∷ rest
  pub none : line_steps rest ≡ []

line_is : (said : Said) → is_line (line_step said) ≡ true
line_is said = grind arith

-- then its text is that of the other, and the lines of the tick, where the line is one
pub text_after : (links : List LinkConf) (said : Said) (old new : List JournalStep) → After said old new → ticks_text links new ≡ ticks_text links old ++ (if is_tick_step (line_step said) then plant_tick_lines links new else [])
text_after links said old new a =
    let one : JournalStep = line_step said in
    let q = quiet a.rest a.none in
    let due : in_tick false new ≡ is_tick_step one =
    ap (in_tick false) a.is ∙ in_tick_append false old (one ∷ a.rest) ∙ ap (λ (line : Bool). in_tick (if line then is_tick_step one else in_tick false old) a.rest) (line_is said) ∙ q.1 (is_tick_step one)
    in
    ap (ticks_text links) a.is
    ∙ lines_split links [] old a.rest one (line_is said)
    ∙ ap (λ (z : List ℕ). ticks_text links old ++ z)
    (q.2 links (old ++ one ∷ []) ∙ ap (lines_due links) (append_assoc old (one ∷ []) a.rest ∙ sym a.is) ∙ ap (λ (tick : Bool). if tick then plant_tick_lines links new else []) due)

-- the acts at a line
pub after_line : (b : Beginning) (said : Said) (gifts : List (Option Parcel)) (done : List Act) → After said (journal b done) (journal b (with_line said gifts done))
after_line b said [] done = record { rest = offers b (Happen said) done; is = refl; none = no_lines_by b (Happen said) done }
after_line b said (None ∷ gifts) done =
    let a = after_line b said gifts done in
    record { rest = a.rest; is = append-nil (journal b (with_line said gifts done)) ∙ a.is; none = a.none }
after_line b said (Some parcel ∷ gifts) done =
    let a = after_line b said gifts done in
    let more : List JournalStep = offers b (PullFrom (Some parcel)) (with_line said gifts done) ++ step.Pulled parcel ∷ [] in
    record {
      rest = a.rest ++ more;
      is = ap (λ (z : List JournalStep). z ++ more) a.is ∙ append_assoc (journal b done) (line_step said ∷ a.rest) more;
      none = filter-append is_line a.rest more ∙ ap (λ (z : List JournalStep). z ++ line_steps more) a.none ∙ no_lines_pulled b parcel (with_line said gifts done);
    }

-- lines at which nothing was pulled
abbrev nothing : Said → List (Option Parcel)
nothing one = if is_tick_step (line_step one) then None ∷ [] else []

-- there may be such acts
one_past : (one : Said) (acts : List Act) (tick : Bool) → is_tick_step (line_step one) ≡ tick → IsPast 0 acts → IsPast 0 (with_line one (if tick then None ∷ [] else []) acts)
one_past one acts true e h = (refl, (63, (sym (ap pulls_after e), h)))
one_past one acts false e h = (sym (ap pulls_after e), h)

-- acts that go on so by further lines: what was said in them goes on too, and the lines of their ticks begin with these
record Further (b : Beginning) (acts : List Act) (more : List Said) (text : List ℕ) : Type 0 where
  further : List Act
  past : IsPast 0 further
  says : said_in further ≡ said_in acts ++ more
  begins : IsPrefix text (ticks_text b.links (journal b further))

quietly : (b : Beginning) (acts : List Act) (more : List Said) (text : List ℕ) → text ≡ ticks_text b.links (journal b acts) → IsPast 0 acts → Further b acts more text
quietly b acts [] text is h = record { further = acts; past = h; says = sym (append-nil (said_in acts)); begins = ([], sym (append-nil text ∙ is)) }
quietly b acts (one ∷ more) text is h =
    let next : List Act = with_line one (nothing one) acts in
    let tick : List ℕ = if is_tick_step (line_step one) then plant_tick_lines b.links (journal b next) else [] in
    let grew = ap (λ (z : List ℕ). z ++ tick) is ∙ sym (text_after b.links one (journal b acts) (journal b next) (after_line b one (nothing one) acts)) in
    let q = quietly b next more (text ++ tick) grew (one_past one acts (is_tick_step (line_step one)) refl h) in
    record {
      further = q.further;
      past = q.past;
      says = q.says ∙ ap (λ (z : List Said). z ++ more) (line_said one (nothing one) acts) ∙ append_assoc (said_in acts) (one ∷ []) more;
      begins = (tick ++ q.begins.0, q.begins.1 ∙ append_assoc text tick q.begins.0);
    }

-- where all lines happened, a run stops as its script does
stops_with : (happened : ℕ) (script : Script) → happened ≡ length script.events → script_stop happened script ≡ script.stop
stops_with happened script all = ap (λ (whole : Bool). if whole then script.stop else Refused (script.lines + happened + 1) NoApp) (eq-eqb happened (length script.events) all)

-- each script has a report
pub some_report : (t : Terms) (script : Script) → (report : List ℕ) × (ended : Ended) × PlantReports t script ended report
some_report t script = let q = quietly t.begins (Start ∷ []) (said t.spare script.events) _ refl refl in (_, _, (q.further, q.past, q.says, refl, refl))

-- what stands for all these lines reports them with this end
pub said_are : {t : Terms} {before : ChannelTold} {now : RunView} {count : ℕ} {h : ScriptHeading} {log : List PlantLine} {text : List ℕ} → (k : RunStands t before now count h log text) → said_in k.acts ≡ said t.spare log
said_are {t} {before} {now} {count} {h} {log} k = sym (ap (said t.spare) (sym (append-nil log)) ∙ k.says [] ∙ append-nil (said_in k.acts))

reports_stopped : {t : Terms} {before : ChannelTold} {now : RunView} {count : ℕ} {h : ScriptHeading} {log : List PlantLine} {text : List ℕ} → (lines : ℕ) (stop : Stop) (k : RunStands t before now count h log text)
    → PlantReports t (input_stopped h lines log stop) (report_end t.begins.links now.plant.journal stop) (report_text t.begins.links now.plant.journal (bound_lines t.begins k.acts t.bounds) stop)
reports_stopped {t} {before} {now} {count} {h} {log} lines stop k =
    let same = k.stands.has_done.journal_is in
    let stops = sym (stops_with (length (said_in k.acts)) (input_stopped h lines log stop) k.whole) in (
      k.acts,
      k.stands.may.past,
      said_are k,
      ap₂ (λ (j : List JournalStep) (s : Stop). report_text t.begins.links j (bound_lines t.begins k.acts t.bounds) s) same stops,
      ap₂ (λ (j : List JournalStep) (s : Stop). report_end t.begins.links j s) same stops,
    )

-- the lines so far begin the report, and with a last line they are that of a script that stops after them
pub plant_so_far : {t : Terms} {before : ChannelTold} {now : RunView} {count : ℕ} {h : ScriptHeading} {log : List PlantLine} {text : List ℕ} → RunStands t before now count h log text → ReportsSoFar (plant_reporting t) h log text
plant_so_far {t} {before} {now} {count} {h} {log} {text} k = record {
  begins = λ lines more stop.
      let q = quietly t.begins k.acts (said now.left more) text (k.text_is ∙ ap (ticks_text t.begins.links) k.stands.has_done.journal_is) k.stands.may.past in
      let last : List ℕ = plant_last_lines t.begins.links (journal t.begins q.further) (bound_lines t.begins q.further t.bounds) (script_stop (length (said_in q.further)) (input_stopped h lines (log ++ more) stop)) in
      (_, _, (q.further, q.past, q.says ∙ sym (k.says more), refl, refl), (q.begins.0 ++ last, ap (λ (z : List ℕ). z ++ last) q.begins.1 ∙ append_assoc text q.begins.0 last));
  refused = λ lines number why. rw k.text_is (reports_stopped lines (Refused number why) k);
}

-- the lines of bounds are those by their reactions
lines_are : (b : Beginning) (acts : List Act) (bounds : List BoundSpec) → lines_by b.links (journal b acts) (watched_after b acts bounds) ≡ bound_lines b acts bounds
lines_are b acts [] = refl
lines_are b acts (bound ∷ bounds) = ap (λ (z : List ℕ). bound_line b acts bound ++ z) (lines_are b acts bounds)

pub bounds_shown : (t : Terms) (now : RunView) (acts : List Act) → now.plant.journal ≡ journal t.begins acts → now.watched ≡ watched_after t.begins acts t.bounds → lines_by t.begins.links now.plant.journal now.watched ≡ bound_lines t.begins acts t.bounds
bounds_shown t now acts same are = rw (same, are) (lines_are t.begins acts t.bounds)

-- the whole report
pub plant_ends : {t : Terms} {before : ChannelTold} {now : RunView} {h : ScriptHeading} {log : List PlantLine} {text : List ℕ} {ended : Ended} → RunCloses t before now h log text ended → EndsReport (plant_reporting t) h log text ended
plant_ends {t} {before} {now} c = λ lines.
    rw (c.ended_is, c.text_is, bounds_shown t now c.stands.acts c.stands.stands.has_done.journal_is c.stands.watched_are) (reports_stopped lines AtEnd c.stands)
