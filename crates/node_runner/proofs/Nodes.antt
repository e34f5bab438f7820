-- A node does over its events what looking back says, and reports it.
use Rattle.std.proofs.Common.{◌≡◌, ℕ, ◌+◌, List, [], ◌++◌, length, refl, arith, ap, ◌∙◌, sym, subst, append_assoc}
use Rattle.fsoe_base.specs.declared.command.End.{End}
use Rattle.fsoe_base.specs.declared.command.State.{State}
use Rattle.fsoe_base.specs.declared.did.Did.{Did}
use Rattle.fsoe_io.specs.declared.status.Ended.{Ended}
use Rattle.schedule_file.specs.Event.{FitsEnd}
use Rattle.schedule_file.specs.Header.{Heading}
use Rattle.schedule_file.specs.Input.{AtEnd, own_length, heading_profile, schedule_format}
use Rattle.schedule_file.proofs.Fitting.{node_event_fits}
use Rattle.schedule_file.specs.declared.event.Event.{Event}
use Rattle.schedule_file.specs.declared.header_kind.HeaderKind.TheVariants as kind
use Rattle.file_run.specs.Machine.{TakesEvent, MayCome, EndsReport}
use Rattle.file_run.specs.Report.{events_line, last_line}
use Rattle.file_run.specs.Reporting.{ReportsSoFar, ended_at}
use Rattle.end_model.specs.Setup.{Setup}
use Rattle.end_model.specs.Runs.{IsProper}
use Rattle.end_model.specs.Deed.{Deed}
use Rattle.end_model.specs.Outputs.{out}
use Rattle.end_model.specs.Readiness.{state_of}
use Rattle.end_model.specs.Step.{step}
use Rattle.end_core.proofs.Either.{setup_is}
use Rattle.end_core.specs.Core.{setup_of, IsAtRest}
use Rattle.end_core.specs.Standing.{IsAfter, IsNew, Follows, Answers, Shows}
use Rattle.end_core.specs.declared.one_end.Core.{Core}
use Rattle.node_runner.specs.Move.{move_of}
use Rattle.node_runner.specs.Node.{NodeStands}
use Rattle.node_runner.specs.Ran.{node_reporting}
use Rattle.node_runner.specs.Report.{IsSetTo, step_line, deed_line, deed_lines, node_deeds}
use Rattle.node_runner.proofs.DeedLines.{count_deeds, deeds_more, lines_begin}

-- a new end that is set to what a header says
pub begins : (end : End) (core : Core) (h : Heading) (s : Setup) → IsNew core → setup_of core ≡ s → IsSetTo end h s → NodeStands end core h [] []
begins end core h s new is set = record {
  setup = setup_of core;
  set = subst (IsSetTo end h) (sym is) set;
  is_after = new.is_after;
  rest = new.rest;
  lines = refl;
}

-- what fits a header may happen to the end that is set to it
proper_set : (end : End) (h : Heading) (s : Setup) (event : Event) → IsSetTo end h s → FitsEnd end (own_length h end) (heading_profile h end) event → IsProper s (move_of event)
proper_set end h s event k l = grind arith

pub node_fits : (end : End) (core : Core) (event : Event) (number : ℕ) → MayCome (NodeStands end core) (schedule_format (kind.Node end)) event number → IsProper (setup_of core) (move_of event)
node_fits end core event number may =
    let k = may.stands in
    let said = may.said in
    subst (λ (s : Setup). IsProper s (move_of event)) (sym (setup_is k.setup core (node_deeds k.setup may.log) k.is_after))
    (proper_set end may.heading k.setup event k.set (node_event_fits end may.heading said.0 said.1 event said.2 said.3))

-- an event at an end, which did this and sent this frame, and what is shown after it, as a line
pub record Reports (old new : Core) (event : Event) (number : ℕ) (did : Did) (sent : List ℕ) (state : State) (outputs piece : List ℕ) : Type 0 where
  pub follows : Follows old (move_of event) new
  pub answers : Answers old (move_of event) did sent
  pub rest : IsAtRest new
  pub state_is : Shows new state state_of
  pub outputs_are : Shows new outputs out
  pub line : piece ≡ step_line number did state outputs sent

-- is the line of the next deed
line_is : (old new : Core) (event : Event) (number : ℕ) (did : Did) (sent : List ℕ) (state : State) (outputs piece : List ℕ)
    → Reports old new event number did sent state outputs piece → (s : Setup) (e : List Deed) → number ≡ length e + 1 → IsAfter s old e
    → piece ≡ deed_line s e (step s e (move_of event))
line_is old new event number did sent state outputs piece h s e k l = grind arith

pub node_goes_on : (end : End) (old new : Core) (event : Event) (number : ℕ) (did : Did) (sent : List ℕ) (state : State) (outputs piece : List ℕ) → Reports old new event number did sent state outputs piece
    → TakesEvent (NodeStands end old) (NodeStands end new) event number piece
node_goes_on end old new event number did sent state outputs piece r = record {
  takes = λ h log text n k.
      let s : Setup = k.setup in
      let e : List Deed = node_deeds s log in
      let counted : number ≡ length e + 1 = omega (arith, n, count_deeds s log) in
      let line = line_is old new event number did sent state outputs piece r s e counted k.is_after in
      record {
        setup = s;
        set = k.set;
        is_after = subst (IsAfter s new) (sym (deeds_more s log event)) (r.follows.is_after s e k.is_after);
        rest = r.rest;
        lines =
            ap (λ (z : List ℕ). z ++ piece) k.lines
            ∙ ap (λ (z : List ℕ). deed_lines s e ++ z) line
            ∙ ap (deed_lines s) (sym (deeds_more s log event));
      };
}

-- the lines so far begin the report, and with a last line they are that of an input that stops after them
pub node_so_far : (end : End) (core : Core) (h : Heading) (log : List Event) (text : List ℕ) → NodeStands end core h log text → ReportsSoFar (node_reporting end) h log text
node_so_far end core h log text k =
    let s : Setup = k.setup in
    record {
      begins = λ n more stop.
          let lines : List ℕ = deed_lines s (node_deeds s (log ++ more)) in
          let last : List ℕ = last_line (length (log ++ more)) stop in
          let begun = lines_begin s log more in (
            lines ++ last,
            ended_at stop,
            ((lines, (s, k.set, refl), refl), refl),
            (
              begun.0 ++ last,
              ap (λ (z : List ℕ). z ++ last) begun.1
                  ∙ append_assoc (deed_lines s (node_deeds s log)) begun.0 last
                  ∙ ap (λ (z : List ℕ). z ++ (begun.0 ++ last)) (sym k.lines),
            ),
          );
      refused = λ n number why. ((text, (s, k.set, k.lines), refl), refl);
    }

pub node_ends : (end : End) (core : Core) (h : Heading) (log : List Event) (text last : List ℕ) (events : ℕ) (ended : Ended) → length log ≡ events
    → last ≡ events_line events → ended ≡ ended_at AtEnd → NodeStands end core h log text → EndsReport (node_reporting end) h log (text ++ last) ended
node_ends end core h log text last events ended count is e k = λ n.
    ((text, (k.setup, k.set, k.lines), ap (λ (z : List ℕ). text ++ z) (is ∙ ap events_line (sym count))), e)
