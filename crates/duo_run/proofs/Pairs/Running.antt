-- Several pairs do over their events what the world of each says, and report it.
use Rattle.duo_run.proofs.Common.{DuoView, Ended, EndsUnmet, IsPrefix, NoFrame, Option, Pair, PairsEvent, PairsHeading, PairsInput, PairsReports, PairsStand, Refused, ReportsSoFar, Stop, append-nil, common_steps, done_after, event_lines, events_done, input_stopped, is_met, lines_of_events, pairs_ended, pairs_input, pairs_last_lines, pairs_reporting, pairs_stop}
use Rattle.std.proofs.Common.{◌≡◌, ◌+◌, ℕ, suc, Bool, true, false, List, [], ◌∷◌, ◌++◌, length, refl, arith, ap, sym, ◌∙◌, append_assoc, rules}
use Rattle.std.specs.Prelude.{if◌then◌else◌}
use Rattle.duo_run.proofs.Pairs.Sound.{some_pairs}

-- where all events are done, the run goes on from there
done_by : (met : Bool) (pairs : List Pair) (event : PairsEvent) (log more past : List PairsEvent) → (length (done_after pairs log (event ∷ past)) ≡ length (event ∷ past) + length log → done_after pairs (log ++ more) (event ∷ past) ≡ done_after pairs more (done_after pairs log (event ∷ past)))
    → length (if met then done_after pairs log (event ∷ past) else past) ≡ length past + suc (length log)
    → (if met then done_after pairs (log ++ more) (event ∷ past) else past) ≡ done_after pairs more (if met then done_after pairs log (event ∷ past) else past)
done_by met pairs event log more past h k = grind arith

done_on : (pairs : List Pair) (log more past : List PairsEvent) → length (done_after pairs log past) ≡ length past + length log → done_after pairs (log ++ more) past ≡ done_after pairs more (done_after pairs log past)
done_on pairs [] more past whole = refl
done_on pairs (event ∷ log) more past whole = done_by (is_met pairs past event) pairs event log more past (done_on pairs log more (event ∷ past)) whole

events_on : (pairs : List Pair) (log more : List PairsEvent) → length (events_done pairs log) ≡ length log → events_done pairs (log ++ more) ≡ done_after pairs more (events_done pairs log)
events_on pairs log more whole = done_on pairs log more [] (omega (arith, whole))

-- the next event is done
pub done_next : (pairs : List Pair) (log : List PairsEvent) (event : PairsEvent) (past : List PairsEvent) → past ≡ events_done pairs log → length past ≡ length log → is_met pairs past event ≡ true → event ∷ past ≡ events_done pairs (log ++ event ∷ [])
done_next pairs log event past h k l = search (rules, events_on)

-- or it isn't, and the run ends there, whatever comes after
pub done_missed : (pairs : List Pair) (log more : List PairsEvent) (event : PairsEvent) (past : List PairsEvent) → past ≡ events_done pairs log → length past ≡ length log → is_met pairs past event ≡ false → past ≡ events_done pairs (log ++ event ∷ more)
done_missed pairs log more event past h k l = search (rules, events_on)

-- the lines of what was done come first
lines_by : (met : Bool) (pairs : List Pair) (event : PairsEvent) (events past : List PairsEvent) → IsPrefix (lines_of_events pairs (event ∷ past)) (lines_of_events pairs (done_after pairs events (event ∷ past)))
    → IsPrefix (lines_of_events pairs past) (lines_of_events pairs (if met then done_after pairs events (event ∷ past) else past))
lines_by true pairs event events past later =
    let lines : List ℕ = event_lines (length past + 1) pairs past event in
    (lines ++ later.0, later.1 ∙ append_assoc (lines_of_events pairs past) lines later.0)
lines_by false pairs event events past later = ([], sym (append-nil (lines_of_events pairs past)))

lines_after : (pairs : List Pair) (events past : List PairsEvent) → IsPrefix (lines_of_events pairs past) (lines_of_events pairs (done_after pairs events past))
lines_after pairs [] past = ([], sym (append-nil (lines_of_events pairs past)))
lines_after pairs (event ∷ events) past = lines_by (is_met pairs past event) pairs event events past (lines_after pairs events (event ∷ past))

pub lines_begin : (pairs : List Pair) (log more past : List PairsEvent) → past ≡ events_done pairs log → length past ≡ length log → IsPrefix (lines_of_events pairs past) (lines_of_events pairs (events_done pairs (log ++ more)))
lines_begin pairs log more past is whole =
    let rest = lines_after pairs more past in
    (rest.0, ap (lines_of_events pairs) (events_on pairs log more (ap (length {A = PairsEvent}) (sym is) ∙ whole) ∙ ap (done_after pairs more) (sym is)) ∙ rest.1)

-- the lines so far and the last lines are the report of an input that stops after them
pub pairs_stopped : (duos : List DuoView) (others : List (Option ℕ)) (made : ℕ) (h : PairsHeading) (n : ℕ) (log : List PairsEvent) (text : List ℕ) (stop : Stop) (k : PairsStand duos others made h log text)
    → PairsReports (input_stopped h n log stop) (pairs_ended k.pairs k.past stop) (text ++ pairs_last_lines k.pairs k.past stop)
pairs_stopped duos others made h n log text stop k = grind arith

pub pairs_so_far : (duos : List DuoView) (others : List (Option ℕ)) (made : ℕ) (h : PairsHeading) (log : List PairsEvent) (text : List ℕ) → PairsStand duos others made h log text → ReportsSoFar pairs_reporting h log text
pairs_so_far duos others made h log text k = record {
  begins = λ n more stop.
      let input : PairsInput = input_stopped h n (log ++ more) stop in
      let all : List PairsEvent = events_done k.pairs (log ++ more) in
      let last : List ℕ = pairs_last_lines k.pairs all (pairs_stop input all) in
      let begun = lines_begin k.pairs log more k.past k.done k.whole in (
        lines_of_events k.pairs all ++ last,
        pairs_ended k.pairs all (pairs_stop input all),
        (k.pairs, k.set, refl, refl),
        (
          begun.0 ++ last,
          ap (λ (z : List ℕ). z ++ last) begun.1 ∙ append_assoc (lines_of_events k.pairs k.past) begun.0 last ∙ ap (λ (z : List ℕ). z ++ (begun.0 ++ last)) (sym k.lines),
        ),
      );
  refused = λ n number why. pairs_stopped duos others made h n log text (Refused number why) k;
}

-- an event comes whose frame wasn't sent
pub pairs_unsent : (duos : List DuoView) (others : List (Option ℕ)) (made : ℕ) (h : PairsHeading) (log : List PairsEvent) (text : List ℕ) (event : PairsEvent) (k : PairsStand duos others made h log text) → is_met k.pairs k.past event ≡ false
    → EndsUnmet pairs_reporting h log text event NoFrame
pairs_unsent duos others made h log text event k l = grind (arith, common_steps, done_missed)

-- each input has a report
pub some_report : (bytes : List ℕ) → (report : List ℕ) × (ended : Ended) × PairsReports (pairs_input bytes) ended report
some_report bytes =
    let input : PairsInput = pairs_input bytes in
    let pairs = some_pairs bytes in
    let past : List PairsEvent = events_done pairs.0 input.events in
    (lines_of_events pairs.0 past ++ pairs_last_lines pairs.0 past (pairs_stop input past), pairs_ended pairs.0 past (pairs_stop input past), (pairs.0, pairs.1, refl, refl))
