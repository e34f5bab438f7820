-- A pair does over its events what a world says, and reports it.
use Rattle.duo_run.proofs.Common.{Advances, AreSetTo, AtEnd, Did, DuoStands, DuoView, End, Ended, EndsReport, EndsUnmet, EndsWhole, Entry, Event, Fits, Heading, Input, MasterSettings, MayCome, Misses, NextEntry, NoFrame, None, Option, Profile, Refused, ReplayReports, ReplayStands, ReportsSoFar, ShowsLast, SlaveSettings, Some, State, Stop, TakesEvent, codes, decimal, end_of_event, pair_ended_at, ended_with, entry_at, entry_line, entry_lines, events_line, first_other, heading_profile, input_stopped, last_lines, length-append, length_of, length_push, lengths_of, number_of_first, other_line, own_length, pair_event_fits, profile_of, profiles_of, refused_line, replay_reporting, run_stop, schedule_format, steps_done, told_line, world, world_missed, world_next}
use Rattle.std.proofs.Common.{◌≡◌, ◌<◌, ℕ, ◌+◌, ◌^◌, true, List, [], ◌∷◌, ◌++◌, length, refl, arith, ap, ◌∙◌, sym, subst, append_assoc, rules}
use Rattle.schedule_file.specs.declared.header_kind.HeaderKind.TheVariants as kind
use Rattle.duo_run.proofs.Pair.EntryLines.{lines_begin}

-- the lengths and the profiles of a pair are those of the header that it is set to
set_lengths : (h : Heading) (ms : MasterSettings) (ss : SlaveSettings) (v : DuoView) (w : List Entry) → AreSetTo h ms ss → DuoStands ms ss v w → (end : End) → own_length h end ≡ length_of (lengths_of v) end
set_lengths h ms ss v w set stands end = grind arith

set_profiles : (h : Heading) (ms : MasterSettings) (ss : SlaveSettings) (v : DuoView) (w : List Entry) → AreSetTo h ms ss → DuoStands ms ss v w → (end : End) → heading_profile h end ≡ profile_of (profiles_of v) end
set_profiles h ms ss v w set stands end = grind arith

-- so what fits the header fits the pair
pub fits_set : (h : Heading) (ms : MasterSettings) (ss : SlaveSettings) (v : DuoView) (w : List Entry) (event : Event) → AreSetTo h ms ss → DuoStands ms ss v w → Fits (own_length h) (heading_profile h) event
    → Fits (length_of (lengths_of v)) (profile_of (profiles_of v)) event
fits_set h ms ss v w event set stands fits =
    subst (λ (p : End → Profile). Fits (length_of (lengths_of v)) p event) (λ i. λ end. set_profiles h ms ss v w set stands end i)
    (subst (λ (f : End → ℕ). Fits f (heading_profile h) event) (λ i. λ end. set_lengths h ms ss v w set stands end i) fits)

-- an event that may come fits the pair
pub pair_fits : (v : DuoView) (event : Event) (number : ℕ) → MayCome (ReplayStands v) (schedule_format kind.Pair) event number → Fits (length_of (lengths_of v)) (profile_of (profiles_of v)) event
pair_fits v event number may =
    let k = may.stands in
    fits_set may.heading k.ms k.ss v k.entries event k.set k.stands (pair_event_fits may.heading may.said.0 may.said.1 event may.said.2 may.said.3)

-- and its step can be counted
pub pair_counted : (v : DuoView) (event : Event) (number : ℕ) → MayCome (ReplayStands v) (schedule_format kind.Pair) event number → steps_done v + 1 < 2 ^ 64
pair_counted v event number may =
    let counted : steps_done v ≡ length may.stands.entries = ap (λ m. m.noted) may.stands.stands.monitor in
    omega (arith, counted, may.stands.whole, may.number_is, may.few)

told_whole : (v : DuoView) (h : Heading) (log : List Event) (text : List ℕ) (k : ReplayStands v h log text) → length (world k.ms k.ss log) ≡ length log
told_whole v h log text k = ap (length {A = Entry}) (sym k.is_world) ∙ k.whole

-- the next entry has the line of the parts that were told
line-is : (v : DuoView) (number : ℕ) (at : End) (did : Did) (state : State) (outputs sent : List ℕ) (ms : MasterSettings) (ss : SlaveSettings) (x : Entry) (w : List Entry) → ShowsLast v at state (λ x. x.state) → ShowsLast v at outputs (λ x. x.outputs)
    → DuoStands ms ss v (x ∷ w) → x.end ≡ at → x.did ≡ did → x.sent ≡ sent → decimal number ++ codes " " ++ told_line at did state outputs sent ≡ entry_line number x
line-is v number at did state outputs sent ms ss x w h k l m n o = grind arith

-- a step goes on with its entry
pub pair_goes_on : (old new : DuoView) (event : Event) (number : ℕ) (at : End) (did : Did) (state : State) (outputs sent piece : List ℕ) → Advances old event did sent new → at ≡ end_of_event event
    → ShowsLast new at state (λ x. x.state) → ShowsLast new at outputs (λ x. x.outputs) → piece ≡ decimal number ++ codes " " ++ told_line at did state outputs sent → TakesEvent (ReplayStands old) (ReplayStands new) event number piece
pair_goes_on old new event number at did state outputs sent piece advances here states outs written = record {
  takes = λ h log text n k.
      let goes : NextEntry k.ms k.ss k.entries event did sent new = advances.next k.ms k.ss k.entries k.stands in
      let x : Entry = goes.entry in
      let is : piece ≡ entry_line number x = written ∙ line-is new number at did state outputs sent k.ms k.ss x k.entries states outs goes.stands (goes.end_is ∙ sym here) goes.did_is goes.sent_is in
      let counted : number ≡ length k.entries + 1 = omega (arith, n, k.whole) in
      record {
        ms = k.ms;
        ss = k.ss;
        entries = x ∷ k.entries;
        set = k.set;
        stands = goes.stands;
        is_world = ap (λ (w : List Entry). x ∷ w) k.is_world
            ∙ sym (world_next k.ms k.ss log event x (told_whole old h log text k) (subst (λ (w : List Entry). entry_at k.ms k.ss w event ≡ Some x) k.is_world goes.next));
        whole = omega (arith, k.whole, length_push log event);
        lines = ap (λ (z : List ℕ). z ++ piece) k.lines ∙ ap (λ (z : List ℕ). entry_lines k.entries ++ z) (is ∙ ap (λ (n : ℕ). entry_line n x) counted);
      };
}

-- where each event has its entry, the run stops as the input does
stops_with : (input : Input) (w : List Entry) → length w ≡ length input.events → run_stop input w ≡ input.stop
stops_with input w h = grind arith

-- and else at the first event without one
stops_before : (input : Input) (w : List Entry) → (length w ≡ length input.events → ⊥) → run_stop input w ≡ Refused (input.lines + length w + 1) NoFrame
stops_before input w h = grind arith

-- the lines so far begin the report, and with a last line they are that of an input that stops after them
pair_stopped : (v : DuoView) (h : Heading) (n : ℕ) (log : List Event) (text : List ℕ) (stop : Stop) (k : ReplayStands v h log text) → ReplayReports (input_stopped h n log stop) (pair_ended_at k.entries stop) (text ++ last_lines k.entries stop)
pair_stopped v h n log text stop k =
    let stops : run_stop (input_stopped h n log stop) k.entries ≡ stop = stops_with (input_stopped h n log stop) k.entries k.whole in (
      k.entries,
      (k.ms, k.ss, k.set, k.is_world),
      ap (λ (z : List ℕ). z ++ last_lines k.entries stop) k.lines ∙ ap (λ (s : Stop). entry_lines k.entries ++ last_lines k.entries s) (sym stops),
      ap (pair_ended_at k.entries) (sym stops),
    )

pub pair_so_far : (v : DuoView) (h : Heading) (log : List Event) (text : List ℕ) → ReplayStands v h log text → ReportsSoFar replay_reporting h log text
pair_so_far v h log text k = record {
  begins = λ n more stop.
      let all : List Entry = world k.ms k.ss (log ++ more) in
      let stops : Stop = run_stop (input_stopped h n (log ++ more) stop) all in
      let begun = lines_begin k.ms k.ss log more (told_whole v h log text k) in (
        entry_lines all ++ last_lines all stops,
        pair_ended_at all stops,
        (all, (k.ms, k.ss, k.set, refl), refl, refl),
        (
          begun.0 ++ last_lines all stops,
          ap (λ (z : List ℕ). z ++ last_lines all stops) begun.1
              ∙ append_assoc (entry_lines (world k.ms k.ss log)) begun.0 (last_lines all stops)
              ∙ ap (λ (z : List ℕ). z ++ (begun.0 ++ last_lines all stops)) (ap entry_lines (sym k.is_world) ∙ sym k.lines),
        ),
      );
  refused = λ n number why. pair_stopped v h n log text (Refused number why) k;
}

-- an event comes whose frame wasn't sent
pub pair_unsent : (v : DuoView) (event : Event) → Misses v event → (h : Heading) (log : List Event) (text : List ℕ) → ReplayStands v h log text → EndsUnmet replay_reporting h log text event NoFrame
pair_unsent v event misses h log text k = λ n more stop.
    let w : List Entry = k.entries in
    let number : ℕ = n + length log + 1 in
    let input : Input = input_stopped h n ((log ++ event ∷ []) ++ more) stop in
    let none : entry_at k.ms k.ss w event ≡ None = misses.misses k.ms k.ss w k.stands in
    let longer : (log ++ event ∷ []) ++ more ≡ log ++ event ∷ more = append_assoc log (event ∷ []) more in
    let ends : w ≡ world k.ms k.ss ((log ++ event ∷ []) ++ more) = search (rules, world_missed, told_whole) in
    let fewer : length w ≡ length ((log ++ event ∷ []) ++ more) → ⊥ =
    λ same. let all = ap (length {A = Event}) longer in omega (arith, same, all, k.whole, length-append log (event ∷ more)) in
    let stops : run_stop input w ≡ Refused number NoFrame =
    stops_before input w fewer ∙ ap (λ (m : ℕ). Refused (n + m + 1) NoFrame) k.whole in (
      w,
      (k.ms, k.ss, k.set, ends),
      ap (λ (z : List ℕ). z ++ refused_line number NoFrame) k.lines ∙ ap (λ (s : Stop). entry_lines w ++ last_lines w s) (sym stops),
      ap (pair_ended_at w) (sym stops),
    )

-- the line `end` comes
pub pair_ends : (v : DuoView) (h : Heading) (log : List Event) (text last : List ℕ) (events : ℕ) (other : Option ℕ) (ended : Ended) → length log ≡ events
    → ((ms : MasterSettings) (ss : SlaveSettings) (w : List Entry) → DuoStands ms ss v w → other ≡ first_other w) → last ≡ events_line events ++ other_line other → ended ≡ ended_with other → ReplayStands v h log text
    → EndsReport replay_reporting h log (text ++ last) ended
pair_ends v h log text last events other ended count tells is e k = λ n.
    let first : other ≡ first_other k.entries = tells k.ms k.ss k.entries k.stands in
    let lines : last ≡ last_lines k.entries AtEnd = search rules in
    subst (λ (z : List ℕ). ReplayReports (input_stopped h n log AtEnd) ended (text ++ z)) (sym lines)
    (subst (λ (x : Ended). ReplayReports (input_stopped h n log AtEnd) x (text ++ last_lines k.entries AtEnd)) (sym (e ∙ ap ended_with first)) (pair_stopped v h n log text AtEnd k))

pub pair_ends_whole : (v : DuoView) (h : Heading) (log : List Event) (text : List ℕ) (other : Option ℕ) (ended : Ended) → ((ms : MasterSettings) (ss : SlaveSettings) (w : List Entry) → DuoStands ms ss v w → other ≡ first_other w)
    → ended ≡ ended_with other → ReplayStands v h log text → EndsWhole true ended.status ended.place
pair_ends_whole v h log text other ended k l m = search (rules, number_of_first)
