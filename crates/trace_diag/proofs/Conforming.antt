-- Where two ends send the frames of a trace, no row of the table applies to any of them.
use Rattle.trace_diag.proofs.Common.{Accepts, Difference, End, Entry, Event, Field, MasterSettings, Noted, Partner, answer_events, append_assoc, before, command_in, common_steps, entry_at, events_before, field_of, first_difference, first_of_both, frame_len, frame_of, going_on, length-append, length_of, partner, read_schedule, reset_frame, same_end, same_itself, sent_in, turn, turned, whole, world, world_after, world_on}
use Rattle.std.proofs.Common.{◌≡◌, ℕ, List, [], ◌∷◌, ◌++◌, length, drop, Bool, true, false, if◌then◌else◌, Option, None, refl, sym, ap, ap₂, subst, ◌∙◌, arith, rules}
use Rattle.fsoe_base.specs.declared.command.End.TheVariants as end_name
use Rattle.trace_diag.proofs.Along.{same_head}
use Rattle.trace_diag.proofs.Anyway.{sends_anyway, SendsMore}
use Rattle.trace_diag.proofs.LockStep.{first_runs, next_runs}
use Rattle.trace_diag.proofs.NextFrames.{reset_is_next, NextFrame}
use Rattle.trace_diag.proofs.NoField.{in_turn_none}
use Rattle.trace_diag.proofs.PayloadBytes.{all_long, valid_at, AllLong}
use Rattle.trace_diag.proofs.SentRows.{IsPlain}
use Rattle.trace_diag.proofs.Walk.{at_first, first_reset, more, world_of, At, More}

-- no row applies to the frame that comes next
next-none : (ms : MasterSettings) (r : Partner ms) (t : List Noted) (g : List ℕ) (at : End) → turn t ≡ at → NextFrame ms r t g at → field_of ms.lengths t (record { from = at; frame = g }) ≡ None
next-none ms r t g at turned n =
    in_turn_none ms.lengths (before ms.lengths t) (record { from = at; frame = g }) (record { turn = ap (same_end at) turned ∙ same_itself at; long = n.long; right = n.next.right })

-- these frames are at the beginning of those
pub record Begins (part all : List Noted) : Type 0 where
  pub later : List Noted
  pub is : all ≡ later ++ part

begins-on : (x : Entry) (w : List Entry) (none : Bool) (all : List Noted) → Begins (if none then sent_in w else record { from = x.end; frame = x.sent } ∷ sent_in w) all → Begins (sent_in w) all
begins-on x w true all b = b
begins-on x w false all b =
    let y : Noted = record { from = x.end; frame = x.sent } in
    record { later = b.later ++ y ∷ []; is = b.is ∙ sym (append_assoc b.later (y ∷ []) (sent_in w)) }

begins-after : (ms : MasterSettings) (r : Partner ms) (w : List Entry) (e : Option Entry) (rest : List Entry → List Entry) → ((w : List Entry) → Begins (sent_in w) (sent_in (rest w))) → Begins (sent_in w) (sent_in (going_on w e rest))
begins-after ms r w e rest h = search (rules, begins-on)

-- what was sent before is there after further events
sent-before : (ms : MasterSettings) (r : Partner ms) (events : List Event) (w : List Entry) → Begins (sent_in w) (sent_in (world_after ms (partner ms r) events w))
sent-before ms r [] w = record { later = []; is = refl }
sent-before ms r (event ∷ events) w = begins-after ms r w (entry_at ms (partner ms r) w event) (world_after ms (partner ms r) events) (sent-before ms r events)

drop-front : (front rest : List Noted) → drop (length front) (front ++ rest) ≡ rest
drop-front front rest = grind (arith, common_steps)

-- two beginnings of one list that are as long are the same
same-end-of : (later later' part part' : List Noted) → later ++ part ≡ later' ++ part' → length part ≡ length part' → part ≡ part'
same-end-of later later' part part' e long =
    let as-many : length later ≡ length later' = omega (arith, ap (length {A = Noted}) e, length-append later part, length-append later' part', long) in
    sym (drop-front later part) ∙ (ap (drop (length later)) e ∙ (ap (λ (n : ℕ). drop n (later' ++ part')) as-many ∙ drop-front later' part'))

-- the world stands at the end of a trace, whose frames it sent, and no row applies to any of them
pub record Good (ms : MasterSettings) (r : Partner ms) (t : List Noted) : Type 0 where
  pub at : At ms r t
  pub sent : sent_in (world_of ms r t) ≡ t
  pub none : first_difference ms.lengths t ≡ None

pub none_more : (first : Option Difference) (field : Option Field) (n : ℕ) → first ≡ None → field ≡ None → first_of_both first field n ≡ None
none_more first field n h k = ap₂ (λ (a : Option Difference) (b : Option Field). first_of_both a b n) h k

pub good_first : (ms : MasterSettings) (r : Partner ms) → Good ms r (first_reset ms ∷ [])
good_first ms r = record {
  at = at_first ms r;
  sent = (first_runs ms r (first_reset ms)).1;
  none = none_more None _ _ refl (next-none ms r [] (reset_frame 0 ms.lengths.master) end_name.Master refl (reset_is_next ms r [] end_name.Master refl));
}

-- the next frame is the one that is sent
pub good_more : (ms : MasterSettings) (r : Partner ms) (x y : Noted) (t : List Noted) (g : Good ms r (y ∷ t)) (m : More ms r x (y ∷ t)) → x ≡ record { from = turn (y ∷ t); frame = m.steps.answers.reaches.entry.sent } → Good ms r (x ∷ y ∷ t)
good_more ms r x y t g m is = record {
  at = m.at is;
  sent = m.sent ∙ ap₂ (λ (z : Noted) (u : List Noted). z ∷ u) (sym is) g.sent;
  none = none_more (first_difference ms.lengths (y ∷ t)) (field_of ms.lengths (y ∷ t) x) _ g.none (ap (field_of ms.lengths (y ∷ t)) is ∙ next-none ms r (y ∷ t) _ (turn (y ∷ t)) refl m.next);
}

-- one more frame of a trace, where two ends sent the trace over its schedule and further events
good-on : (ms : MasterSettings) (r : Partner ms) (x y : Noted) (t : List Noted) (extra : List Event) (later : List Noted) → Accepts ms r → IsPlain ms → length x.frame ≡ frame_len (length_of ms.lengths x.from)
    → sent_in (world ms (partner ms r) (read_schedule ms.lengths (x ∷ y ∷ t) ++ extra)) ≡ later ++ x ∷ y ∷ t → Good ms r (y ∷ t) → Good ms r (x ∷ y ∷ t)
good-on ms r x y t extra later accepts plain long e g =
    good_more ms r x y t g m (sym (same_head _ x (y ∷ t) (y ∷ t) (aligned _ (ap₂ (λ (z : Noted) (u : List Noted). z ∷ u) refl g.sent) (next_runs ms r x y t accepts fits g.at.runs).whole m.sent)))
  where
    at : End
    at = turn (y ∷ t)

    log : List Event
    log = read_schedule ms.lengths (y ∷ t)

    events : List Event
    events = events_before ms.lengths (y ∷ t) x.frame

    -- a frame that was sent after these is the next one of the trace
    aligned : (z : Noted) → z ∷ sent_in (world_of ms r (y ∷ t)) ≡ z ∷ y ∷ t → length (world_of ms r (x ∷ y ∷ t)) ≡ length (read_schedule ms.lengths (x ∷ y ∷ t)) → sent_in (world_of ms r (x ∷ y ∷ t)) ≡ z ∷ sent_in (world_of ms r (y ∷ t))
        → z ∷ y ∷ t ≡ x ∷ y ∷ t
    aligned z before whole sent =
        let b : Begins (sent_in (world_of ms r (x ∷ y ∷ t))) (sent_in (world_after ms (partner ms r) extra (world_of ms r (x ∷ y ∷ t)))) = sent-before ms r extra (world_of ms r (x ∷ y ∷ t)) in
        let all : b.later ++ z ∷ y ∷ t ≡ later ++ x ∷ y ∷ t = search (rules, before, world_on, whole) in
        same-end-of b.later later (z ∷ y ∷ t) (x ∷ y ∷ t) all refl

    s : SendsMore ms r (answer_events at (length_of ms.lengths at) x.frame) (world_of ms r (y ∷ t)) at
    s = sends_anyway ms r (world_of ms r (y ∷ t)) at (command_in x.frame) (length_of ms.lengths at) (frame_of (length_of ms.lengths at) x.frame).load accepts g.at.runs.on

    goes : world_of ms r (x ∷ y ∷ t) ≡ s.new
    goes = world_on ms (partner ms r) log events g.at.runs.whole ∙ s.is

    came : record { from = at; frame = s.frame } ∷ y ∷ t ≡ x ∷ y ∷ t
    came =
        aligned (record { from = at; frame = s.frame }) (ap (λ (u : List Noted). record { from = at; frame = s.frame } ∷ u) g.sent)
        (ap (length {A = Entry}) goes ∙ (s.whole ∙ omega (arith, g.at.runs.whole, length-append log events))) (ap sent_in goes ∙ s.sent)

    from-turn : at ≡ x.from
    from-turn = ap (λ (z : Noted). z.from) (same_head (record { from = at; frame = s.frame }) x (y ∷ t) (y ∷ t) came)

    fits : length (frame_of (length_of ms.lengths at) x.frame).load ≡ length_of ms.lengths at
    fits = (whole (length_of ms.lengths at) x.frame (valid_at ms.lengths at) (long ∙ ap (λ (e : End). frame_len (length_of ms.lengths e)) (sym from-turn))).load

    m : More ms r x (y ∷ t)
    m = more ms r x y t accepts plain fits g.at

-- what two ends sent of a trace over its schedule and further events
pub good : (ms : MasterSettings) (r : Partner ms) (x : Noted) (t : List Noted) (extra : List Event) (later : List Noted) → Accepts ms r → IsPlain ms → AllLong ms.lengths (x ∷ t)
    → sent_in (world ms (partner ms r) (read_schedule ms.lengths (x ∷ t) ++ extra)) ≡ later ++ x ∷ t → Good ms r (x ∷ t)
good ms r x [] extra later accepts plain long e =
    let runs = first_runs ms r x in
    let b : Begins (sent_in (world_of ms r (x ∷ []))) (sent_in (world_after ms (partner ms r) extra (world_of ms r (x ∷ [])))) = sent-before ms r extra (world_of ms r (x ∷ [])) in
    let all : b.later ++ first_reset ms ∷ [] ≡ later ++ x ∷ [] = search (rules, world_on) in
    subst (λ (x : Noted). Good ms r (x ∷ [])) (same_head (first_reset ms) x [] [] (same-end-of b.later later (first_reset ms ∷ []) (x ∷ []) all refl)) (good_first ms r)
good ms r x (y ∷ t) extra later accepts plain long e =
    let events : List Event = events_before ms.lengths (y ∷ t) x.frame in
    good-on ms r x y t extra later accepts plain (all_long ms.lengths x (y ∷ t) long).0 e
    (good ms r y t (events ++ extra) (later ++ x ∷ []) accepts plain (all_long ms.lengths x (y ∷ t) long).1
    (ap (λ (log : List Event). sent_in (world ms (partner ms r) log)) (sym (append_assoc (read_schedule ms.lengths (y ∷ t)) events extra)) ∙ (e ∙ sym (append_assoc later (x ∷ []) (y ∷ t)))))
