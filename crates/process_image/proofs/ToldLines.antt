-- The lines of an event, slot by slot.
use Rattle.process_image.proofs.Common.{AllZip, AnswersSample, AnswersTick, AreLinesOf, AreNumbered, Deed, Did, Follows, ImageEvent, ImagesView, IsLineOf, IsRun, IsSeatOf, Move, Place, Plan, Seat, Setup, ShowsAt, StandsFor, TellsEvent, append-nil, slot_deeds, slot_entry_line, image_event_lines, last_frame, length-take-le, move_in, move_line, slot_next_deed, option_map, take_all, take_more, told, told_line}
use Rattle.std.proofs.Common.{◌≡◌, ◌+◌, ◌<◌, ◌≤◌, ℕ, zero, suc, List, [], ◌∷◌, ◌++◌, length, map, take, get_or, slice_get, Option, None, Some, append_assoc, refl, sym, ap, ap₂, subst, ◌∙◌, arith, rules}
use Rattle.param_load.specs.declared.entry.Move.TheVariants as move
use Rattle.image_file.specs.declared.event.ImageEvent.TheVariants as event
use Rattle.std.specs.Prelude.{if◌then◌else◌}
use Rattle.end_model.proofs.Told.{told_sent}
use Rattle.process_image.proofs.Following.{deeds_more, reached}
use Rattle.process_image.proofs.Zips.{is_there}
use Rattle.std.proofs.lemmas.Slice.Zip.{AllZip-left}

sent-is : (s : Setup) (e : List Deed) (x : Deed) → IsRun s (x ∷ e) → (if x.did.sent then last_frame s (x ∷ e) else []) ≡ x.sent
sent-is s e x h = search (rules, told_sent)

-- so the line that is told of a slot is that of its deed
told-entry : (n slot : ℕ) (p : Place) (e : List Deed) (x : Deed) → slot ≡ p.number → IsRun p.setup (x ∷ e) → told_line n slot x.did p.setup (x ∷ e) ≡ slot_entry_line n p e x
told-entry n slot p e x h k = search (rules, sent-is)

-- what a slot did was reached
run-at : (size : ℕ) (calls : List ImageEvent) (places : List Place) (seats : List Seat) (k : ℕ) (p : Place) → AllZip (IsSeatOf size calls) places seats → slice_get places k ≡ Some p → IsRun p.setup (slot_deeds size p calls)
run-at size calls places seats k p z e =
    let seat = is_there (slice_get seats k) (λ seat. IsSeatOf size calls p seat) (rw e at (AllZip-left (IsSeatOf size calls) places seats z k)) in
    reached p.setup seat.there.core (slot_deeds size p calls) seat.holds.end_is

pub number_at : (n : ℕ) (places : List Place) (k : ℕ) (p : Place) → AreNumbered n places → slice_get places k ≡ Some p → p.number ≡ n + k
number_at n [] k p h at = absurd (cc at)
number_at n (q ∷ places) zero p h at = let i : q ≡ p = cc in ap (λ (q : Place). q.number) (sym i) ∙ h.0 ∙ omega arith
number_at n (q ∷ places) (suc k) p h at = number_at (suc n) places k p h.1 at ∙ omega arith

-- the line of the slot of a number, where an event is a move of it
pub shown_entry : (plan : Plan) (v : ImagesView) (calls : List ImageEvent) (event : ImageEvent) (n k : ℕ) (p : Place) (what : Move) (did : Did) (text : List ℕ) → StandsFor plan v (event ∷ calls) → slice_get plan.places k ≡ Some p
    → move_in plan.size_in p calls event ≡ Some what → did ≡ (slot_next_deed plan.size_in p calls what).did → ShowsAt v (suc k) text (told_line n (suc k) did)
    → text ≡ slot_entry_line n p (slot_deeds plan.size_in p calls) (slot_next_deed plan.size_in p calls what)
shown_entry plan v calls event n k p what did text h at moves done shows =
    let e : List Deed = slot_deeds plan.size_in p calls in
    let x : Deed = slot_next_deed plan.size_in p calls what in
    let more : slot_deeds plan.size_in p (event ∷ calls) ≡ x ∷ e = deeds_more plan.size_in p calls event what moves in
    let run : IsRun p.setup (x ∷ e) = subst (λ (d : List Deed). IsRun p.setup d) more (run-at plan.size_in (event ∷ calls) plan.places v.seats k p h.slots at) in
    let number : suc k ≡ p.number = let q = number_at 1 plan.places k p h.made.numbers at in omega (arith, q) in
    let shown : option_map (λ (p : Place). told_line n (suc k) did p.setup (slot_deeds plan.size_in p (event ∷ calls))) (slice_get plan.places k) ≡ Some text = shows.shows plan (event ∷ calls) h in
    let is : told_line n (suc k) did p.setup (slot_deeds plan.size_in p (event ∷ calls)) ≡ text =
    let s : Some (told_line n (suc k) did p.setup (slot_deeds plan.size_in p (event ∷ calls))) ≡ Some text = ap (option_map (λ (p : Place). told_line n (suc k) did p.setup (slot_deeds plan.size_in p (event ∷ calls)))) (sym at) ∙ shown in
    cc
    in
    sym is ∙ ap₂ (λ (d : Did) (e : List Deed). told_line n (suc k) d p.setup e) done more ∙ told-entry n (suc k) p e x number run

-- the line of what is told of a slot is that of its move
line-is : (plan : Plan) (v : ImagesView) (calls : List ImageEvent) (event : ImageEvent) (n k : ℕ) (p : Place) (o : Option Move) (line : List ℕ) → StandsFor plan v (event ∷ calls) → n ≡ length calls + 1 → slice_get plan.places k ≡ Some p
    → move_in plan.size_in p calls event ≡ o → IsLineOf v n (suc k) (option_map (λ what. (slot_next_deed plan.size_in p calls what).did) o) line → line ≡ move_line (length calls + 1) plan.size_in p calls o
line-is plan v calls event n k p None line h number at moves shown = shown
line-is plan v calls event n k p (Some what) line h number at moves shown =
    shown_entry plan v calls event n k p what (slot_next_deed plan.size_in p calls what).did line h at moves refl shown
    ∙ ap (λ (m : ℕ). slot_entry_line m p (slot_deeds plan.size_in p calls) (slot_next_deed plan.size_in p calls what)) number

-- so the lines of all slots from one on are those of the event
lines-are : {T : Type 0} (tell : T → Option Did) (word : Place → T) (plan : Plan) (v : ImagesView) (calls : List ImageEvent) (event : ImageEvent) (n k : ℕ) (places : List Place) (text : List ℕ) → StandsFor plan v (event ∷ calls)
    → n ≡ length calls + 1 → ((p : Place) → tell (word p) ≡ told plan.size_in calls event p) → ((j : ℕ) → slice_get places j ≡ slice_get plan.places (k + j)) → AreLinesOf tell v n (suc k) (map word places) text
    → text ≡ image_event_lines plan.size_in calls event places
lines-are tell word plan v calls event n k [] text h number same at l = l
lines-are tell word plan v calls event n k (p ∷ places) text h number same at l =
    let i : k + 0 ≡ k = omega arith in
    let here : slice_get plan.places k ≡ Some p = ap (slice_get plan.places) (sym i) ∙ sym (at 0) in
    l.4
    ∙ ap₂ (λ (a b : List ℕ). a ++ b)
    (line-is plan v calls event n k p (move_in plan.size_in p calls event) l.0 h number here refl (subst (λ (o : Option Did). IsLineOf v n (suc k) o l.0) (same p) l.2))
    (lines-are tell word plan v calls event n (suc k) places l.1 h number same (λ j. let e : k + suc j ≡ suc k + j = omega arith in at (suc j) ∙ ap (slice_get plan.places) e) l.3)

pub sample_tells : (old new : ImagesView) (n i : ℕ) (dids : List (Option Did)) (text : List ℕ) → Follows old event.Sample new → AnswersSample old dids → length dids ≤ i → AreLinesOf (λ o. o) new n 1 (take i dids) text → TellsEvent old event.Sample n text
sample_tells old new n i dids text f a all l = record {
  lines = λ plan calls h number.
      lines-are (λ (o : Option Did). o) (told plan.size_in calls event.Sample) plan new calls event.Sample n 0 plan.places text (f.stands plan calls h) number (λ p. refl) (λ j. let e : j ≡ 0 + j = omega arith in ap (slice_get plan.places) e)
      (subst (λ (dids : List (Option Did)). AreLinesOf (λ o. o) new n 1 dids text) (take_all i dids all ∙ a.told_are plan calls h) l);
}

pub tick_tells : (old new : ImagesView) (n i : ℕ) (dids : List Did) (text : List ℕ) → Follows old event.Tick new → AnswersTick old dids → length dids ≤ i → AreLinesOf (λ did. Some did) new n 1 (take i dids) text → TellsEvent old event.Tick n text
tick_tells old new n i dids text f a all l = record {
  lines = λ plan calls h number.
      lines-are (λ (did : Did). Some did) (λ p. (slot_next_deed plan.size_in p calls move.Tick).did) plan new calls event.Tick n 0 plan.places text (f.stands plan calls h) number (λ p. refl) (λ j. let e : j ≡ 0 + j = omega arith in ap (slice_get plan.places) e)
      (subst (λ (dids : List Did). AreLinesOf (λ did. Some did) new n 1 dids text) (take_all i dids all ∙ a.told_are plan calls h) l);
}

-- one line more
lines-push : {T : Type 0} (tell : T → Option Did) (v : ImagesView) (n slot k : ℕ) (dids : List T) (did : T) (text line : List ℕ) → k ≡ slot + length dids → AreLinesOf tell v n slot dids text → IsLineOf v n k (tell did) line
    → AreLinesOf tell v n slot (dids ++ did ∷ []) (text ++ line)
lines-push tell v n slot k [] did text line e h is =
    let same : k ≡ slot = omega arith in
    (line, [], subst (λ (k : ℕ). IsLineOf v n k (tell did) line) same is, refl, ap (λ (xs : List ℕ). xs ++ line) h ∙ sym (append-nil line))
lines-push tell v n slot k (x ∷ dids) did text line e h is =
    (h.0, h.1 ++ line, h.2, lines-push tell v n (suc slot) k dids did h.1 line (omega arith) h.3 is, ap (λ (xs : List ℕ). xs ++ line) h.4 ∙ append_assoc h.0 h.1 line)

pub lines_more : {T : Type 0} (tell : T → Option Did) (v : ImagesView) (n : ℕ) (dids : List T) (i : ℕ) (x : T) (o : Option Did) (text text' line : List ℕ) → i < length dids → tell (get_or dids i x) ≡ o
    → AreLinesOf tell v n 1 (take i dids) text → IsLineOf v n (i + 1) o line → text' ≡ text ++ line → AreLinesOf tell v n 1 (take (i + 1) dids) text'
lines_more tell v n dids i x o text text' line within told h shown e =
    let k : i + 1 ≡ 1 + length (take i dids) = omega (arith, length-take-le i dids (omega arith)) in
    rw (take_more dids i x within, e) (lines-push tell v n 1 (i + 1) (take i dids) (get_or dids i x) text line k h (subst (λ (o : Option Did). IsLineOf v n (i + 1) o line) (sym told) shown))
