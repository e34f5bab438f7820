-- What stood for some calls stands for one more.
use Rattle.process_image.proofs.Common.{All-cons, All-nil, AllZip, Core, Deed, ImageEvent, ImagesView, IsAfter, IsRun, IsSeatOf, IsSeatStep, Makes, Move, Place, Plan, Seat, SeatStep, Setup, StandsFor, after_steps, and_move, slot_contents, slot_deeds, frame_len, slot_frame, input, is_empty, last_frame, length-replicate, move_in, moves, run, sampled, sends, setup_is, setup_of, step}
use Rattle.std.proofs.Common.{◌≡◌, ℕ, ◌==◌, List, [], ◌∷◌, map, length, replicate, Option, Some, None, Bool, false, if◌then◌else◌, refl, sym, ap, subst, ◌∙◌, arith, rules}
use Rattle.end_model.proofs.Runs.{run_append}
use Rattle.process_image.proofs.Apart.{plan_apart}
use Rattle.process_image.proofs.Giving.{AreLong, Gives, len_at, steps_give}
use Rattle.process_image.proofs.SentLength.{next_long}
use Rattle.process_image.proofs.Seats.{some_frame}

-- what an end is after was reached
pub reached : (s : Setup) (end : Core) (e : List Deed) → IsAfter s end e → IsRun s e
reached s end e h = grind arith

-- the deeds of a slot with one call more
pub deeds_more : (size : ℕ) (p : Place) (calls : List ImageEvent) (call : ImageEvent) (what : Move) → move_in size p calls call ≡ Some what
    → slot_deeds size p (call ∷ calls) ≡ step p.setup (slot_deeds size p calls) what ∷ slot_deeds size p calls
deeds_more size p calls call what h = ap (λ (o : Option Move). run p.setup (and_move o (moves size p calls))) h ∙ run_append p.setup (moves size p calls) (what ∷ [])

pub deeds_same : (size : ℕ) (p : Place) (calls : List ImageEvent) (call : ImageEvent) → move_in size p calls call ≡ None → slot_deeds size p (call ∷ calls) ≡ slot_deeds size p calls
deeds_same size p calls call h = ap (λ (o : Option Move). run p.setup (and_move o (moves size p calls))) h

-- the last frame of a slot has the length of its frames
last-by : (p : Place) (y : Deed) (e : List Deed) (b : Bool) → is_empty y.sent ≡ b → IsRun p.setup (y ∷ e) → length (last_frame p.setup e) ≡ len_at p → length (if b then last_frame p.setup e else y.sent) ≡ len_at p
last-by p y e b h k l = search (rules, next_long)

last-long : (p : Place) (e : List Deed) → IsRun p.setup e → length (last_frame p.setup e) ≡ len_at p
last-long p [] r = length-replicate (len_at p) 0
last-long p (y ∷ e) r = last-by p y e (is_empty y.sent) refl r (last-long p e r.1)

unsent : (len : ℕ) (sent before : List ℕ) → (0 == len) ≡ false → sent ≡ [] → before ≡ (if length sent == len then sent else before)
unsent len sent before n h = let q : (length sent == len) ≡ false = ap (λ (f : List ℕ). length f == len) h ∙ n in sym (ap (λ b. if b then sent else before) q)

frame-by : (len : ℕ) (p : Place) (e : List Deed) (y : Deed) (sent : List ℕ) (b : Bool) → is_empty y.sent ≡ b → sent ≡ y.sent → (0 == len) ≡ false → (is_empty y.sent ≡ false → length y.sent ≡ len)
    → (if b then last_frame p.setup e else y.sent) ≡ (if length sent == len then sent else last_frame p.setup e)
frame-by len p e y sent b h k l m = grind arith

frame-more : (size : ℕ) (p : Place) (calls : List ImageEvent) (call : ImageEvent) (x : SeatStep) (o : Option Move) → move_in size p calls call ≡ o → Makes o x → IsAfter p.setup x.old.core (slot_deeds size p calls)
    → x.old.len_out ≡ len_at p → slot_frame size (call ∷ calls) p ≡ (if length x.sent == x.old.len_out then x.sent else slot_frame size calls p)
frame-more size p calls call x None h m a n =
    let z : (0 == x.old.len_out) ≡ false = subst (λ (k : ℕ). (0 == k) ≡ false) (sym n) (some_frame (sends p.setup)) in
    ap (last_frame p.setup) (deeds_same size p calls call h) ∙ unsent x.old.len_out x.sent (slot_frame size calls p) z m.1
frame-more size p calls call x (Some what) h m a n =
    let e : List Deed = slot_deeds size p calls in
    let y : Deed = step p.setup e what in
    let z : (0 == x.old.len_out) ≡ false = subst (λ (k : ℕ). (0 == k) ≡ false) (sym n) (some_frame (sends p.setup)) in
    let r : IsRun p.setup (y ∷ e) = reached p.setup x.new.core (y ∷ e) (m.0.is_after p.setup e a) in
    ap (last_frame p.setup) (deeds_more size p calls call what h)
    ∙ frame-by x.old.len_out p e y x.sent (is_empty y.sent) refl (m.1.sent p.setup e a) z (λ some. next_long p.setup y e r some ∙ sym n)

-- what a step of a slot has to be at a call
pub record IsPart (size : ℕ) (calls : List ImageEvent) (call : ImageEvent) (p : Place) (x : SeatStep) : Type 0 where
  pub before : IsSeatOf size calls p x.old
  pub is : IsSeatStep x
  pub what_is : x.what ≡ move_in size p calls call
  pub seen_is : x.new.seen ≡ slot_contents p (sampled size (call ∷ calls))
  pub len_is : x.old.len_out ≡ frame_len (sends (setup_of x.old.core))

made-by : (size : ℕ) (calls : List ImageEvent) (call : ImageEvent) (p : Place) (x : SeatStep) → IsPart size calls call p x → Makes (move_in size p calls call) x
made-by size calls call p x part = subst (λ (o : Option Move). Makes o x) part.what_is part.is.makes

part-after : (size : ℕ) (calls : List ImageEvent) (call : ImageEvent) (p : Place) (x : SeatStep) → IsPart size calls call p x → IsAfter p.setup x.new.core (slot_deeds size p (call ∷ calls))
part-after size calls call p x h = search (rules, deeds_same, deeds_more, made-by)

part-seat : (size : ℕ) (calls : List ImageEvent) (call : ImageEvent) (p : Place) (x : SeatStep) → IsPart size calls call p x → IsSeatOf size (call ∷ calls) p x.new
part-seat size calls call p x part = record {
  at_in_is = part.is.at_in_is ∙ part.before.at_in_is;
  at_out_is = part.is.at_out_is ∙ part.before.at_out_is;
  end_is = part-after size calls call p x part;
  seen_is = part.seen_is;
}

part-gives : (size : ℕ) (calls : List ImageEvent) (call : ImageEvent) (p : Place) (x : SeatStep) → IsPart size calls call p x → Gives (slot_frame size calls) (slot_frame size (call ∷ calls)) p x
part-gives size calls call p x part =
    let n : x.old.len_out ≡ len_at p = part.len_is ∙ ap (λ (s : Setup). frame_len (sends s)) (setup_is p.setup x.old.core (slot_deeds size p calls) part.before.end_is) in
    record {
      at_is = part.before.at_out_is;
      len_is = n;
      frame_is = frame-more size p calls call x (move_in size p calls call) refl (made-by size calls call p x part) part.before.end_is n;
      new_long = last-long p (slot_deeds size p (call ∷ calls)) (reached p.setup x.new.core (slot_deeds size p (call ∷ calls)) (part-after size calls call p x part));
    }

-- so at all slots
seats-more : (size : ℕ) (calls : List ImageEvent) (call : ImageEvent) (places : List Place) (xs : List SeatStep) → AllZip (IsPart size calls call) places xs
    → AllZip (IsSeatOf size (call ∷ calls)) places (map (λ x. x.new) xs)
seats-more size calls call [] [] h = tt
seats-more size calls call (p ∷ places) (x ∷ xs) h = (part-seat size calls call p x h.0, seats-more size calls call places xs h.1)
seats-more size calls call _ _ h = absurd h

gives-more : (size : ℕ) (calls : List ImageEvent) (call : ImageEvent) (places : List Place) (xs : List SeatStep) → AllZip (IsPart size calls call) places xs
    → AllZip (Gives (slot_frame size calls) (slot_frame size (call ∷ calls))) places xs
gives-more size calls call [] [] h = tt
gives-more size calls call (p ∷ places) (x ∷ xs) h = (part-gives size calls call p x h.0, gives-more size calls call places xs h.1)
gives-more size calls call _ _ h = absurd h

-- the frames of slots have the lengths of theirs
pub seats_long : (size : ℕ) (calls : List ImageEvent) (places : List Place) (seats : List Seat) → AllZip (IsSeatOf size calls) places seats → AreLong (slot_frame size calls) places
seats_long size calls [] [] z = All-nil (λ p. length (slot_frame size calls p) ≡ len_at p)
seats_long size calls (p ∷ places) (seat ∷ seats) z =
    All-cons (λ p. length (slot_frame size calls p) ≡ len_at p) p places (last-long p (slot_deeds size p calls) (reached p.setup seat.core (slot_deeds size p calls) z.0.end_is)) (seats_long size calls places seats z.1)
seats_long size calls _ _ z = absurd z

-- images after the steps of all slots
pub stands_more : (plan : Plan) (old new : ImagesView) (calls : List ImageEvent) (call : ImageEvent) (xs : List SeatStep) → StandsFor plan old calls → AllZip (IsPart plan.size_in calls call) plan.places xs
    → map (λ x. x.new) xs ≡ new.seats → new.input ≡ input plan.size_in (call ∷ calls) → new.output ≡ after_steps xs old.output → StandsFor plan new (call ∷ calls)
stands_more plan old new calls call xs h parts seats now out = record {
  made = h.made;
  slots = subst (λ (seats : List Seat). AllZip (IsSeatOf plan.size_in (call ∷ calls)) plan.places seats) seats (seats-more plan.size_in calls call plan.places xs parts);
  input_is = now;
  output_is = out
      ∙ ap (after_steps xs) h.output_is
      ∙ steps_give (slot_frame plan.size_in calls) (slot_frame plan.size_in (call ∷ calls)) plan.size_in plan.size_out plan.places xs (replicate plan.size_out 0)
      (gives-more plan.size_in calls call plan.places xs parts) (plan_apart plan h.made.no_fault) (seats_long plan.size_in calls plan.places old.seats h.slots) (length-replicate plan.size_out 0);
}
