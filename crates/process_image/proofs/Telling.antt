-- A sample and a tick of all slots, and what they tell.
use Rattle.process_image.proofs.Common.{All-head, All-tail, AllZip, DoesEach, Follows, ImageEvent, ImagesView, IsSampleStep, IsSeatOf, IsSeatStep, IsSound, IsSoundSeat, IsStepOf, Keeps, Makes, Move, Place, Plan, Seat, SeatStep, StandsFor, TellsEach, slot_deeds, did_in, input, slot_next_deed, setups_of, told, told_by}
use Rattle.std.proofs.Common.{◌≡◌, ℕ, List, [], ◌∷◌, ◌++◌, map, length, take, drop, All, Option, refl, sym, ap, subst, ◌∙◌, arith}
use Rattle.std.proofs.lemmas.List.{length-map}
use Rattle.param_load.specs.declared.entry.Move.TheVariants as move
use Rattle.image_file.specs.declared.event.ImageEvent.TheVariants as event
use Rattle.process_image.proofs.Following.{IsPart, stands_more}
use Rattle.process_image.proofs.Keeping.{steps_setups, steps_sound, written_back}
use Rattle.image_file.proofs.Zips.{zip_same}

-- steps of this kind, each of which tells this, are the parts of slots of a call that writes nothing, and at which this
-- word is told of each
pub record AreParts {T : Type 0} (Q : SeatStep → Type 0) (tell : SeatStep → T) (call : ImageEvent) (word : ℕ → List ImageEvent → Place → T) (old : ImagesView) : Type 0 where
  pub is : (x : SeatStep) → Q x → IsSeatStep x
  pub part : (plan : Plan) (calls : List ImageEvent) → StandsFor plan old calls → (p : Place) (x : SeatStep) → IsSeatOf plan.size_in calls p x.old → IsSoundSeat (length old.input) (length old.output) x.old → Q x → IsPart plan.size_in calls call p x
  pub tells : (size : ℕ) (calls : List ImageEvent) (p : Place) (x : SeatStep) → IsPart size calls call p x → tell x ≡ word size calls p
  pub unwritten : (size : ℕ) (calls : List ImageEvent) → input size (call ∷ calls) ≡ input size calls

sample-part : (size so : ℕ) (calls : List ImageEvent) (now : List ℕ) (p : Place) (x : SeatStep) → now ≡ input size calls → IsSeatOf size calls p x.old → IsSoundSeat (length now) so x.old → IsSampleStep now x
    → IsPart size calls event.Sample p x
sample-part size so calls now p x h k l m = grind arith

sample-told : (size : ℕ) (calls : List ImageEvent) (p : Place) (x : SeatStep) → IsPart size calls event.Sample p x → told_by x ≡ told size calls event.Sample p
sample-told size calls p x h = grind arith

pub sample_parts : (old : ImagesView) → AreParts (IsSampleStep old.input) told_by event.Sample (λ size calls. told size calls event.Sample) old
sample_parts old = record {
  is = λ x q. q.is;
  part = λ plan calls h p x k s q. sample-part plan.size_in (length old.output) calls old.input p x h.input_is k s q;
  tells = sample-told;
  unwritten = λ size calls. refl;
}

tick-told : (size : ℕ) (calls : List ImageEvent) (p : Place) (x : SeatStep) → IsPart size calls event.Tick p x → x.did ≡ (slot_next_deed size p calls move.Tick).did
tick-told size calls p x h = (subst (λ (o : Option Move). Makes o x) h.what_is h.is.makes).1.did p.setup (slot_deeds size p calls) h.before.end_is

pub tick_parts : (old : ImagesView) → AreParts (IsStepOf move.Tick) did_in event.Tick (λ size calls p. (slot_next_deed size p calls move.Tick).did) old
tick_parts old = record {
  is = λ x q. q.is;
  part = λ plan calls h p x k s q. record { before = k; is = q.is; what_is = q.what_is; seen_is = q.seen_is ∙ k.seen_is; len_is = s.len_out_is };
  tells = tick-told;
  unwritten = λ size calls. refl;
}

-- all slots
parts-by : (Q : SeatStep → Type 0) (size si so : ℕ) (calls : List ImageEvent) (call : ImageEvent) (places : List Place) (xs : List SeatStep)
    → ((p : Place) (x : SeatStep) → IsSeatOf size calls p x.old → IsSoundSeat si so x.old → Q x → IsPart size calls call p x) → AllZip (IsSeatOf size calls) places (map (λ x. x.old) xs)
    → All (IsSoundSeat si so) (map (λ x. x.old) xs) → All Q xs → AllZip (IsPart size calls call) places xs
parts-by Q size si so calls call [] [] part h s q = tt
parts-by Q size si so calls call (p ∷ places) (x ∷ xs) part h s q = (
  part p x h.0 (All-head (IsSoundSeat si so) x.old (map (λ x. x.old) xs) s) (All-head Q x xs q),
  parts-by Q size si so calls call places xs part h.1 (All-tail (IsSoundSeat si so) x.old (map (λ x. x.old) xs) s) (All-tail Q x xs q),
)
parts-by Q size si so calls call _ _ part h s q = absurd h

-- what is known of a call then
pub record IsCall {T : Type 0} (call : ImageEvent) (word : ℕ → List ImageEvent → Place → T) (old new : ImagesView) (dids : List T) : Type 0 where
  pub sound : IsSound new
  pub follows : Follows old call new
  pub answers : TellsEach old dids word
  pub keeps : Keeps old new

done : {T : Type 0} {Q : SeatStep → Type 0} {tell : SeatStep → T} {call : ImageEvent} {word : ℕ → List ImageEvent → Place → T} {old : ImagesView} (new : ImagesView) (dids : List T) → AreParts Q tell call word old → IsSound old
    → DoesEach Q tell old.seats old.output new.seats new.output dids → length new.output ≡ length old.output → new.input ≡ old.input → IsCall call word old new dids
done {T} {Q} {tell} {call} {word} {old} new dids are s d n now =
    let parts : (plan : Plan) (calls : List ImageEvent) → StandsFor plan old calls → AllZip (IsPart plan.size_in calls call) plan.places d.steps =
    λ plan calls h. parts-by Q plan.size_in (length old.input) (length old.output) calls call plan.places d.steps (are.part plan calls h) (rw d.old_are h.slots) (rw d.old_are s.seats) d.each
    in
    let setups : setups_of new ≡ setups_of old = rw (← d.new_are, ← d.old_are) (steps_setups Q d.steps are.is d.each) in
    record {
      sound = record {
        seats = rw (now, n, ← d.new_are) (steps_sound Q (length old.input) (length old.output) d.steps are.is d.each (rw d.old_are s.seats));
        most = omega (arith, s.most, simp length-map at (ap length setups));
      };
      follows = record { stands = λ plan calls h. stands_more plan old new calls call d.steps h (parts plan calls h) d.new_are (now ∙ h.input_is ∙ sym (are.unwritten plan.size_in calls)) d.output_is };
      answers = record { told_are = λ plan calls h. d.told_are ∙ zip_same (IsPart plan.size_in calls call) (word plan.size_in calls) tell plan.places d.steps (are.tells plan.size_in calls) (parts plan calls h) };
      keeps = record { setups = setups; size_in = ap length now; size_out = n };
    }

-- where both lists were written through slices of all of them
pub all_did : {T : Type 0} {Q : SeatStep → Type 0} {tell : SeatStep → T} {call : ImageEvent} {word : ℕ → List ImageEvent → Place → T} {v w : ImagesView} {old : List Seat} {before : List ℕ} (new : List Seat) (after : List ℕ) (dids : List T) (n m : ℕ) → AreParts Q tell call word v → v ≡ w → IsSound v
    → old ≡ v.seats → before ≡ v.output → n ≡ length v.seats → m ≡ length v.output → length new ≡ length v.seats → length after ≡ length v.output → DoesEach Q tell old before new after dids
    → IsCall call word w (record { seats = take n (new ++ drop (length new) v.seats); input = v.input; output = take m (after ++ drop (length after) v.output) }) dids
all_did {T} {Q} {tell} {call} {word} {v} new after dids n m are same s e f k l long size d =
    rw (← same, written_back new v.seats n k long, written_back after v.output m l size) (done (record { seats = new; input = v.input; output = after }) dids are s (rw (e, f) at d) size refl)
