-- A run of images over the events of an input.
use Rattle.process_image.proofs.Common.{All, All-cons, All-nil, AllZip, DoesEvent, Err, FitsImages, HasSlot, IfOk, ImageEvent, ImageHeading, ImagesView, IsEndOf, IsMadeOf, IsNew, IsPlanOf, IsPrefix, IsSeatOf, IsSlotOf, IsTrue, LineCause, Ok, Place, Plan, Refused, ReportsSoFar, Result, RunStands, Seat, Setup, Slot, SlotHeader, StandsFor, allows_id, append-nil, bytes_said, common_steps, slot_deeds, each, end_at, end_terms, ended_at, event_in, image_event_lines, fields_of, id_at, image_format, image_line, image_reporting, image_said, known, image_last_lines, image_lines, map_ok, nat_le, next_field, no_field, number_16, number_32, slot_numbered, one_field, places_from, plan_of, profile_of, image_report, reverse-append, sends, setup_is, setup_of, setups_of, slots_of, value_or, word_of}
use Rattle.schedule_file.specs.EventLine.{switch_of}
use Rattle.std.proofs.Common.{◌≡◌, ◌+◌, ◌==◌, ℕ, zero, suc, List, [], ◌∷◌, ◌++◌, Bool, true, false, length, map, reverse, slice_get, Option, Some, None, IfSome, append_assoc, leb-true, eqb-true, refl, sym, ap, subst, ◌∙◌, arith}
use Rattle.std.specs.Prelude.{◌<◌, if◌then◌else◌}
use Rattle.image_file.specs.EventLine.{slot_and_field}
use Rattle.schedule_file.proofs.Sound.{ok_if, worded}
use Rattle.schedule_file.specs.declared.line_cause.LineCause.TheVariants as cause
use Rattle.file_run.specs.Machine.{IsSaid}
use Rattle.image_file.specs.declared.event.ImageEvent.TheVariants as event
use Rattle.image_file.specs.declared.event.ImageLine.{ImageLine}
use Rattle.image_file.specs.declared.event.ImageLine.TheVariants as line
use Rattle.image_file.specs.declared.event_line.SlotEnd.{SlotEnd}
use Rattle.image_file.specs.declared.event_line.Word.{Word}
use Rattle.image_file.specs.declared.event_line.Word.TheVariants as word
use Rattle.process_image.proofs.Beginning.{numbered_so}

-- the lines of the first events come first
lines-begin : (plan : Plan) (more calls : List ImageEvent) → IsPrefix (image_lines plan calls) (image_lines plan (more ++ calls))
lines-begin plan [] calls = ([], sym (append-nil (image_lines plan calls)))
lines-begin plan (e ∷ more) calls =
    let rest = lines-begin plan more calls in
    let own : List ℕ = image_event_lines plan.size_in (more ++ calls) e plan.places in
    (rest.0 ++ own, ap (λ (xs : List ℕ). xs ++ own) rest.1 ∙ append_assoc (image_lines plan calls) rest.0 own)

pub so_far : (v : ImagesView) (h : ImageHeading) (log : List ImageEvent) (text : List ℕ) → RunStands v h log text → ReportsSoFar image_reporting h log text
so_far v h log text r = record {
  begins = λ lines more stop.
      let all : List ImageEvent = log ++ more in
      let plan : Plan = r.plan in
      let more' : image_lines plan (reverse all) ≡ image_lines plan (reverse more ++ reverse log) = ap (image_lines plan) (reverse-append log more) in
      let part = lines-begin plan (reverse more) (reverse log) in (
        image_report plan (reverse all) stop,
        ended_at stop,
        ((plan, r.made, refl), refl),
        (
          part.0 ++ image_last_lines plan (reverse all) stop,
          ap (λ (xs : List ℕ). xs ++ image_last_lines plan (reverse all) stop) (more' ∙ part.1 ∙ ap (λ (xs : List ℕ). xs ++ part.0) (sym r.lines)) ∙ append_assoc text part.0 (image_last_lines plan (reverse all) stop),
        ),
      );
  refused = λ lines number why.
      ((r.plan, r.made, ap (λ (xs : List ℕ). xs ++ image_last_lines r.plan (reverse log) (Refused number why)) r.lines), refl);
}

-- one event more
pub takes_more : (v w : ImagesView) (h : ImageHeading) (log : List ImageEvent) (text piece : List ℕ) (e : ImageEvent) (n : ℕ) → DoesEvent v e n w piece → n ≡ length log + 1 → RunStands v h log text
    → RunStands w h (log ++ e ∷ []) (text ++ piece)
takes_more v w h log text piece e n k l m = grind (arith, common_steps)

-- an event of a line fits images whose slots have these ends
pub record HaveEnds (size : ℕ) (ends : List SlotEnd) (v : ImagesView) : Type 0 where
  pub size_is : length v.input ≡ size
  pub ends_are : (slot : ℕ) (end : SlotEnd) → slot_numbered slot ends ≡ Some end → HasSlot v slot × IfSome (slot_numbered slot (setups_of v)) (λ s. (sends s ≡ end.sends) × (profile_of s ≡ end.profile))

abbrev OnStep : (ImageEvent → Type 0) → ImageLine → Type 0
OnStep P (line.Step e) = P e
OnStep P line.End = Unit {0}

-- a word that says one thing
bare : (l : ImageLine) (r : Result (Unit {0}) LineCause) (P : ImageLine → Type 0) → P l → IfOk (map_ok (λ none. l) r) P
bare l (Ok x) P h = h
bare l (Err e) P h = tt

found : (o : Option SlotEnd) → IfOk (value_or cause.NoLink o) (λ end. o ≡ Some end)
found o = grind arith

put-len : (o : Option Setup) (n : ℕ) (end : SlotEnd) → n ≡ end.sends → IfSome o (λ s. (sends s ≡ end.sends) × (profile_of s ≡ end.profile)) → IfSome o (λ s. n ≡ sends s)
put-len o n end h k = grind arith

id-allowed : (o : Option Setup) (id : ℕ) (end : SlotEnd) → allows_id end.profile id ≡ true → IfSome o (λ s. (sends s ≡ end.sends) × (profile_of s ≡ end.profile)) → IfSome o (λ s. IsTrue (allows_id (profile_of s) id))
id-allowed None id end e h = h
id-allowed (Some s) id end e h = ap (λ p. allows_id p id) h.1 ∙ e

refused-id : (b : Bool) (P : ImageLine → Type 0) → IfOk (if b then Err cause.NoLink else Err cause.Number) P
refused-id true P = tt
refused-id false P = tt

id-fits : (size : ℕ) (ends : List SlotEnd) (v : ImagesView) (slot id : ℕ) (o : Option SlotEnd) → HaveEnds size ends v → slot_numbered slot ends ≡ o → IfOk (id_at o slot id) (OnStep (FitsImages v))
id-fits size ends v slot id None h e = refused-id (nat_le id 65535) (OnStep (FitsImages v))
id-fits size ends v slot id (Some end) h e =
    ok_if (allows_id end.profile id) (line.Step (event.Nonce slot id)) cause.Number (OnStep (FitsImages v)) (λ t. let a = h.ends_are slot end e in (a.0, id-allowed (slot_numbered slot (setups_of v)) id end t a.1))

said-fits : (size : ℕ) (ends : List SlotEnd) (v : ImagesView) (w : Option Word) (fields : List (List ℕ)) → HaveEnds size ends v → IfOk (image_said size ends w fields) (OnStep (FitsImages v))
said-fits size ends v None fields h = tt
said-fits size ends v (Some word.Write) fields h =
    each (next_field fields) _ _ (λ place. each (one_field place.1) _ _ (λ digits. each (number_16 place.0) _ _ (λ at. each (value_or cause.Hex (bytes_said 256 digits)) _ _
    (λ bytes. ok_if (nat_le (at + length bytes) size) (line.Step (event.Write at bytes)) cause.Position (OnStep (FitsImages v)) (λ t. rw h.size_is (leb-true (at + length bytes) size t))))))
said-fits size ends v (Some word.Sample) fields h = bare (line.Step event.Sample) (no_field fields) (OnStep (FitsImages v)) tt
said-fits size ends v (Some word.Tick) fields h = bare (line.Step event.Tick) (no_field fields) (OnStep (FitsImages v)) tt
said-fits size ends v (Some word.Put) fields h =
    each (slot_and_field fields) _ _ (λ first. known (end_at first.0 ends) _ (λ end. slot_numbered first.0 ends ≡ Some end) _ (found (slot_numbered first.0 ends))
    (λ end e. each (value_or cause.Hex (bytes_said 126 first.1)) _ _ (λ bytes. ok_if (length bytes == end.sends) (line.Step (event.Put first.0 bytes)) cause.Length (OnStep (FitsImages v))
    (λ t. let a = h.ends_are first.0 end e in (a.0, put-len (slot_numbered first.0 (setups_of v)) (length bytes) end (eqb-true (length bytes) end.sends t) a.1)))))
said-fits size ends v (Some word.Hold) fields h =
    each (slot_and_field fields) _ _ (λ first. each (value_or cause.Number (switch_of first.1)) _ _
    (λ failsafe. known (end_at first.0 ends) _ (λ end. slot_numbered first.0 ends ≡ Some end) _ (found (slot_numbered first.0 ends)) (λ end e. (h.ends_are first.0 end e).0)))
said-fits size ends v (Some word.Nonce) fields h =
    each (slot_and_field fields) _ _ (λ first. each (number_32 first.1) _ _ (λ id. id-fits size ends v first.0 id (slot_numbered first.0 ends) h refl))
said-fits size ends v (Some word.Reset) fields h =
    each (one_field fields) _ _ (λ field. each (number_16 field) _ _ (λ slot. known (end_at slot ends) _ (λ end. slot_numbered slot ends ≡ Some end) _ (found (slot_numbered slot ends)) (λ end e. (h.ends_are slot end e).0)))
said-fits size ends v (Some word.End) fields h = bare line.End (no_field fields) (OnStep (FitsImages v)) tt

step-fits : (P : ImageEvent → Type 0) (l : ImageLine) (e : ImageEvent) → event_in l ≡ Some e → OnStep P l → P e
step-fits P l e h k = grind arith

-- the ends of the slots that a header says are those of the images
terms-are : (s : SlotHeader) (t : Setup) → IsEndOf s t → (sends t ≡ (end_terms s).sends) × (profile_of t ≡ (end_terms s).profile)
terms-are s t h = grind arith

ends-at : (size : ℕ) (calls : List ImageEvent) (ss : List SlotHeader) (places : List Place) (seats : List Seat) (k : ℕ) (end : SlotEnd) → AllZip IsSlotOf ss places → AllZip (IsSeatOf size calls) places seats
    → slice_get (map end_terms ss) k ≡ Some end → (k < length (map (λ seat. setup_of seat.core) seats)) × IfSome (slice_get (map (λ seat. setup_of seat.core) seats) k) (λ s. (sends s ≡ end.sends) × (profile_of s ≡ end.profile))
ends-at size calls [] places seats k end a z at = absurd (cc at)
ends-at size calls (s ∷ ss) [] seats k end a z at = absurd a
ends-at size calls (s ∷ ss) (p ∷ places) [] k end a z at = absurd z
ends-at size calls (s ∷ ss) (p ∷ places) (seat ∷ seats) zero end a z at =
    let i : end_terms s ≡ end = cc in
    let e : setup_of seat.core ≡ p.setup = setup_is p.setup seat.core (slot_deeds size p calls) z.0.end_is in
    let t = terms-are s p.setup a.0.end_is in
    (omega arith, (ap sends e ∙ t.0 ∙ ap (λ (x : SlotEnd). x.sends) i, ap profile_of e ∙ t.1 ∙ ap (λ (x : SlotEnd). x.profile) i))
ends-at size calls (s ∷ ss) (p ∷ places) (seat ∷ seats) (suc k) end a z at =
    let rest = ends-at size calls ss places seats k end a.1 z.1 at in
    (omega (arith, rest.0), rest.1)

ends-numbered : (v : ImagesView) (h : ImageHeading) (plan : Plan) (calls : List ImageEvent) (slot : ℕ) (end : SlotEnd) → IsPlanOf h plan → StandsFor plan v calls → slot_numbered slot (map end_terms (slots_of h)) ≡ Some end
    → HasSlot v slot × IfSome (slot_numbered slot (setups_of v)) (λ s. (sends s ≡ end.sends) × (profile_of s ≡ end.profile))
ends-numbered v h plan calls zero end made stands at = absurd (cc at)
ends-numbered v h plan calls (suc k) end made stands at =
    let rest = ends-at plan.size_in calls (slots_of h) plan.places v.seats k end made.slots stands.slots at in
    (record { first = omega arith; last = omega (arith, rest.0) }, rest.1)

pub run_fits : (v : ImagesView) (h : ImageHeading) (log : List ImageEvent) (text : List ℕ) (e : ImageEvent) → RunStands v h log text → IsSaid image_format h e → FitsImages v e
run_fits v h log text e r said =
    let have : HaveEnds h.size_in (map end_terms (slots_of h)) v =
    record { size_is = r.size_in ∙ r.made.size_in_is; ends_are = λ slot end at. ends-numbered v h r.plan (reverse log) slot end r.made r.images at }
    in
    let fits : IfOk (image_line h.size_in (map end_terms (slots_of h)) said.0) (OnStep (FitsImages v)) =
    worded cause.Word _ _ (λ first fields. said-fits h.size_in (map end_terms (slots_of h)) v (word_of first) fields have) (fields_of said.0)
    in
    let one : OnStep (FitsImages v) said.1 = subst (λ (x : Result ImageLine LineCause). IfOk x (OnStep (FitsImages v))) said.2 fits in
    step-fits (FitsImages v) said.1 e said.3 one

-- at the beginning
pub all_new : (ss : List SlotHeader) (slots : List Slot) → AllZip IsMadeOf ss slots → All (λ slot. IsNew slot.core) slots
all_new [] [] z = All-nil (λ slot. IsNew slot.core)
all_new (s ∷ ss) (slot ∷ slots) z = All-cons (λ slot. IsNew slot.core) slot slots z.0.new (all_new ss slots z.1)
all_new _ _ z = absurd z

planned : (n : ℕ) (ss : List SlotHeader) (slots : List Slot) → AllZip IsMadeOf ss slots → AllZip IsSlotOf ss (places_from n slots)
planned n [] [] z = tt
planned n (s ∷ ss) (slot ∷ slots) z = (record { at_in_is = z.0.at_in_is; at_out_is = z.0.at_out_is; end_is = z.0.end_is }, planned (suc n) ss slots z.1)
planned n _ _ z = absurd z

pub begins_so : (v : ImagesView) (h : ImageHeading) (slots : List Slot) (size_in size_out : ℕ) → size_in ≡ h.size_in → size_out ≡ h.size_out → AllZip IsMadeOf (slots_of h) slots → StandsFor (plan_of size_in size_out slots) v []
    → length v.input ≡ size_in → RunStands v h [] []
begins_so v h slots size_in size_out e f made stands n = record {
  plan = plan_of size_in size_out slots;
  made = record { size_in_is = e; size_out_is = f; slots = planned 1 (slots_of h) slots made; numbers = numbered_so 1 slots };
  images = stands;
  lines = refl;
  size_in = n;
}
