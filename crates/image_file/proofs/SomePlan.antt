-- A header that is whole says settings of each end, so there is a plan as it says.
use Rattle.image_file.proofs.Common.{All-head, All-nil, All-push, All-tail, AllZip, AreNumbered, Err, IfOk, ImageHeading, IsEndOf, IsPlanOf, IsSlotOf, OfMaster, OfSlave, Ok, Place, Plan, Setup, SlotHeader, Sound, Stage, after_sound, bytes_eq, codes, each, either, slot_end, fields_of, fits_images, headed, heading_is_whole, image_format, input_read, is_end_line, is_open, kind_after, known, image_line_taken, master_settings, may_end, new_sound, node_heading_after, not, own_taken, size_line, size_taken, slave_settings, slot_begun, slot_line, slot_taken, slots_begun, slots_of, with_last_slot}
use Rattle.fsoe_base.specs.declared.command.End.{End}
use Rattle.std.proofs.Common.{◌≡◌, ◌+◌, ℕ, suc, List, [], ◌∷◌, All, Option, Some, None, IfSome, length, refl}
use Rattle.std.specs.Prelude.{if◌then◌else◌, ◌&&◌}
use Rattle.fsoe_base.specs.declared.command.End.TheVariants as side
use Rattle.schedule_file.specs.declared.header_kind.HeaderKind.TheVariants as kind
use Rattle.schedule_file.proofs.Sound.{worded}
use Rattle.schedule_file.specs.declared.line_cause.LineCause.TheVariants as cause
use Rattle.image_file.specs.declared.header.Stage.TheVariants as stage

-- the lines of a slot say values that settings may have
abbrev IsSound : SlotHeader → Type 0
IsSound s = Sound s.own

-- so do those of all slots of a header
abbrev AreSound : ImageHeading → Type 0
AreSound h = All IsSound h.before × IsSound h.last

begun-sound : (at_in at_out : ℕ) → IsSound (slot_begun at_in at_out)
begun-sound at_in at_out = new_sound (kind.Node side.Slave)

begun-all : (s : Stage) (before : List SlotHeader) (last : SlotHeader) → All IsSound before → IsSound last → All IsSound (slots_begun s before last)
begun-all stage.Slots before last h p = All-push IsSound before last h p
begun-all stage.Done before last h p = All-push IsSound before last h p
begun-all _ before last h p = All-nil IsSound

-- a header after one more line
size-taken : (h : ImageHeading) (fields : List (List ℕ)) → AreSound h → IfOk (size_taken h fields) AreSound
size-taken h fields s = each (size_line fields) _ AreSound (λ sizes. s)

slot-taken : (h : ImageHeading) (fields : List (List ℕ)) → AreSound h → IfOk (slot_taken h fields) AreSound
slot-taken h fields s =
    each (slot_line (length (slots_of h) + 1) fields) _ AreSound
    (λ places. either (is_open h.last) (Err cause.Range) (Ok (record h { stage = stage.Slots; before = slots_of h; last = slot_begun places.0 places.1 })) AreSound tt (begun-all h.stage h.before h.last s.0 s.1, begun-sound places.0 places.1))

with-last : (h : ImageHeading) (slot : SlotHeader) → AreSound h → IsSound slot → IfOk (with_last_slot h slot) AreSound
with-last h slot s sound =
    either (is_end_line slot.own.place && not (fits_images h slot)) (Err cause.Range) (Ok (record h { stage = if heading_is_whole slot.own then stage.Done else stage.Slots; last = slot })) AreSound tt (s.0, sound)

own-taken : (h : ImageHeading) (text : List ℕ) → AreSound h → IfOk (own_taken h text) AreSound
own-taken h text s =
    known (node_heading_after h.last.own text) _ Sound AreSound (after_sound (record h.last.own { kind = kind_after h.last.own.place (fields_of text) h.last.own.kind }) text s.1)
    (λ own sound. with-last h (record h.last { own = own }) s sound)

line-taken : (st : Stage) (h : ImageHeading) (text first : List ℕ) (fields : List (List ℕ)) → AreSound h → IfOk (image_line_taken st h text first fields) AreSound
line-taken stage.Start h text first fields s = either (bytes_eq text (codes "fsoe 1 image")) (Ok (record h { stage = stage.Title })) (Err cause.Header) AreSound s tt
line-taken stage.Title h text first fields s = either (bytes_eq first (codes "size")) (size_taken h fields) (Err cause.Header) AreSound (size-taken h fields s) tt
line-taken stage.Size h text first fields s = either (bytes_eq first (codes "slot")) (slot_taken h fields) (Err cause.Header) AreSound (slot-taken h fields s) tt
line-taken stage.Slots h text first fields s = either (bytes_eq first (codes "slot") && may_end h.last.own) (slot_taken h fields) (own_taken h text) AreSound (slot-taken h fields s) (own-taken h text s)
line-taken _ h text first fields s = tt

-- then there are slots as it says
end-by : (s : SlotHeader) (e : End) → slot_end s ≡ e → IsSound s → (t : Setup) × IsEndOf s t
end-by s side.Master is sound = let ms = master_settings s.own sound in (OfMaster ms.0, (is, ms.1))
end-by s side.Slave is sound = let ss = slave_settings s.own sound in (OfSlave ss.0, (is, ss.1))

places-of : (n : ℕ) (ss : List SlotHeader) → All IsSound ss → (places : List Place) × (AllZip IsSlotOf ss places × AreNumbered n places)
places-of n [] sound = ([], (tt, tt))
places-of n (s ∷ ss) sound =
    let t = end-by s (slot_end s) refl (All-head IsSound s ss sound) in
    let rest = places-of (suc n) ss (All-tail IsSound s ss sound) in
    let p : Place = record { number = n; at_in = s.at_in; at_out = s.at_out; setup = t.0 } in
    (p ∷ rest.0, ((record { at_in_is = refl; at_out_is = refl; end_is = t.1 }, rest.1.0), (refl, rest.1.1)))

plan-of : (h : ImageHeading) → AreSound h → (plan : Plan) × IsPlanOf h plan
plan-of h s =
    let places = places-of 1 (slots_of h) (begun-all h.stage h.before h.last s.0 s.1) in
    let plan : Plan = record { size_in = h.size_in; size_out = h.size_out; places = places.0 } in
    (plan, record { size_in_is = refl; size_out_is = refl; slots = places.1.0; numbers = places.1.1 })

plan-by : (heading : Option ImageHeading) → IfSome heading AreSound → IfSome heading (λ h. (plan : Plan) × IsPlanOf h plan)
plan-by None s = tt
plan-by (Some h) s = plan-of h s

pub some_plan : (bytes : List ℕ) → IfSome (input_read image_format bytes).heading (λ h. (plan : Plan) × IsPlanOf h plan)
some_plan bytes = plan-by (input_read image_format bytes).heading (headed image_format AreSound (All-nil IsSound, begun-sound 0 0) (λ h text s. worded cause.Header (image_line_taken h.stage h text) AreSound (λ first fields. line-taken h.stage h text first fields s) (fields_of text)) bytes)
