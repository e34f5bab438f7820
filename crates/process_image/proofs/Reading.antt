-- What is shown of one slot.
use Rattle.process_image.proofs.Common.{Deed, Did, ImageEvent, ImagesView, IsSeatOf, IsSoundSeat, Place, Plan, Seat, Setup, ShowsAt, bytes_at, slot_deeds, entry_told, frame_len, slot_frame, last_frame, slot_numbered, output, sends, setup_is, setup_of, setups_of, told_line}
use Rattle.std.proofs.Common.{◌≡◌, ℕ, zero, suc, arith, Bool, true, false, List, [], All, Option, Some, IfSome, option_map, sym, ap, subst, ◌∙◌}
use Rattle.std.specs.Prelude.{if◌then◌else◌}
use Rattle.end_core.specs.Standing as end_core
use Rattle.process_image.proofs.Counts.{at_setup}
use Rattle.process_image.proofs.Frames.{holds_frames}
use Rattle.process_image.proofs.Giving.{len_at}
use Rattle.process_image.proofs.Zips.{all_at, at_number}

-- a word of the end of a slot is that word of what it did
pub shown_at : {X : Type 0} (v : ImagesView) (slot : ℕ) (seat : Seat) (shown : X) (word : Setup → List Deed → X) → slot_numbered slot v.seats ≡ Some seat → end_core.Shows seat.core shown word → ShowsAt v slot shown word
shown_at v slot seat shown word at s = record {
  shows = λ plan calls h.
      let p = at_number (IsSeatOf plan.size_in calls) plan.places v.seats slot seat h.slots at in
      rw p.is (ap (λ x. Some x) (sym (s.shows p.there.setup (slot_deeds plan.size_in p.there calls) p.holds.end_is)));
}

-- what is known of the setup of the end of a slot
pub named_at : (v : ImagesView) (slot : ℕ) (seat : Seat) (P : Setup → Type 0) → slot_numbered slot v.seats ≡ Some seat → P (setup_of seat.core) → IfSome (slot_numbered slot (setups_of v)) P
named_at v zero seat P at h = absurd (cc at)
named_at v (suc k) seat P at h = subst (λ o. IfSome o P) (sym (at_setup v.seats k seat at)) h

-- what stands in each place is the last frame of its slot
frame-at : (plan : Plan) (calls : List ImageEvent) (slot : ℕ) (q : Place) → All (λ q. bytes_at q.at_out (len_at q) (output plan calls) ≡ slot_frame plan.size_in calls q) plan.places → slot_numbered slot plan.places ≡ Some q
    → bytes_at q.at_out (len_at q) (output plan calls) ≡ slot_frame plan.size_in calls q
frame-at plan calls zero q all at = absurd (cc at)
frame-at plan calls (suc k) q all at = all_at (λ q. bytes_at q.at_out (len_at q) (output plan calls) ≡ slot_frame plan.size_in calls q) plan.places k q all at

pub frame_shown : (v : ImagesView) (slot : ℕ) (seat : Seat) (si so : ℕ) (shown : List ℕ) → slot_numbered slot v.seats ≡ Some seat → IsSoundSeat si so seat → shown ≡ bytes_at seat.at_out seat.len_out v.output → ShowsAt v slot shown last_frame
frame_shown v slot seat si so shown at s e = record {
  shows = λ plan calls h.
      let p = at_number (IsSeatOf plan.size_in calls) plan.places v.seats slot seat h.slots at in
      let q : Place = p.there in
      let len : seat.len_out ≡ len_at q = s.len_out_is ∙ ap (λ (t : Setup). frame_len (sends t)) (setup_is q.setup seat.core (slot_deeds plan.size_in q calls) p.holds.end_is) in
      let is : shown ≡ slot_frame plan.size_in calls q =
      e
      ∙ ap (λ (a : ℕ). bytes_at a seat.len_out v.output) p.holds.at_out_is
      ∙ ap (λ (l : ℕ). bytes_at q.at_out l v.output) len
      ∙ ap (bytes_at q.at_out (len_at q)) h.output_is
      ∙ frame-at plan calls slot q (holds_frames plan v calls h).frames p.is
      in
      rw p.is (ap (λ (f : List ℕ). Some f) (sym is));
}

-- the frame that an end sent is its last one, if it sent one
sent-is : (b : Bool) (sent last : List ℕ) → (b ≡ true → last ≡ sent) → (b ≡ false → sent ≡ []) → sent ≡ (if b then last else [])
sent-is b sent last h k = grind arith

last-at : (o : Option Place) (p : Place) (word : Place → List ℕ) (sent : List ℕ) → o ≡ Some p → option_map word o ≡ Some sent → word p ≡ sent
last-at o p word sent e h = let s : Some (word p) ≡ Some sent = ap (option_map word) (sym e) ∙ h in cc

-- a line that shows what the end of a slot did
pub told_at : (v : ImagesView) (slot : ℕ) (seat : Seat) (n : ℕ) (did : Did) (sent line : List ℕ) → slot_numbered slot v.seats ≡ Some seat → end_core.Shows seat.core line (entry_told n slot did sent)
    → (did.sent ≡ true → ShowsAt v slot sent last_frame) → (did.sent ≡ false → sent ≡ []) → ShowsAt v slot line (told_line n slot did)
told_at v slot seat n did sent line at s frame none = record {
  shows = λ plan calls h.
      let p = at_number (IsSeatOf plan.size_in calls) plan.places v.seats slot seat h.slots at in
      let q : Place = p.there in
      let e : List Deed = slot_deeds plan.size_in q calls in
      let last : did.sent ≡ true → last_frame q.setup e ≡ sent =
      λ yes. last-at (slot_numbered slot plan.places) q (λ (p : Place). last_frame p.setup (slot_deeds plan.size_in p calls)) sent p.is ((frame yes).shows plan calls h)
      in
      ap (option_map (λ (p : Place). told_line n slot did p.setup (slot_deeds plan.size_in p calls))) p.is
      ∙ ap (λ (line : List ℕ). Some line) (sym (s.shows q.setup e p.holds.end_is ∙ ap (λ (sent : List ℕ). entry_told n slot did sent q.setup e) (sent-is did.sent sent (last_frame q.setup e) last none)));
}
