-- The text of each kind of event.
use Rattle.process_image.proofs.Common.{AnswersReset, AreNumbered, Did, DoesEvent, Follows, ImageEvent, ImagesView, IsDidOf, Move, Place, Plan, ShowsAt, StandsFor, TellsEvent, append-nil, slot_deeds, slot_entry_line, image_event_lines, if_named, move_in, move_line, slot_next_deed, option_map, slot_in, told_line}
use Rattle.std.proofs.Common.{◌≡◌, ◌≤◌, ◌<◌, ◌+◌, ℕ, zero, suc, List, [], ◌∷◌, ◌++◌, length, slice_get, Option, Some, None, refl, sym, ap, subst, ◌∙◌, arith}
use Rattle.param_load.specs.declared.entry.Move.TheVariants as move
use Rattle.image_file.specs.declared.event.ImageEvent.TheVariants as event
use Rattle.process_image.proofs.One.{Names, it, unnamed}
use Rattle.process_image.proofs.ToldLines.{number_at, shown_entry}

-- a write is a move of no slot
no-lines : (size at : ℕ) (bytes : List ℕ) (calls : List ImageEvent) (places : List Place) → image_event_lines size calls (event.Write at bytes) places ≡ []
no-lines size at bytes calls [] = refl
no-lines size at bytes calls (p ∷ places) = no-lines size at bytes calls places

pub write_tells : (old : ImagesView) (at : ℕ) (bytes : List ℕ) (n : ℕ) (text : List ℕ) → text ≡ [] → TellsEvent old (event.Write at bytes) n text
write_tells old at bytes n text e = record { lines = λ plan calls h number. e ∙ sym (no-lines plan.size_in at bytes calls plan.places) }

-- nothing waits behind a text
pub alone : (old new : ImagesView) (event : ImageEvent) (n : ℕ) (text behind : List ℕ) → DoesEvent old event n new text → behind ≡ [] → DoesEvent old event n new (text ++ behind)
alone old new event n text behind d e = subst (λ (all : List ℕ). DoesEvent old event n new all) (sym (ap (λ (behind : List ℕ). text ++ behind) e ∙ append-nil text)) d

-- an event that names a slot
lines-none : (size n slot : ℕ) (calls : List ImageEvent) (event : ImageEvent) (what : Move) (places : List Place) → slot < n → AreNumbered n places → ((p : Place) → move_in size p calls event ≡ if_named slot p what)
    → image_event_lines size calls event places ≡ []
lines-none size n slot calls event what [] h number moves = refl
lines-none size n slot calls event what (p ∷ places) h number moves =
    ap (λ (own : List ℕ). own ++ image_event_lines size calls event places) (ap (move_line (length calls + 1) size p calls) (moves p ∙ unnamed slot p what n number.0 (λ is. omega arith)))
    ∙ lines-none size (suc n) slot calls event what places (omega arith) number.1 moves

lines-at : (size n k slot : ℕ) (calls : List ImageEvent) (event : ImageEvent) (what : Move) (places : List Place) (p : Place) → slot ≡ n + k → AreNumbered n places → slice_get places k ≡ Some p
    → ((p : Place) → move_in size p calls event ≡ if_named slot p what) → image_event_lines size calls event places ≡ slot_entry_line (length calls + 1) p (slot_deeds size p calls) (slot_next_deed size p calls what)
lines-at size n k slot calls event what [] p e number at moves = absurd (cc at)
lines-at size n zero slot calls event what (q ∷ places) p e number at moves =
    let i : q ≡ p = cc in
    let is : move_in size q calls event ≡ Some what = moves q ∙ it slot q what (number.0 ∙ omega arith) in
    ap (λ (rest : List ℕ). move_line (length calls + 1) size q calls (move_in size q calls event) ++ rest) (lines-none size (suc n) slot calls event what places (omega arith) number.1 moves)
    ∙ append-nil (move_line (length calls + 1) size q calls (move_in size q calls event))
    ∙ ap (move_line (length calls + 1) size q calls) is
    ∙ ap (λ (q : Place). slot_entry_line (length calls + 1) q (slot_deeds size q calls) (slot_next_deed size q calls what)) i
lines-at size n (suc k) slot calls event what (q ∷ places) p e number at moves =
    ap (λ (own : List ℕ). own ++ image_event_lines size calls event places) (ap (move_line (length calls + 1) size q calls) (moves q ∙ unnamed slot q what n number.0 (λ is. omega arith)))
    ∙ lines-at size (suc n) k slot calls event what places p (omega arith) number.1 at moves

-- there is such a slot, of which a line is shown
there : {X : Type 0} (f : Place → X) (o : Option Place) (x : X) → option_map f o ≡ Some x → (p : Place) × (o ≡ Some p)
there f None x h = absurd (cc h)
there f (Some p) x h = (p, refl)

named-tells : (old new : ImagesView) (event : ImageEvent) (k n : ℕ) (what : Move) (did : Did) (line : List ℕ) → Names event (suc k) what
    → ((plan : Plan) (calls : List ImageEvent) (p : Place) → StandsFor plan old calls → slice_get plan.places k ≡ Some p → did ≡ (slot_next_deed plan.size_in p calls what).did) → Follows old event new
    → ShowsAt new (suc k) line (told_line n (suc k) did) → TellsEvent old event n line
named-tells old new event k n what did line moves done f shows = record {
  lines = λ plan calls h number.
      let size : ℕ = plan.size_in in
      let stands : StandsFor plan new (event ∷ calls) = f.stands plan calls h in
      let p = there (λ (p : Place). told_line n (suc k) did p.setup (slot_deeds size p (event ∷ calls))) (slice_get plan.places k) line (shows.shows plan (event ∷ calls) stands) in
      let all : image_event_lines size calls event plan.places ≡ slot_entry_line (length calls + 1) p.0 (slot_deeds size p.0 calls) (slot_next_deed size p.0 calls what) =
      lines-at size 1 k (suc k) calls event what plan.places p.0 (omega arith) stands.made.numbers p.1 (λ p. moves size p calls)
      in
      let is : move_in size p.0 calls event ≡ Some what =
      moves size p.0 calls ∙ it (suc k) p.0 what (number_at 1 plan.places k p.0 stands.made.numbers p.1 ∙ omega arith)
      in
      shown_entry plan new calls event n k p.0 what did line stands p.1 is (done plan calls p.0 h p.1) shows
      ∙ ap (λ (m : ℕ). slot_entry_line m p.0 (slot_deeds size p.0 calls) (slot_next_deed size p.0 calls what)) number
      ∙ sym all;
}

-- what an event is of the slot that it names
names : (event : ImageEvent) (k : ℕ) → slot_in event ≡ suc k → (what : Move) × Names event (suc k) what
names (event.Put slot load) k e = (move.Put load, λ size p calls. ap (λ (n : ℕ). if_named n p (move.Put load)) e)
names (event.Hold slot failsafe) k e = (move.Hold failsafe, λ size p calls. ap (λ (n : ℕ). if_named n p (move.Hold failsafe)) e)
names (event.Nonce slot id) k e = (move.Nonce id, λ size p calls. ap (λ (n : ℕ). if_named n p (move.Nonce id)) e)
names (event.Reset slot) k e = (move.Local, λ size p calls. ap (λ (n : ℕ). if_named n p move.Local) e)
names _ k e = absurd (cc e)

reset-did : (plan : Plan) (calls : List ImageEvent) (k : ℕ) (p : Place) (did : Did) → slice_get plan.places k ≡ Some p → option_map (λ p. (slot_next_deed plan.size_in p calls move.Local).did) (slice_get plan.places k) ≡ Some did
    → did ≡ (slot_next_deed plan.size_in p calls move.Local).did
reset-did plan calls k p did h l = grind arith

did-of : (event : ImageEvent) (v : ImagesView) (k : ℕ) (did : Did) (e : slot_in event ≡ suc k) → IsDidOf v event did → (plan : Plan) (calls : List ImageEvent) (p : Place) → StandsFor plan v calls → slice_get plan.places k ≡ Some p
    → did ≡ (slot_next_deed plan.size_in p calls (names event k e).0).did
unfolding names
did-of (event.Reset slot) v k did e d plan calls p h at = reset-did plan calls k p did at ((subst (λ (n : ℕ). AnswersReset v n did) e d).shows plan calls h)
did-of (event.Put slot load) v k did e d plan calls p h at = d
did-of (event.Hold slot failsafe) v k did e d plan calls p h at = d
did-of (event.Nonce slot id) v k did e d plan calls p h at = d
did-of _ v k did e d plan calls p h at = absurd (cc e)

pub named_tells : (old new : ImagesView) (event : ImageEvent) (slot n : ℕ) (did : Did) (line : List ℕ) → 1 ≤ slot_in event → slot ≡ slot_in event → IsDidOf old event did → Follows old event new → ShowsAt new slot line (told_line n slot did)
    → TellsEvent old event n line
named_tells old new event zero n did line h e d f shows = absurd (omega arith)
named_tells old new event (suc k) n did line h e d f shows =
    let is = names event k (sym e) in named-tells old new event k n is.0 did line is.1 (did-of event old k did (sym e) d) f shows
