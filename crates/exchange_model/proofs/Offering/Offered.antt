-- Where a bit of an end's outputs is 1, its peer offered it as 1 not long ago; and the watchdog that the end tells is
-- the master's.
use Rattle.exchange_model.proofs.Common.{Deed, End, Entry, IsFromItem, IsRun, IsTakenFrom, IsWorld, Item, MasterSettings, NoOther, Offered, SameLengths, Setup, SlaveSettings, State, Terms, Took, WasOffered, awaited, bit_of, data_taken, deed_in, deeds, fail_safe, frame_if, frame_with, in_time, is_data_frame, items, looking_back, ltb-true, next_offered, of_end, offered_of, offers_bit, outputs, outputs_due, received_len, same_end, setup_of, state_of, terms, terms_of, ticked, ticks, ticks_of, told_in, told_terms}
use Rattle.std.proofs.Common.{◌≡◌, ℕ, ◌+◌, ◌-◌, ◌*◌, ◌<◌, ◌≤◌, nat_lt, List, ◌∷◌, ◌++◌, Bool, true, Option, Some, IsSomeAnd, if◌then◌else◌, refl, ap, sym, subst, ◌∙◌, append_assoc, arith, rules}
use Rattle.fsoe_base.specs.declared.command.State.TheVariants as state
use Rattle.exchange_model.proofs.Worlds.Projection.{next_told, told, deeds_are_run, entry_reacted}
use Rattle.exchange_model.proofs.Joint.Related.{related}
use Rattle.exchange_model.proofs.Terms.Told.{terms_agree}
use Rattle.exchange_model.proofs.Fairness.Shown.{due_is_out}
use Rattle.exchange_model.proofs.Fairness.Headline.{takes_awaited}
use Rattle.exchange_model.proofs.Offering.Older.{older_world, older_clean, ticks_joined}
use Rattle.exchange_model.proofs.Offering.Shown.{none_of_zeros, ShowsBit, shows_bit}
use Rattle.exchange_model.proofs.Offering.Sending.{SentLately, sent_lately}
use Rattle.exchange_model.proofs.Offering.Young.{TakesYoung, takes_young}

-- an end in Data has the terms of the master's settings
pub agrees : (ms : MasterSettings) (ss : SlaveSettings) (which : End) (w : List Entry) → SameLengths ms ss → IsWorld ms ss w → NoOther w → state_of (setup_of ms ss which) (deeds which w) ≡ state.Data
    → terms (setup_of ms ss which) (deeds which w) ≡ terms_of ms
agrees ms ss which w h k l m = search (rules, terms_agree, related)

-- and tells them
pub tells : (s : Setup) (e : List Deed) (t : Terms) → state_of s e ≡ state.Data → terms s e ≡ t → told_terms s e ≡ Some t
tells s e t now h = ap (λ (now : State). told_in now (terms s e)) now ∙ ap Some h

-- an item with a bit as 1 was sent as data, and its end offered that bit
offers-of : (l bit : ℕ) (o : Offered) → bit_of (frame_with l o).load bit ≡ true → offers_bit bit o ≡ true
offers-of l bit o h = search (rules, none_of_zeros)

record OffersBit (bit : ℕ) (frame : List ℕ) (e : List Entry) : Type 0 where
  pub sent_data : is_data_frame frame ≡ true
  pub offered : offers_bit bit (next_offered e) ≡ true

offers : (l bit : ℕ) (frame : List ℕ) (e : List Entry) (t : Took) → frame_if l (offered_of frame e) ≡ Some t → bit_of t.load bit ≡ true → OffersBit bit frame e
offers l bit frame e t h k = search (rules, offers-of)

-- the item that data were taken from
record From (l : ℕ) (t : Took) (told_after : Option Terms) (o : Option Item) : Type 0 where
  pub item : Item
  pub is : o ≡ Some item
  pub from : IsFromItem l t told_after item

from-item : (l : ℕ) (t : Took) (told_after : Option Terms) (o : Option Item) → IsTakenFrom l (Some t) told_after o → From l t told_after o
from-item l t told_after o h = grind arith

-- an entry that takes data with a bit as 1
record TakesBit (ms : MasterSettings) (bit : ℕ) (x : Entry) (w : List Entry) : Type 0 where
  pub was_offered : WasOffered x.end bit (ms.watchdog - 1) w
  pub told : x.terms ≡ Some (terms_of ms)
  pub no_tick : (n : ℕ) → ticked x.what n ≡ n

pub same_itself : (which : End) → same_end which which ≡ true
same_itself which = grind arith

pub own_head : (x : Entry) (w : List Entry) → deeds x.end (x ∷ w) ≡ deed_in x ∷ deeds x.end w
own_head x w = let it : same_end x.end x.end ≡ true = same_itself x.end in simp it

-- the terms of an end that takes data
pub taking_agrees : (ms : MasterSettings) (ss : SlaveSettings) (x : Entry) (w : List Entry) → SameLengths ms ss → IsWorld ms ss (x ∷ w) → NoOther (x ∷ w) → state_of (setup_of ms ss x.end) (deed_in x ∷ deeds x.end w) ≡ state.Data
    → terms (setup_of ms ss x.end) (deed_in x ∷ deeds x.end w) ≡ terms_of ms
taking_agrees ms ss x w lens h n now =
    subst (λ (e : List Deed). terms (setup_of ms ss x.end) e ≡ terms_of ms) (own_head x w)
    (agrees ms ss x.end (x ∷ w) lens h n (ap (state_of (setup_of ms ss x.end)) (own_head x w) ∙ now))

before-taking : (later now told watchdog : ℕ) → later ≤ now → now < told → told ≡ watchdog → later ≤ watchdog - 1
before-taking later now told watchdog h i j = omega arith

takes-bit : (ms : MasterSettings) (ss : SlaveSettings) (bit : ℕ) (x : Entry) (w : List Entry) (t : Took) → SameLengths ms ss → IsWorld ms ss (x ∷ w) → NoOther (x ∷ w) → data_taken x.did.took ≡ Some t → bit_of t.load bit ≡ true
    → TakesBit ms bit x w
takes-bit ms ss bit x w t lens h n took one =
    let s : Setup = setup_of ms ss x.end in
    let e : List Deed = deeds x.end w in
    let l : ℕ = received_len ms.lengths x.end in
    let y : TakesYoung s e (deed_in x) = takes_young s e x.what x.did x.sent t (deeds_are_run ms ss x.end w h.1) (entry_reacted ms ss x w h) took in
    let f : From l t x.terms (awaited (items w) x.end) = from-item l t x.terms (awaited (items w) x.end)
    (subst (λ (took : Option Took). IsTakenFrom l took x.terms (awaited (items w) x.end)) took (takes_awaited ms ss (x ∷ w) lens h n).0) in
    let sent : SentLately s x.end f.item w = sent_lately s x.end f.item w f.is in
    let o : OffersBit bit sent.at.sending.sent (of_end sent.at.sending.end sent.at.before) = offers l bit sent.at.sending.sent (of_end sent.at.sending.end sent.at.before) t (ap (λ (i : Item). frame_if l i.offered) sent.at.is_item ∙ f.from.same_load) one in
    let agree : terms s (deed_in x ∷ e) ≡ terms_of ms = taking_agrees ms ss x w lens h n y.in_data in
    search (rules, before-taking, ticks, told, next_told, tells)

pub both-ways : (b : Bool) (m n : ℕ) → m ≡ n → (if b then m else n) ≡ n
both-ways b m n h = grind arith

-- looking back past the entry that took the data
further : (ms : MasterSettings) (which : End) (bit : ℕ) (w : List Entry) (t : ShowsBit which bit 0 w) → TakesBit ms bit t.taking t.before → WasOffered which bit (2 * ms.watchdog - 2) w
further ms which bit w t b =
    let o : WasOffered which bit (ms.watchdog - 1) t.before = subst (λ (it : End). WasOffered it bit (ms.watchdog - 1) t.before) t.own b.was_offered in
    let in_all : nat_lt (ticks_of which t.later + 0) ms.watchdog ≡ true = ap (in_time (ticks_of which t.later + 0)) (sym b.told) ∙ t.is_in_time in
    let none : ticks_of which (t.taking ∷ o.later) ≡ ticks_of which o.later = both-ways (same_end which t.taking.end) (ticked t.taking.what (ticks_of which o.later)) (ticks_of which o.later) (b.no_tick (ticks_of which o.later)) in
    record {
      later = t.later ++ (t.taking ∷ o.later);
      sending = o.sending;
      before = o.before;
      parts_are = t.parts_are ∙ (ap (λ (v : List Entry). t.later ++ (t.taking ∷ v)) o.parts_are ∙ sym (append_assoc t.later (t.taking ∷ o.later) (o.sending ∷ o.before)));
      by_peer = o.by_peer;
      sent_data = o.sent_data;
      offered = o.offered;
      lately = omega (arith, ltb-true (ticks_of which t.later + 0) ms.watchdog in_all, ticks_joined which t.later (t.taking ∷ o.later));
    }

-- where a bit of an end's outputs is 1, its peer offered it lately
pub was_offered : (ms : MasterSettings) (ss : SlaveSettings) (which : End) (bit : ℕ) (w : List Entry) → SameLengths ms ss → IsWorld ms ss w → NoOther w
    → bit_of (outputs_due (received_len ms.lengths which) (of_end which w)) bit ≡ true → WasOffered which bit (2 * ms.watchdog - 2) w
was_offered ms ss which bit w lens h n one =
    let t : ShowsBit which bit 0 w = shows_bit which bit (received_len ms.lengths which) w 0 one in
    let world : IsWorld ms ss (t.taking ∷ t.before) = older_world ms ss t.later (t.taking ∷ t.before) (subst (IsWorld ms ss) t.parts_are h) in
    let clean : NoOther (t.taking ∷ t.before) = older_clean t.later (t.taking ∷ t.before) (subst (λ (v : List Entry). NoOther v) t.parts_are n) in
    further ms which bit w t (takes-bit ms ss bit t.taking t.before t.took lens world clean t.took_is t.has_bit)

-- the outputs of an end by its entries
due : (ms : MasterSettings) (ss : SlaveSettings) (which : End) (w : List Entry) → SameLengths ms ss → IsWorld ms ss w
    → outputs_due (received_len ms.lengths which) (of_end which w) ≡ outputs (setup_of ms ss which) (deeds which w)
due ms ss which w h k = search (rules, deeds_are_run, told, due_is_out, looking_back)

-- an end with a bit of its outputs as 1 is in Data
in-data : (s : Setup) (e : List Deed) (bit : ℕ) (now : State) → IsRun s e → bit_of (outputs s e) bit ≡ true → state_of s e ≡ now → now ≡ state.Data
in-data s e bit now h k l = search (rules, fail_safe, none_of_zeros)

-- the watchdog that the end tells then is the master's
pub told_watchdog : (ms : MasterSettings) (ss : SlaveSettings) (which : End) (bit : ℕ) (w : List Entry) → SameLengths ms ss → IsWorld ms ss w → NoOther w
    → bit_of (outputs_due (received_len ms.lengths which) (of_end which w)) bit ≡ true
    → IsSomeAnd (told_terms (setup_of ms ss which) (deeds which w)) (λ terms. terms.watchdog ≡ ms.watchdog)
told_watchdog ms ss which bit w lens h n one =
    let s : Setup = setup_of ms ss which in
    let e : List Deed = deeds which w in
    let now : state_of s e ≡ state.Data = in-data s e bit (state_of s e) (deeds_are_run ms ss which w h) (ap (λ (v : List ℕ). bit_of v bit) (sym (due ms ss which w lens h)) ∙ one) refl in
    subst (λ (o : Option Terms). IsSomeAnd o (λ terms. terms.watchdog ≡ ms.watchdog)) (sym (tells s e (terms_of ms) now (agrees ms ss which w lens h n now))) refl
