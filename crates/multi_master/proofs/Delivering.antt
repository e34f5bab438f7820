-- A delivery to one of many connections, by what its master and the application do.
use Rattle.multi_master.proofs.Common.{Accepts, All-head, All-tail, AllZip, Answer, AnswersFrame, AppView, Call, Connection, Deed, Deliver, Delivery, Did, Follows, GuardsBy, IsWhere, MasterSettings, MasterView, Meant, Move, MultiView, PutsAnswer, Replies, RunsBy, RunsCycle, ShowsDue, StandsFor, Waits, app_answer, cycle_in, deed, due_in, moved_at, event_on, get_or_from_slice_get, is_offer, map-set, meant, newest_at, next_deed, offer_at, offer_len, out, connection_outputs, own_len, same_deed, settings_in, setup, tells_due, with_cycle, with_event, with_offer, with_offers}
use Rattle.std.proofs.Common.{◌≡◌, ◌⊎◌, inl, inr, ℕ, suc, List, [], ◌∷◌, map, slice_get, slice_set, All, Option, Some, None, Bool, true, false, not, if◌then◌else◌, refl, sym, ap, ap₂, subst, ◌∙◌, arith}
use Rattle.std.proofs.lemmas.List.{set-get_or}
use Rattle.param_load.specs.declared.entry.Move.TheVariants as move
use Rattle.multi_master.proofs.Following.{own_lens}
use Rattle.multi_master.proofs.Neighbours.{event_keeps}
use Rattle.multi_master.proofs.Places.{at_place, map_set, set_there, zip_set}
use Rattle.multi_master.proofs.Putting.{all_put, one_put, outputs_delivered, where_put}
use Rattle.multi_master.proofs.Quiet.{quiet_deed, quiet_frame}
use Rattle.multi_master.proofs.Reading.{StandsIn, event_set, quiet_stands, stands_so}

-- the cycle of a delivery to a connection that exists
cycle-is : (m : Meant) (place : ℕ) (c : Connection) (bytes : List ℕ) (b : Bool) → slice_get m.connections place ≡ Some c → tells_due (next_deed (move.Deliver bytes) c).did ≡ b
    → cycle_in (Deliver (suc place) bytes) m ≡ (if b then Some (app_answer false (moved_at (suc place) (move.Deliver bytes) m)) else None)
cycle-is m place c bytes b h k = grind arith

-- the newest deed of a connection at which an event came
newest-is : (m : Meant) (place : ℕ) (c : Connection) (what : Move) → slice_get m.connections place ≡ Some c → newest_at (suc place) (moved_at (suc place) what m) ≡ Some (next_deed what c)
newest-is m place c what h = rw (event_set m.connections place c what h, set_there m.connections place c (with_event what c) h) refl

-- what a delivery means: these calls stand with it, and the newest deed of its connection answers the frame
abbrev pub Delivers : MultiView → ℕ → List ℕ → Did → MultiView → List ℕ → Type 0
Delivers old place bytes did new frame =
    (settings : List MasterSettings) (app : AppView) (calls : List Call) → StandsFor settings app old calls
    → StandsFor settings app new (Deliver (suc place) bytes ∷ calls) × (newest_at (suc place) (meant settings app (Deliver (suc place) bytes ∷ calls)) ≡ Some (deed (move.Deliver bytes) did frame))

-- by its cycle, if it ran one, and the connection then
delivers_so : (settings : List MasterSettings) (app : AppView) (old new : MultiView) (calls : List Call) (place : ℕ) (bytes : List ℕ) (did : Did) (frame : List ℕ) (o : Option Answer) (c : Connection) → StandsFor settings app old calls
    → cycle_in (Deliver (suc place) bytes) (meant settings app calls) ≡ o → slice_get (with_cycle o (meant settings app calls)).connections place ≡ Some c
    → StandsIn (meant settings app calls).connections o (moved_at (suc place) (move.Deliver bytes) (with_cycle o (meant settings app calls))) new → next_deed (move.Deliver bytes) c ≡ deed (move.Deliver bytes) did frame
    → StandsFor settings app new (Deliver (suc place) bytes ∷ calls) × (newest_at (suc place) (meant settings app (Deliver (suc place) bytes ∷ calls)) ≡ Some (deed (move.Deliver bytes) did frame))
delivers_so settings app old new calls place bytes did frame o c h ran at s is =
    let m : Meant = meant settings app calls in
    let same = ap (λ (o : Option Answer). moved_at (suc place) (move.Deliver bytes) (with_cycle o m)) ran in
    (stands_so settings app old new calls (Deliver (suc place) bytes) o _ h ran same s, ap (newest_at (suc place)) same ∙ newest-is (with_cycle o m) place c (move.Deliver bytes) at ∙ ap (λ (x : Deed). Some x) is)

pub delivered : (old new : MultiView) (place : ℕ) (bytes : List ℕ) (did : Did) (frame : List ℕ) → Delivers old place bytes did new frame → Follows old (Deliver (suc place) bytes) new × AnswersFrame old (suc place) bytes did frame
delivered old new place bytes did frame d = (record { stands = λ settings app calls h. (d settings app calls h).0 }, record { answers = λ settings app calls h. (d settings app calls h).1 })

-- nothing is taken of the frame and no session ends
pub dropped : (old new : MultiView) (place : ℕ) (bytes : List ℕ) (did : Did) (before last : MasterView) (frame : List ℕ) → slice_get old.masters place ≡ Some before → Accepts before bytes did last
    → due_in last ≡ false → tells_due did ≡ false → frame ≡ [] → new.masters ≡ slice_set old.masters place last → new.app ≡ old.app → new.inputs ≡ old.inputs → new.changed ≡ []
    → Delivers old place bytes did new frame
dropped old new place bytes did before last frame at accepts rest untold f nm na ni nc = λ settings app calls h.
    let m : Meant = meant settings app calls in
    let p = at_place IsWhere m.connections old.masters place before h.masters at in
    let c : Connection = p.there in
    let u = accepts.under_way c.settings c.deeds p.holds in
    let none : tells_due (next_deed (move.Deliver bytes) c).did ≡ false = sym (ap (λ (x : Did). tells_due x) u.did) ∙ untold in
    delivers_so settings app old new calls place bytes did frame None c h (cycle-is m place c bytes false p.is none) p.is
    (quiet_stands settings app old new calls place (move.Deliver bytes) c last h p.is (quiet_frame (setup c) c.deeds bytes none) (u.is_after rest) nm na ni nc)
    (quiet_deed (setup c) c.deeds bytes p.holds.reached none ∙ same_deed (move.Deliver bytes) _ _ _ _ (sym u.did) (sym f))

-- a frame that came for a connection, with what accepting it did, as a delivery there
abbrev delivery_at : Connection → List ℕ → Did → Delivery
delivery_at c bytes did = record { settings = c.settings; before = c.deeds; bytes = bytes; did = did }

-- a master is where the deeds of its connection leave it, or its frame is due, and it waits in the delivery
abbrev Stands : List ℕ → Did → Connection → MasterView → Type 0
Stands bytes did c m = IsWhere c m ⊎ (Waits m (delivery_at c bytes did) × (due_in m ≡ true))

stands_put : (bytes : List ℕ) (did : Did) (c : Connection) (old new : MasterView) (load : List ℕ) (told : Bool) → Stands bytes did c old → PutsAnswer old load new told → Stands bytes did (with_offer load c) new × (told ≡ not (is_offer load c))
stands_put bytes did c old new load told (inl h) p = let one = where_put c old new load told h p in (inl one.0, one.1)
stands_put bytes did c old new load told (inr h) p =
    let one = one_put (λ c m. Waits m (delivery_at c bytes did)) c old new load told p (p.shows_due.shows (delivery_at c bytes did) h.0) h.0 (λ put. put.1.waits (delivery_at c bytes did) h.0) in
    (inr (one.0, p.due ∙ h.1), one.1)

waits_there : (bytes : List ℕ) (did : Did) (c : Connection) (m : MasterView) → due_in m ≡ true → Stands bytes did c m → Waits m (delivery_at c bytes did)
waits_there bytes did c m due (inl h) = absurd (cc (ap due_in h.is, due))
waits_there bytes did c m due (inr h) = h.0

-- all masters stand so before the cycle, and after the reply no frame is due
stand_alike : (bytes : List ℕ) (did : Did) (cs : List Connection) (ms : List MasterView) → AllZip IsWhere cs ms → AllZip (Stands bytes did) cs ms
stand_alike bytes did [] [] h = tt
stand_alike bytes did (c ∷ cs) (m ∷ ms) h = (inl h.0, stand_alike bytes did cs ms h.1)
stand_alike bytes did _ _ h = absurd h

where_again : (bytes : List ℕ) (did : Did) (c : Connection) (m : MasterView) → due_in m ≡ false → Stands bytes did c m → IsWhere c m
where_again bytes did c m rest (inl h) = h
where_again bytes did c m rest (inr h) = absurd (cc (h.1, rest))

stand_again : (bytes : List ℕ) (did : Did) (cs : List Connection) (ms : List MasterView) → All (λ m. due_in m ≡ false) ms → AllZip (Stands bytes did) cs ms → AllZip IsWhere cs ms
stand_again bytes did [] [] r h = tt
stand_again bytes did (c ∷ cs) (m ∷ ms) r h = (where_again bytes did c m (All-head (λ m. due_in m ≡ false) m ms r) h.0, stand_again bytes did cs ms (All-tail (λ m. due_in m ≡ false) m ms r) h.1)
stand_again bytes did _ _ r h = absurd h

-- the frame is taken, or its session ends: the cycle is run while the master waits, and then it replies
pub answered : (old new : MultiView) (place : ℕ) (bytes : List ℕ) (did : Did) (frame : List ℕ) (before accepted ready last : MasterView) (input : List ℕ) (put : List MasterView) → slice_get old.masters place ≡ Some before
    → Accepts before bytes did accepted → settings_in accepted ≡ settings_in before → due_in accepted ≡ tells_due did → due_in accepted ≡ true → ShowsDue accepted input out → new.inputs ≡ slice_set old.inputs place input
    → RunsCycle old.app false new.inputs (slice_set old.masters place accepted) new.app put new.changed → slice_get put place ≡ Some ready → due_in ready ≡ true → Replies ready last frame
    → new.masters ≡ slice_set put place last → All (λ m. due_in m ≡ false) new.masters → Delivers old place bytes (record did { sent = true }) new frame
answered old new place bytes did frame before accepted ready last input put at accepts same_settings told waiting reads ni cycle ready_at due replies nm rest = λ settings app calls h.
    let m : Meant = meant settings app calls in
    let cs : List Connection = m.connections in
    let what : Move = move.Deliver bytes in
    let p = at_place IsWhere cs old.masters place before h.masters at in
    let c : Connection = p.there in
    let u = accepts.under_way c.settings c.deeds p.holds in
    let taken : tells_due (next_deed what c).did ≡ true = sym (ap (λ (x : Did). tells_due x) u.did) ∙ sym told ∙ waiting in
    let heard : Meant = moved_at (suc place) what m in
    let inputs : new.inputs ≡ map connection_outputs heard.connections =
    ni ∙ ap₂ (λ (xs : List (List ℕ)) (x : List ℕ). slice_set xs place x) h.inputs_are (reads.shows _ u.waits) ∙ sym (ap (map connection_outputs) (event_set cs place c what p.is) ∙ map-set connection_outputs cs place (with_event what c))
    in
    let lens : map own_len (slice_set old.masters place accepted) ≡ map offer_len heard.connections =
    map_set own_len old.masters place before accepted at (ap (λ s. s.lengths.master) same_settings) ∙ own_lens cs old.masters h.masters ∙ sym (event_keeps offer_len (suc place) what cs (λ c. refl))
    in
    let a : Answer = app_answer false heard in
    let x : RunsBy a m.app (map connection_outputs heard.connections) (slice_set old.masters place accepted) new.app put new.changed = rw (inputs, h.app_is, lens) at cycle in
    let offered : List Connection = with_offers a.outputs cs in
    let same : slice_set cs place c ≡ cs = ap (slice_set cs place) (sym (get_or_from_slice_get cs place c c p.is)) ∙ set-get_or cs place c in
    let stand = rw same at (zip_set (Stands bytes did) cs old.masters place c accepted (stand_alike bytes did cs old.masters h.masters) (inr (u.waits, waiting))) in
    let y = all_put (Stands bytes did) (stands_put bytes did) 1 cs (slice_set old.masters place accepted) a.outputs put new.changed stand x.puts in
    let q = at_place (Stands bytes did) offered put place ready y.0 ready_at in
    let waits = waits_there bytes did q.there ready due q.holds in
    let same_did : (next_deed what q.there).did ≡ record did { sent = true } = replies.did (delivery_at q.there bytes did) waits ∙ ap (λ (b : Bool). record did { sent = b }) due in
    let kept : map connection_outputs heard.connections ≡ map connection_outputs (event_on (suc place) what offered) = sym (outputs_delivered (suc place) bytes cs a.outputs) in
    let stands : StandsIn cs (Some a) (moved_at (suc place) what (with_cycle (Some a) m)) new = record {
      masters = rw (event_set offered place q.there what q.is) (stand_again bytes did (slice_set offered place (with_event what q.there)) new.masters rest (rw nm (zip_set (Stands bytes did) offered put place (with_event what q.there) last y.0 (inl (replies.is_after _ waits)))));
      app_is = x.app_is;
      inputs_are = inputs ∙ kept;
      changed_are = y.1;
      sound = record {
        answered = event_keeps offer_at (suc place) what offered (λ c. refl) ∙ y.2;
        guarded = subst (λ (xs : List (List ℕ)). GuardsBy m.app.guards xs a.outputs) kept x.guarded;
      };
    }
    in
    delivers_so settings app old new calls place bytes _ frame (Some a) q.there h (cycle-is m place c bytes true p.is taken) q.is stands (same_deed what _ _ _ _ same_did (sym (replies.sent (delivery_at q.there bytes did) waits)))
