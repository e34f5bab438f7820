-- Acts that run a cycle: the offers that it changed are noted with them.
use Rattle.plant_core.proofs.Common.{Act, AnswersFrame, AnswersTick, App, AppView, Beginning, Call, ChangeApp, Connection, Deed, Deliver, Delivers, Did, Done, EachActs, End, Entry, Event, GoesOn, Happen, HasAgeParts, HasDone, HasWatchdog, IsNoted, IsOne, JournalStep, LinkConf, LinkIs, LinkStands, LinkView, LinksAre, MasterTicked, Meant, MultiView, OfMaster, OffersNoted, Parcel, Placed, PlantView, PullFrom, Said, Setup, ShowsAt, SlaveTicks, StandsFor, Tick, ChannelTold, Trace, Use, all_pushes, call_of, calls, numbered_connection, deed_in, deeds, delivery_call, each_uses, fixed_in, frames_of, is_cut, journal, line_step, link_at, master_with, mastered, masters, meant, newest_at, next_deed, next_entry, next_of, no_entry, offers, offers_by, option_to_list, pair, pair_more, pair_own, pairs_by, place_of, pushes_each, sent_uses, settings, setup, slice_get-map, told_terms, watchdog_in}
use Rattle.std.proofs.Common.{false, true, ◌≡◌, ℕ, suc, Bool, List, [], ◌∷◌, ◌++◌, slice_get, slice_set, Option, Some, None, option_map, map, refl, sym, ap, ap₂, subst, ◌∙◌, append_assoc, arith, rules}
use Rattle.fsoe_base.specs.declared.command.End.TheVariants as side
use Rattle.param_load.specs.declared.terms.Terms.{Terms}
use Rattle.black_channel.specs.declared.channel.Place.{Place}
use Rattle.param_load.specs.declared.entry.Move.TheVariants as move
use Rattle.multi_master.specs.Standing as multi
use Rattle.plant_model.specs.declared.event.PlantEvent.TheVariants as event
use Rattle.plant_model.specs.declared.journal.JournalStep.TheVariants as step
use Rattle.plant_core.proofs.Acting.{all_acted, each_fixed, fixed_set, one_each, trace_append}
use Rattle.plant_core.proofs.Linked.{master_acts, whatever}
use Rattle.plant_core.proofs.Linking.{from_one, each_at, each_map}
use Rattle.plant_core.proofs.Offering.{offers_quiet}
use Rattle.plant_core.proofs.OneDeed.{act_done, none_acted, one_acted, quiet_pushes}
use Rattle.plant_core.proofs.Readers.{told_by}

-- a line of the script that runs a cycle: its step is noted and done first, and then the offers that the cycle changed,
-- with which nothing is sent
cycled : (b : Beginning) (said : Said) (done : List Act) (call : Call) (old new : PlantView) (mid : List LinkView) (before after : ChannelTold) → HasDone b old done → call_of b (Happen said) ≡ Some call → multi.Follows old.master call new.master
    → OffersNoted new.master mid new.links (old.journal ++ line_step said ∷ []) new.journal → LinksAre b.links (λ k. is_cut k (Happen said ∷ done)) (pairs_by (old.journal ++ line_step said ∷ [])) mid
    → (((at : End) (k : ℕ) (link : LinkConf) → frames_of at (pair link k new.journal) ≡ frames_of at (pair link k (old.journal ++ line_step said ∷ [])))
    → Trace (all_pushes b.links (λ k. is_cut k (Happen said ∷ done)) old.journal new.journal) before after) → Done b done (Happen said ∷ []) new before after
cycled b said done call old new mid before after h calls_it follows c are pushed =
    let act : Act = Happen said in
    let cut : ℕ → Bool = λ k. is_cut k (act ∷ done) in
    let steps : List JournalStep = old.journal ++ line_step said ∷ [] in
    let stands = follows.stands (settings b) b.app (calls b done) h.master in
    act_done b act (Some call) done old new c.offers before before after h calls_it (c.offers_are (settings b) b.app (call ∷ calls b done) stands) (c.steps ∙ append_assoc old.journal (line_step said ∷ []) c.offers)
    stands
    (record {
      are = subst (λ (js : List JournalStep). LinksAre b.links cut (pairs_by js) new.links) (sym c.steps) (c.links b.links cut steps are);
      pushed = pushed (offers_quiet new.master mid new.links steps new.journal (settings b) b.app (call ∷ calls b done) c stands);
    }) (λ us t. t)

-- the entries of the slaves, and then of the masters, in a tick
abbrev slave_next : List JournalStep → ℕ → LinkConf → Entry
slave_next steps k link = next_of side.Slave move.Tick link (pair link k steps)

abbrev master_next : List JournalStep → ℕ → LinkConf → Entry
master_next steps k link = next_of side.Master move.Tick link (slave_next steps k link ∷ pair link k steps)

ticked : (link : LinkConf) (k : ℕ) (steps : List JournalStep) → pair link k (steps ++ step.Script event.Tick ∷ []) ≡ master_next steps k link ∷ slave_next steps k link ∷ pair link k steps
ticked link k steps = pair_more link k steps (step.Script event.Tick ∷ [])

-- the frames of these entries are pushed to this end of each connection
abbrev frames_pushed : End → (ℕ → LinkConf → Entry) → (ℕ → Bool) → List LinkConf → List Use
frames_pushed to next cut links = each_uses (λ k link. sent_uses (place_of k to) (next k link).sent (cut k)) 1 links

some_same : {X Y : Type 0} (f : X → Y) (xs : List X) (place : ℕ) (x : X) (y : Y) (ys : List Y) → ys ≡ map f xs → slice_get xs place ≡ Some x → slice_get ys place ≡ Some y → y ≡ f x
some_same f xs place x y ys e at found =
    let mapped = ap (λ (z : List _). slice_get z place) e ∙ slice_get-map f xs place ∙ ap (option_map f) at in
    let same : Some y ≡ Some (f x) = sym found ∙ mapped in
    cc

tick_tells : (s : Setup) (e : List Deed) → HasWatchdog (next_entry s e move.Tick) None
tick_tells s e = search rules

-- the entry of a master in a tick has the parts that are told of it
tick_parts : (b : Beginning) (done : List Act) (m : MultiView) (dids : List Did) (frames : List (List ℕ)) (place : ℕ) (link : LinkConf) (did : Did) (sent : List ℕ) → StandsFor (settings b) b.app m (calls b done) → AnswersTick m dids frames
    → slice_get b.links place ≡ Some link → slice_get dids place ≡ Some did → slice_get frames place ≡ Some sent → HasAgeParts (master_next (journal b done) (suc place) link) side.Master true [] did sent None
tick_parts b done m dids frames place link did sent h answers is did_at sent_at =
    let c : Connection = master_with link (pair link (suc place) (journal b done)) in
    let at : slice_get (masters b done).connections place ≡ Some c = mastered b done place link is in
    let did_is : did ≡ (next_deed move.Tick c).did = some_same (λ c. (next_deed move.Tick c).did) (masters b done).connections place c did dids (answers.dids (settings b) b.app (calls b done) h) at did_at in
    let sent_is : sent ≡ (next_deed move.Tick c).sent = some_same (λ c. (next_deed move.Tick c).sent) (masters b done).connections place c sent frames (answers.sent (settings b) b.app (calls b done) h) at sent_at in
    record { parts = record { end_is = refl; came_is = refl; did_is = sym did_is; sent_is = sym sent_is }; tick_is = refl; watchdog_is = tick_tells (OfMaster link.master) c.deeds }

tick_pushes : (links : List LinkConf) (cut : ℕ → Bool) (steps now : List JournalStep) → ((at : End) (k : ℕ) (link : LinkConf) → frames_of at (pair link k now) ≡ frames_of at (pair link k (steps ++ step.Script event.Tick ∷ [])))
    → all_pushes links cut steps now ≡ frames_pushed side.Master (slave_next steps) cut links ++ frames_pushed side.Slave (master_next steps) cut links
tick_pushes links cut steps now quiet =
    ap₂ (λ (xs ys : List Use). xs ++ ys)
    (pushes_each side.Slave 1 links cut steps now (λ k link. (slave_next steps k link).sent) (λ k link from below. quiet side.Slave k link ∙ ap (frames_of side.Slave) (ticked link k steps)))
    (pushes_each side.Master 1 links cut steps now (λ k link. (master_next steps k link).sent) (λ k link from below. quiet side.Master k link ∙ ap (frames_of side.Master) (ticked link k steps)))

-- a tick
pub tick_goes : (old new : PlantView) (mid late : List LinkView) (dids : List Did) (frames : List (List ℕ)) (before between after : ChannelTold) → EachActs SlaveTicks 0 old.links mid before between → multi.Follows old.master Tick new.master
    → AnswersTick old.master dids frames → EachActs (MasterTicked dids frames) 0 mid late between after → OffersNoted new.master late new.links (old.journal ++ step.Script event.Tick ∷ []) new.journal
    → GoesOn old (Happen (Event event.Tick) ∷ []) new before after
tick_goes old new mid late dids frames before between after slaves follows answers masters offers = record {
  fixed = offers.fixed ∙ each_fixed (MasterTicked dids frames) 0 mid late between after (λ n v w t u a. a.noted.notes) masters ∙ each_fixed SlaveTicks 0 old.links mid before between (λ n v w t u a. a.notes) slaves;
  goes = λ b done h.
      let cut : ℕ → Bool = λ k. is_cut k done in
      let steps : List JournalStep = old.journal in
      let mids : ℕ → LinkConf → List Entry = one_each (slave_next steps) (pairs_by steps) in
      let ticked_slaves = all_acted SlaveTicks side.Master 0 b.links cut (pairs_by steps) (slave_next steps) old.links mid before between slaves h.links (λ n v w t u a. a.notes)
      (λ i n link v w t u is e a stands. a.acts link (pair link (suc n) steps) stands) in
      let ticked_masters = all_acted (MasterTicked dids frames) side.Slave 0 b.links cut mids (master_next steps) mid late between after masters ticked_slaves.0 (λ n v w t u a. a.noted.notes)
      (λ i n link v w t u is e a stands.
      let number : n ≡ i = omega arith in
      let at : slice_get b.links n ≡ Some link = rw number is in
      master_acts (suc n) true [] a.did a.sent None v w t u link (mids (suc n) link) (master_next steps (suc n) link) a.noted a.pushed stands
      (rw h.journal_is (tick_parts b done old.master dids frames n link a.did a.sent h.master answers at a.did_at a.sent_at))) in
      cycled b (Event event.Tick) done Tick old new late before after h refl follows offers
      (each_map (LinkIs cut (one_each (master_next steps) mids)) (LinkIs cut (pairs_by (steps ++ step.Script event.Tick ∷ []))) 1 b.links late ticked_masters.0
      (λ k link v p. record { stands = subst (λ (w : List Entry). LinkStands link v w) (sym (ticked link k steps)) p.stands; cut = p.cut }))
      (λ quiet.
      subst (λ (us : List Use). Trace us before after) (sym (tick_pushes b.links cut steps new.journal quiet))
      (trace_append (frames_pushed side.Master (slave_next steps) cut b.links) (frames_pushed side.Slave (master_next steps) cut b.links) before between after ticked_slaves.1 ticked_masters.1));
}

-- another application
pub app_goes : (old new : PlantView) (app : AppView) (t : ChannelTold) → multi.Follows old.master (ChangeApp app) new.master → OffersNoted new.master old.links new.links (old.journal ++ step.App ∷ []) new.journal
    → GoesOn old (Happen (App app) ∷ []) new t t
app_goes old new app t follows offers = record {
  fixed = offers.fixed;
  goes = λ b done h.
      let cut : ℕ → Bool = λ k. is_cut k done in
      let steps : List JournalStep = old.journal ++ step.App ∷ [] in
      cycled b (App app) done (ChangeApp app) old new old.links t t h refl follows offers
      (none_acted b.links cut old.journal steps old.links t h.links (λ k link from below. no_entry link k old.journal step.App refl)).are
      (λ quiet.
      subst (λ (us : List Use). Trace us t t) (sym (quiet_pushes b.links cut old.journal new.journal (λ at k link from below. quiet at k link ∙ ap (frames_of at) (no_entry link k old.journal step.App refl)))) refl);
}

-- the newest deed of a connection
newest_of : (m : Meant) (n : ℕ) (c : Connection) (x : Deed) (e : List Deed) (y : Deed) → numbered_connection n m ≡ Some c → c.deeds ≡ x ∷ e → newest_at n m ≡ Some y → x ≡ y
newest_of m n c x e y h k l = grind arith

-- the entry of the master has the parts that its call told
frame_parts : (b : Beginning) (done : List Act) (old : MultiView) (parcel : Parcel) (n place : ℕ) (frame : List ℕ) (did : Did) (sent : List ℕ) (terms : Option Terms) (link : LinkConf) (steps : List JournalStep) → IsOne (step.Pulled parcel) n side.Master (move.Deliver frame) → n ≡ suc place → slice_get b.links place ≡ Some link
    → call_of b (PullFrom (Some parcel)) ≡ Some (Deliver n frame)
    → StandsFor (settings b) b.app old (calls b done) → AnswersFrame old n frame did sent
    → option_map (λ (c : Connection). told_terms (setup c) c.deeds) (numbered_connection n (meant (settings b) b.app (Deliver n frame ∷ calls b done))) ≡ Some terms
    → journal b (PullFrom (Some parcel) ∷ done) ≡ steps ++ step.Pulled parcel ∷ []
    → HasAgeParts (next_of side.Master (move.Deliver frame) link (pair link n steps)) side.Master false frame did sent (watchdog_in terms)
frame_parts b done old parcel n place frame did sent terms link steps one e is call h answers told journal_is =
    let act : Act = PullFrom (Some parcel) in
    let x : Entry = next_of side.Master (move.Deliver frame) link (pair link n steps) in
    let c : Connection = master_with link (pair link (suc place) (journal b (act ∷ done))) in
    let grown : pair link n (steps ++ step.Pulled parcel ∷ []) ≡ x ∷ pair link n steps = pair_own link steps (step.Pulled parcel) n side.Master (move.Deliver frame) one in
    let deeds_are : c.deeds ≡ deed_in x ∷ deeds side.Master (pair link n steps) = search (rules, pair) in
    let m : Meant = meant (settings b) b.app (Deliver n frame ∷ calls b done) in
    let meant_is : masters b (act ∷ done) ≡ m = ap (λ (o : Option Call). meant (settings b) b.app (option_to_list o ++ calls b done)) call in
    let there : numbered_connection n m ≡ Some c = ap₂ numbered_connection e (sym meant_is) ∙ mastered b (act ∷ done) place link is in
    let same = newest_of m n c (deed_in x) (deeds side.Master (pair link n steps)) (record { what = move.Deliver frame; did = did; sent = sent }) there deeds_are (answers.answers (settings b) b.app (calls b done) h) in
    let told_so = told_by terms told_terms (numbered_connection n m) c there told ∙ ap (told_terms (OfMaster link.master)) deeds_are in
    record {
      parts = record { end_is = refl; came_is = refl; did_is = ap (λ (z : Deed). z.did) same; sent_is = ap (λ (z : Deed). z.sent) same };
      tick_is = refl;
      watchdog_is = whatever x.did.took (watchdog_in terms) (watchdog_in x.terms) (ap watchdog_in told_so);
    }

-- a parcel for the master of a connection
pub master_delivered : (old new : PlantView) (to : Place) (place : ℕ) (frame : List ℕ) (mid : List LinkView) (js : List JournalStep) (did : Did) (sent : List ℕ) (terms : Option Terms) (was is : LinkView) (before after : ChannelTold) → to.end ≡ side.Master
    → multi.Follows old.master (Deliver to.link frame) new.master → AnswersFrame old.master to.link frame did sent → ShowsAt new.master to.link terms (λ c. told_terms (setup c) c.deeds) → OffersNoted new.master old.links mid old.journal js
    → Placed mid to.link place was → IsNoted side.Master false frame did sent (watchdog_in terms) was is → Trace (sent_uses (place_of to.link side.Slave) sent was.cut) before after → new.links ≡ slice_set mid place is
    → new.journal ≡ js ++ step.Pulled (record { to = to; frame = frame }) ∷ [] → Delivers old (record { to = to; frame = frame }) new before after
master_delivered old new to place frame mid js did sent terms was is before after at follows answers told offers p noted pushed links journal = record {
  delivers = λ first pulled. record {
    fixed = ap fixed_in links ∙ fixed_set mid place was is p.at noted.notes.fixed ∙ offers.fixed;
    goes = λ b done h.
        let n : ℕ = to.link in
        let parcel : Parcel = record { to = to; frame = frame } in
        let act : Act = PullFrom (Some parcel) in
        let s : JournalStep = step.Pulled parcel in
        let call : Call = Deliver n frame in
        let cut : ℕ → Bool = λ k. is_cut k done in
        let offered : LinksAre b.links cut (pairs_by js) mid = subst (λ (z : List JournalStep). LinksAre b.links cut (pairs_by z) mid) (sym offers.steps) (offers.links b.links cut old.journal h.links) in
        let beside = each_at (LinkIs cut (pairs_by js)) 1 b.links mid place n was offered p.at (from_one n place p.number) in
        let found : link_at b.links n ≡ Some beside.link = subst (λ (k : ℕ). link_at b.links k ≡ Some beside.link) (sym p.number) beside.is in
        let calls_it : call_of b act ≡ Some call = rw at (ap (λ (o : Option LinkConf). delivery_call o side.Master n frame) found) in
        let one : IsOne s n side.Master (move.Deliver frame) = record { part = λ k. rw at refl } in
        let stands = follows.stands (settings b) b.app (calls b done) h.master in
        let offered_is = offers.offers_are (settings b) b.app (call ∷ calls b done) stands in
        let steps : new.journal ≡ old.journal ++ (offers.offers ++ s ∷ []) = journal ∙ ap (λ (z : List JournalStep). z ++ s ∷ []) offers.steps ∙ append_assoc old.journal offers.offers (s ∷ []) in
        let told_so = told.shows (settings b) b.app (call ∷ calls b done) stands in
        let grown = one_acted b.links cut old.journal js s n side.Master (move.Deliver frame) place mid was is before after
        (offers_quiet new.master old.links mid old.journal js (settings b) b.app (call ∷ calls b done) offers stands) offered p one noted.notes.cut
        (λ l there held.
        master_acts n false frame did sent (watchdog_in terms) was is before after l (pair l n js) (next_of side.Master (move.Deliver frame) l (pair l n js)) noted pushed held
        (frame_parts b done old.master parcel n place frame did sent terms l js one p.number there calls_it h.master answers told_so (ap₂ (λ (z os : List JournalStep). z ++ (os ++ s ∷ [])) (sym h.journal_is) (ap (λ (o : Option Call). offers_by b o done) calls_it ∙ sym offered_is) ∙ sym steps ∙ journal))) in
        act_done b act (Some call) done old new offers.offers first before after h calls_it offered_is steps stands (rw (links, journal) grown) (λ us t. (before, pulled, t));
  };
}
