-- Acts in which one end of one connection does something, and no cycle is run.
use Rattle.plant_core.proofs.Common.{Act, Acted, Beginning, Call, Delivers, Done, End, Entry, Event, Fits, GoesOn, Happen, HasDone, IfSome, IsNoted, IsOne, IsSome, IsSomeAnd, JournalStep, LinkConf, LinkIs, LinkStands, LinkView, LinksAre, Move, MultiView, Nonce, OfSlave, Parcel, Placed, PlantEvent, PlantView, PullFrom, SlaveActs, StandsFor, ChannelTold, Trace, Use, all_pushes, append-nil, call_of, calls, delivery_call, each_none, each_one, eq-eqb, fixed_in, fixed_of, frames_of, is_cut, journal, Lengths, lengths_at, lengths_kept, link_at, next_of, no_entry, not_same, nothing, offers, offers_by, option_to_list, pair, pair_one, pair_other, pair_own, pairs_by, peer, place_of, pushes_each, pushes_of, sent_in, sent_uses, settings, slave_move, steps_of, uses_of, with_frame}
use Rattle.std.proofs.Common.{◌≡◌, ◌≢◌, ◌≤◌, ◌<◌, ◌+◌, ◌-◌, length, ℕ, suc, ◌==◌, Bool, false, List, [], ◌∷◌, ◌++◌, slice_get, slice_index_or, slice_set, Option, Some, None, if◌then◌else◌, refl, sym, ap, ap₂, subst, ◌∙◌, arith}
use Rattle.fsoe_base.specs.declared.command.End.TheVariants as side
use Rattle.param_load.specs.declared.entry.Move.TheVariants as move
use Rattle.end_model.specs.Runs.{IsProper}
use Rattle.multi_master.specs.Standing as multi
use Rattle.plant_model.specs.Pair.{is_tick_event}
use Rattle.plant_model.specs.declared.event.PlantEvent.TheVariants as event
use Rattle.plant_model.specs.declared.journal.JournalStep.TheVariants as step
use Rattle.black_channel.specs.declared.channel.Place.{Place}
use Rattle.plant_model.proofs.Proper.{allowed}
use Rattle.plant_core.proofs.Acting.{fixed_set, kept_fits, kept_placed}
use Rattle.plant_core.proofs.Linked.{master_acts}
use Rattle.plant_core.proofs.Linking.{from_one, each_at, each_from, each_map, each_set}

-- what a part of an act makes of the connections, and what is pushed then: the journal was `before`, and is `now`
pub record Grown (links : List LinkConf) (cut : ℕ → Bool) (before now : List JournalStep) (vs : List LinkView) (first last : ChannelTold) : Type 0 where
  pub are : LinksAre links cut (pairs_by now) vs
  pub pushed : Trace (all_pushes links cut before now) first last

-- one entry more at a connection
pub one_links : (links : List LinkConf) (cut : ℕ → Bool) (steps : List JournalStep) (s : JournalStep) (n : ℕ) (end : End) (what : Move) (place : ℕ) (vs : List LinkView) (old new : LinkView)
    → LinksAre links cut (pairs_by steps) vs → slice_get vs place ≡ Some old → n ≡ suc place → IsOne s n end what
    → ((link : LinkConf) → slice_get links place ≡ Some link → LinkStands link old (pair link n steps) → LinkStands link new (next_of end what link (pair link n steps) ∷ pair link n steps))
    → new.cut ≡ old.cut → LinksAre links cut (pairs_by (steps ++ s ∷ [])) (slice_set vs place new)
one_links links cut steps s n end what place vs old new h at e one f c =
    each_set (LinkIs cut (pairs_by steps)) (LinkIs cut (pairs_by (steps ++ s ∷ []))) 1 links vs place n old new h at (omega arith)
    (λ link is p. record { stands = subst (λ (w : List Entry). LinkStands link new w) (sym (pair_own link steps s n end what one)) (f link is p.stands); cut = c ∙ p.cut })
    (λ m link v other p. record { stands = subst (λ (w : List Entry). LinkStands link v w) (sym (pair_other link m steps s n end what one other)) p.stands; cut = p.cut })

-- the frame that an end sends in an entry of connection n
abbrev pub frame_in : End → ℕ → End → Move → List JournalStep → ℕ → LinkConf → List ℕ
frame_in at n end what steps k link = if n == k then sent_in at end (next_of end what link (pair link k steps)) else []

frames_if : (at end : End) (what : Move) (link : LinkConf) (w : List Entry) (b : Bool)
    → frames_of at (if b then next_of end what link w ∷ w else w) ≡ with_frame (if b then sent_in at end (next_of end what link w) else []) (frames_of at w)
frames_if at end what link w b = grind arith

pub one_frames : (at : End) (link : LinkConf) (k : ℕ) (steps : List JournalStep) (s : JournalStep) (n : ℕ) (end : End) (what : Move) → IsOne s n end what
    → frames_of at (pair link k (steps ++ s ∷ [])) ≡ with_frame (frame_in at n end what steps k link) (frames_of at (pair link k steps))
one_frames at link k steps s n end what one = ap (frames_of at) (pair_one link k steps s n end what one) ∙ frames_if at end what link (pair link k steps) (n == k)

-- nothing is pushed where no frames are new
pub quiet_pushes : (links : List LinkConf) (cut : ℕ → Bool) (before now : List JournalStep)
    → ((at : End) (k : ℕ) (link : LinkConf) → 1 ≤ k → k < 1 + length links → frames_of at (pair link k now) ≡ frames_of at (pair link k before)) → all_pushes links cut before now ≡ []
quiet_pushes links cut before now h =
    let none = λ (at : End). pushes_each at 1 links cut before now (λ k link. []) (h at) ∙ each_none (λ k link. []) 1 links (λ k link past. refl) in
    ap₂ (λ (xs ys : List Use). xs ++ ys) (none side.Slave) (none side.Master)

-- no connection has an entry more
pub none_acted : (links : List LinkConf) (cut : ℕ → Bool) (before now : List JournalStep) (vs : List LinkView) (t : ChannelTold) → LinksAre links cut (pairs_by before) vs
    → ((k : ℕ) (link : LinkConf) → 1 ≤ k → k < 1 + length links → pair link k now ≡ pair link k before) → Grown links cut before now vs t t
none_acted links cut before now vs t h same = record {
  are = each_from (LinkIs cut (pairs_by before)) (LinkIs cut (pairs_by now)) 1 links vs h
      (λ k link v from below p. record { stands = subst (λ (w : List Entry). LinkStands link v w) (sym (same k link from below)) p.stands; cut = p.cut });
  pushed = subst (λ (us : List Use). Trace us t t) (sym (quiet_pushes links cut before now (λ at k link from below. ap (frames_of at) (same k link from below)))) refl;
}

-- other connections send nothing
apart : (n k : ℕ) (at : End) (f : List ℕ) (c : Bool) → k ≢ n → sent_uses (place_of k (peer at)) (if n == k then f else []) c ≡ []
apart n k at f c h = ap (λ (b : Bool). sent_uses (place_of k (peer at)) (if b then f else []) c) (not_same n k (λ e. h (sym e)))

sent_once : (n : ℕ) (end : End) (x : Entry) (c : Bool) → sent_uses (place_of n side.Master) (sent_in side.Slave end x) c ++ sent_uses (place_of n side.Slave) (sent_in side.Master end x) c ≡ sent_uses (place_of n (peer end)) x.sent c
sent_once n side.Slave x c = append-nil (sent_uses (place_of n side.Master) x.sent c)
sent_once n side.Master x c = refl

-- what an end sends in the one entry of `end` at connection n is pushed: nothing, if it is the other end
own_pushes : (links : List LinkConf) (cut : ℕ → Bool) (before steps : List JournalStep) (s : JournalStep) (n : ℕ) (at end : End) (what : Move) (place : ℕ) (link : LinkConf)
    → ((k : ℕ) (l : LinkConf) → frames_of at (pair l k steps) ≡ frames_of at (pair l k before)) → IsOne s n end what → slice_get links place ≡ Some link → n ≡ suc place
    → pushes_of at 1 links cut before (steps ++ s ∷ []) ≡ sent_uses (place_of n (peer at)) (sent_in at end (next_of end what link (pair link n steps))) (cut n)
own_pushes links cut before steps s n at end what place link quiet one is e =
    pushes_each at 1 links cut before (steps ++ s ∷ []) (frame_in at n end what steps) (λ k l from below. one_frames at l k steps s n end what one ∙ ap (with_frame (frame_in at n end what steps k l)) (quiet k l))
    ∙ each_one (λ k l. sent_uses (place_of k (peer at)) (frame_in at n end what steps k l) (cut k)) 1 n place links link
    (λ k l other. apart n k at (sent_in at end (next_of end what l (pair l k steps))) (cut k) other) is (omega arith)
    ∙ ap (λ (b : Bool). sent_uses (place_of n (peer at)) (if b then sent_in at end (next_of end what link (pair link n steps)) else []) (cut n)) (eq-eqb n n refl)

-- the frame of the one entry is pushed
one_pushes : (links : List LinkConf) (cut : ℕ → Bool) (before steps : List JournalStep) (s : JournalStep) (n : ℕ) (end : End) (what : Move) (place : ℕ) (link : LinkConf)
    → ((at : End) (k : ℕ) (l : LinkConf) → frames_of at (pair l k steps) ≡ frames_of at (pair l k before)) → IsOne s n end what → slice_get links place ≡ Some link → n ≡ suc place
    → all_pushes links cut before (steps ++ s ∷ []) ≡ sent_uses (place_of n (peer end)) (next_of end what link (pair link n steps)).sent (cut n)
one_pushes links cut before steps s n end what place link quiet one is e =
    ap₂ (λ (xs ys : List Use). xs ++ ys) (own_pushes links cut before steps s n side.Slave end what place link (quiet side.Slave) one is e) (own_pushes links cut before steps s n side.Master end what place link (quiet side.Master) one is e)
    ∙ sent_once n end (next_of end what link (pair link n steps)) (cut n)

-- one connection has an entry more, after steps in which nothing was sent since `before`
pub one_acted : (links : List LinkConf) (cut : ℕ → Bool) (before steps : List JournalStep) (s : JournalStep) (n : ℕ) (end : End) (what : Move) (place : ℕ) (vs : List LinkView) (old new : LinkView) (first last : ChannelTold)
    → ((at : End) (k : ℕ) (l : LinkConf) → frames_of at (pair l k steps) ≡ frames_of at (pair l k before)) → LinksAre links cut (pairs_by steps) vs → Placed vs n place old → IsOne s n end what → new.cut ≡ old.cut
    → ((link : LinkConf) → slice_get links place ≡ Some link → LinkStands link old (pair link n steps) → Acted n (peer end) link (next_of end what link (pair link n steps)) (pair link n steps) old new first last)
    → Grown links cut before (steps ++ s ∷ []) (slice_set vs place new) first last
one_acted links cut before steps s n end what place vs old new first last quiet h p one c acts =
    let at = each_at (LinkIs cut (pairs_by steps)) 1 links vs place n old h p.at (from_one n place p.number) in
    let x : Entry = next_of end what at.link (pair at.link n steps) in
    record {
      are = one_links links cut steps s n end what place vs old new h p.at p.number one (λ link is stands. (acts link is stands).stands) c;
      pushed = subst (λ (us : List Use). Trace us first last)
          (sym (one_pushes links cut before steps s n end what place at.link quiet one at.is p.number ∙ ap (sent_uses (place_of n (peer end)) x.sent) (sym at.holds.cut)))
          (acts at.link at.is at.holds.stands).channel;
    }

-- a plant that had done some acts has done this one too
pub act_done : (b : Beginning) (act : Act) (call : Option Call) (done : List Act) (old new : PlantView) (changed : List JournalStep) (first before after : ChannelTold) → HasDone b old done → call_of b act ≡ call → changed ≡ offers_by b call done → new.journal ≡ old.journal ++ steps_of act changed
    → StandsFor (settings b) b.app new.master (option_to_list call ++ calls b done) → Grown b.links (λ k. is_cut k (act ∷ done)) old.journal new.journal new.links before after
    → ((us : List Use) → Trace us before after → Trace (uses_of b.seed act us) first after) → Done b done (act ∷ []) new first after
act_done b act call done old new changed first before after h call_is offers_are steps stands grown uses =
    let offered : changed ≡ offers b act done = offers_are ∙ ap (λ (o : Option Call). offers_by b o done) (sym call_is) in
    let journal_is : new.journal ≡ journal b (act ∷ done) = steps ∙ ap₂ (λ (js os : List JournalStep). js ++ steps_of act os) h.journal_is offered in
    record {
      has_done = record {
        master = subst (λ (o : Option Call). StandsFor (settings b) b.app new.master (option_to_list o ++ calls b done)) (sym call_is) stands;
        links = grown.are;
        journal_is = journal_is;
      };
      channel = uses (all_pushes b.links (λ k. is_cut k (act ∷ done)) (journal b done) (journal b (act ∷ done)))
          (subst (λ (us : List Use). Trace us before after) (ap₂ (all_pushes b.links (λ k. is_cut k (act ∷ done))) h.journal_is journal_is) grown.pushed);
    }

-- an act in which this happens to the slave of connection n
pub record IsAtSlave (b : Beginning) (act : Act) (s : JournalStep) (n : ℕ) (what : Move) : Type 0 where
  pub call : call_of b act ≡ None
  pub steps : steps_of act [] ≡ s ∷ []
  pub one : IsOne s n side.Slave what
  pub cuts : (k : ℕ) (done : List Act) → is_cut k (act ∷ done) ≡ is_cut k done

-- what such an act changes
pub record SlaveChange (old new : PlantView) (s : JournalStep) (n : ℕ) (what : Move) (before after : ChannelTold) : Type 0 where
  pub place : ℕ
  pub was : LinkView
  pub is : LinkView
  pub placed : Placed old.links n place was
  pub acts : SlaveActs n what was is before after
  pub master : new.master ≡ old.master
  pub links : new.links ≡ slice_set old.links place is
  pub journal : new.journal ≡ old.journal ++ s ∷ []

pub slave_goes : (old new : PlantView) (act : Act) (s : JournalStep) (n : ℕ) (what : Move) (first before after : ChannelTold) → ((b : Beginning) → IsAtSlave b act s n what) → SlaveChange old new s n what before after
    → ((b : Beginning) (us : List Use) → Trace us before after → Trace (uses_of b.seed act us) first after) → GoesOn old (act ∷ []) new first after
slave_goes old new act s n what first before after at c uses = record {
  fixed = ap fixed_in c.links ∙ fixed_set old.links c.place c.was c.is c.placed.at c.acts.notes.fixed;
  goes = λ b done h.
      let a = at b in
      let cut : ℕ → Bool = λ k. is_cut k (act ∷ done) in
      let links : LinksAre b.links cut (pairs_by old.journal) old.links =
      each_map (LinkIs (λ k. is_cut k done) (pairs_by old.journal)) (LinkIs cut (pairs_by old.journal)) 1 b.links old.links h.links (λ k link v p. record { stands = p.stands; cut = p.cut ∙ sym (a.cuts k done) }) in
      let grown = one_acted b.links cut old.journal old.journal s n side.Slave what c.place old.links c.was c.is before after (λ at k l. refl) links c.placed a.one c.acts.notes.cut (λ link is stands. c.acts.acts link (pair link n old.journal) stands) in
      act_done b act None done old new [] first before after h a.call refl (c.journal ∙ ap (λ (js : List JournalStep). old.journal ++ js) (sym a.steps))
      (subst (λ (m : MultiView). StandsFor (settings b) b.app m (calls b done)) (sym c.master) h.master)
      (rw (c.links, c.journal) grown) (uses b);
}

-- so is an event of the script that has this happen to a slave: its connection exists, it is proper for the slave
-- there, and no tick
pub record SlaveMoves (vs : List LinkView) (e : PlantEvent) (n : ℕ) (what : Move) : Type 0 where
  pub act : (b : Beginning) → IsAtSlave b (Happen (Event e)) (step.Script e) n what
  pub kept : IsSome (lengths_at (lengths_kept vs) n)
  pub proper : (place : ℕ) (v : LinkView) → Placed vs n place v → IsProper (OfSlave v.slave.kit.settings) what
  pub other : is_tick_event e ≡ false

is_some_of : (o : Option Lengths) (P : Lengths → Type 0) → IsSomeAnd o P → IsSome o
is_some_of (Some x) P h = refl
is_some_of None P h = absurd h

slave_moves : (vs : List LinkView) (e : PlantEvent) → Fits (lengths_kept vs) e → IfSome (slave_move e) (λ to. SlaveMoves vs e to.0 to.1)
slave_moves vs (event.Put link load) fits = record { act = λ b. record { call = refl; steps = refl; one = record { part = λ k. refl }; cuts = λ k done. refl }; kept = is_some_of (lengths_at (lengths_kept vs) link) _ fits; proper = λ place v p. kept_fits vs link place v (length load) p fits; other = refl }
slave_moves vs (event.Hold link failsafe) fits = record { act = λ b. record { call = refl; steps = refl; one = record { part = λ k. refl }; cuts = λ k done. refl }; kept = fits; proper = λ place v p. tt; other = refl }
slave_moves vs (event.Local link) fits = record { act = λ b. record { call = refl; steps = refl; one = record { part = λ k. refl }; cuts = λ k done. refl }; kept = fits; proper = λ place v p. tt; other = refl }
slave_moves vs (event.Nonce link side.Slave id) fits = record { act = λ b. record { call = refl; steps = refl; one = record { part = λ k. refl }; cuts = λ k done. refl }; kept = fits.0; proper = λ place v p. allowed v.slave.kit.settings.profile id fits.1; other = refl }
slave_moves vs _ fits = tt

pub slave_at : (vs : List LinkView) (count n from : ℕ) (v : LinkView) (e : PlantEvent) (what : Move) → slave_move e ≡ Some (n, what) → Fits (lengths_kept vs) e → count ≡ length vs → from ≡ n → v ≡ slice_index_or vs (from - 1) v
    → Placed vs n (from - 1) v × SlaveMoves vs e n what
slave_at vs count n from v e what is fits len at read =
    let moves = subst (λ (o : Option (ℕ × Move)). IfSome o (λ to. SlaveMoves vs e to.0 to.1)) is (slave_moves vs e fits) in
    (kept_placed vs count n from v moves.kept len at read, moves)

-- a parcel for a slave
delivery_to_slave : (o : Option LinkConf) (n : ℕ) (frame : List ℕ) → delivery_call o side.Slave n frame ≡ None
delivery_to_slave o n frame = grind arith

pub slave_delivered : (old new : PlantView) (to : Place) (frame : List ℕ) (before after : ChannelTold) → to.end ≡ side.Slave → SlaveChange old new (step.Pulled (record { to = to; frame = frame })) to.link (move.Deliver frame) before after
    → Delivers old (record { to = to; frame = frame }) new before after
slave_delivered old new to frame before after at c =
    let parcel : Parcel = record { to = to; frame = frame } in
    record {
      delivers = λ first pulled.
          slave_goes old new (PullFrom (Some parcel)) (step.Pulled parcel) to.link (move.Deliver frame) first before after
          (λ b. record { call = rw at (delivery_to_slave (link_at b.links to.link) to.link frame); steps = refl; one = record { part = λ k. rw at refl }; cuts = λ k done. refl }) c (λ b us t. (before, pulled, t));
    }

-- the session id of a master
pub master_nonce : (old new : PlantView) (n id place : ℕ) (was is : LinkView) (t : ChannelTold) → Placed old.links n place was → IsNoted side.Master false [] nothing [] None was is → multi.Follows old.master (Nonce n id) new.master → new.links ≡ slice_set old.links place is
    → new.journal ≡ old.journal ++ step.Script (event.Nonce n side.Master id) ∷ [] → GoesOn old (Happen (Event (event.Nonce n side.Master id)) ∷ []) new t t
master_nonce old new n id place was is t p noted follows links journal = record {
  fixed = ap fixed_in links ∙ fixed_set old.links place was is p.at noted.notes.fixed;
  goes = λ b done h.
      let act : Act = Happen (Event (event.Nonce n side.Master id)) in
      let grown = one_acted b.links (λ k. is_cut k done) old.journal old.journal (step.Script (event.Nonce n side.Master id)) n side.Master (move.Nonce id) place old.links was is t t (λ at k l. refl) h.links p (record { part = λ k. refl }) noted.notes.cut
      (λ link at stands.
      master_acts n false [] nothing [] None was is t t link (pair link n old.journal) (next_of side.Master (move.Nonce id) link (pair link n old.journal)) noted refl stands
      (record { parts = record { end_is = refl; came_is = refl; did_is = refl; sent_is = refl }; tick_is = refl; watchdog_is = tt })) in
      act_done b act (Some (Nonce n id)) done old new [] t t t h refl refl journal (follows.stands (settings b) b.app (calls b done) h.master) (rw (links, journal) grown) (λ us u. u);
}

same_stands : (link : LinkConf) (w : List Entry) (was is : LinkView) (cut : Bool) → is ≡ record was { cut = cut } → LinkStands link was w → LinkStands link is w
same_stands link w was is cut h k = grind arith

-- a connection is cut, or joined again
pub cut_event : (old new : PlantView) (n place : ℕ) (cut : Bool) (v is : LinkView) (t : ChannelTold) → Placed old.links n place v → is ≡ record v { cut = cut } → new.master ≡ old.master → new.links ≡ slice_set old.links place is
    → new.journal ≡ old.journal ++ step.Script (event.Cut n cut) ∷ [] → GoesOn old (Happen (Event (event.Cut n cut)) ∷ []) new t t
cut_event old new n place cut v is t p cut_is master links journal = record {
  fixed = ap fixed_in links ∙ fixed_set old.links place v is p.at (ap fixed_of cut_is);
  goes = λ b done h.
      let act : Act = Happen (Event (event.Cut n cut)) in
      let s : JournalStep = step.Script (event.Cut n cut) in
      let was : ℕ → Bool = λ k. is_cut k done in
      let now : ℕ → Bool = λ k. is_cut k (act ∷ done) in
      let steps : List JournalStep = old.journal in
      let are : LinksAre b.links now (pairs_by steps) (slice_set old.links place is) =
      each_set (LinkIs was (pairs_by steps)) (LinkIs now (pairs_by steps)) 1 b.links old.links place n v is h.links p.at (from_one n place p.number)
      (λ link at q.
      record {
        stands = same_stands link (pair link n steps) v is cut cut_is q.stands;
        cut = ap (λ (l : LinkView). l.cut) cut_is ∙ ap (λ (z : Bool). if z then cut else is_cut n done) (sym (eq-eqb n n refl));
      })
      (λ k link l other q. record { stands = q.stands; cut = q.cut ∙ ap (λ (z : Bool). if z then cut else is_cut k done) (sym (not_same n k (λ e. other (sym e)))) }) in
      let grown = none_acted b.links now steps (steps ++ s ∷ []) (slice_set old.links place is) t are (λ k link from below. no_entry link k steps s refl) in
      act_done b act None done old new [] t t t h refl refl journal (subst (λ (m : MultiView). StandsFor (settings b) b.app m (calls b done)) (sym master) h.master) (rw (links, journal) grown) (λ us u. u);
}
