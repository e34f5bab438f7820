-- The pulls of a tick, a plant's start, and how it goes on by a line of its script.
use Rattle.plant_core.proofs.Common.{Act, All-append, All-cons, All-nil, App, AppView, Beginning, Begins, BoundSpec, Call, ChangeApp, Delivers, DoesLine, EachLink, Entry, Event, Fits, GoesOn, Happen, HasDone, JournalStep, Lengths, LinkConf, LinkIs, LinkView, LinksAre, MultiView, OffersNoted, Parcel, PlantEvent, PlantView, PullFrom, Pulls, PullsParcel, Said, SlaveView, StandsFor, Start, Starts, ChannelTold, Trace, Use, all_pushes, append-nil, call_of, calls, changed, delivery_call, fixed_in, is_cut, journal, lengths_in, lengths_kept, link_at, links_made, offers, pair_other, pairs_by, pulls_after, settings, slice_get_past, uses_after, uses_of}
use Rattle.std.proofs.Common.{◌≡◌, ◌≢◌, ◌≤◌, ◌<◌, ◌⊎◌, ℕ, suc, ◌+◌, ◌-◌, ◌*◌, Bool, false, List, [], ◌∷◌, ◌++◌, map, All, length, Option, Some, None, refl, sym, ap, ap₂, subst, ◌∙◌, append_assoc, arith, rules}
use Rattle.param_load.specs.declared.entry.Move.TheVariants as move
use Rattle.multi_master.specs.Standing as multi
use Rattle.plant_model.specs.declared.event.PlantEvent.TheVariants as event
use Rattle.plant_model.specs.declared.journal.JournalStep.TheVariants as step
use Rattle.plant_model.specs.Past.{IsPast, SaidFits, said_in, with_line}
use Rattle.plant_model.specs.Pair.{is_tick_event}
use Rattle.plant_core.proofs.Acting.{trace_append}
use Rattle.plant_core.proofs.Made.{made_stand}
use Rattle.plant_model.proofs.Lines.{line_said}
use Rattle.plant_core.proofs.Linking.{each_count}
use Rattle.plant_core.proofs.Offering.{offers_send}
use Rattle.plant_core.proofs.OneDeed.{act_done, none_acted, quiet_pushes}

-- the uses of acts after others
pub more_uses : (b : Beginning) (more some done : List Act) → uses_after b (more ++ some) done ≡ uses_after b some done ++ uses_after b more (some ++ done)
more_uses b [] some done = sym (append-nil (uses_after b some done))
more_uses b (act ∷ more) some done =
    let own : List Act → List Use = λ z. uses_of b.seed act (all_pushes b.links (λ k. is_cut k (act ∷ z)) (journal b z) (journal b (act ∷ z))) in
    ap₂ (λ (us : List Use) (z : List Act). us ++ own z) (more_uses b more some done) (append_assoc more some done)
    ∙ append_assoc (uses_after b some done) (uses_after b more (some ++ done)) (own (more ++ (some ++ done)))

pub goes_on : (old mid new : PlantView) (some more : List Act) (first between last : ChannelTold) → GoesOn old some mid first between → GoesOn mid more new between last → GoesOn old (more ++ some) new first last
goes_on old mid new some more first between last g h = record {
  fixed = h.fixed ∙ g.fixed;
  goes = λ b done s.
      let one = g.goes b done s in
      let two = h.goes b (some ++ done) one.has_done in
      record {
        has_done = subst (λ (z : List Act). HasDone b new z) (sym (append_assoc more some done)) two.has_done;
        channel = subst (λ (us : List Use). Trace us first last) (sym (more_uses b more some done))
            (trace_append (uses_after b some done) (uses_after b more (some ++ done)) first between last one.channel two.channel);
      };
}

-- a pull that gives nothing
pub none_pulled : (v : PlantView) (before after : ChannelTold) → PullsParcel None before after → GoesOn v (PullFrom None ∷ []) v before after
none_pulled v before after p = record {
  fixed = refl;
  goes = λ b done h.
      act_done b (PullFrom None) None done v v [] before after after h refl refl (sym (append-nil v.journal)) h.master
      (none_acted b.links (λ k. is_cut k done) v.journal v.journal v.links after h.links (λ k link from below. refl)) (λ us t. (after, p, t));
}

-- a connection that doesn't exist
pub nowhere : (links : List LinkConf) (n : ℕ) → (n ≡ 0) ⊎ (length links < n) → link_at links n ≡ None
nowhere links n h = search (rules, slice_get_past)

not_within : (links : List LinkConf) (n k : ℕ) → (n ≡ 0) ⊎ (length links < n) → 1 ≤ k → k < 1 + length links → k ≢ n
not_within links n k h l m = grind arith

-- a parcel for a connection that doesn't exist is noted
pub nowhere_delivered : (old new : PlantView) (parcel : Parcel) (t : ChannelTold) → (parcel.to.link ≡ 0) ⊎ (length old.links < parcel.to.link) → new.master ≡ old.master → new.links ≡ old.links
    → new.journal ≡ old.journal ++ step.Pulled parcel ∷ [] → Delivers old parcel new t t
nowhere_delivered old new parcel t far same_master same_links written = record {
  delivers = λ first pulled. record {
    fixed = ap fixed_in same_links;
    goes = λ b done h.
        let act : Act = PullFrom (Some parcel) in
        let s : JournalStep = step.Pulled parcel in
        let n : ℕ = parcel.to.link in
        let steps : List JournalStep = old.journal in
        let count = each_count (LinkIs (λ k. is_cut k done) (pairs_by steps)) 1 b.links old.links h.links in
        let away : (n ≡ 0) ⊎ (length b.links < n) = subst (λ (m : ℕ). (n ≡ 0) ⊎ (m < n)) count far in
        let none : call_of b act ≡ None = ap (λ (o : Option LinkConf). delivery_call o parcel.to.end n parcel.frame) (nowhere b.links n away) in
        let grown = none_acted b.links (λ k. is_cut k done) steps (steps ++ s ∷ []) old.links t h.links
        (λ k link from below. pair_other link k steps s n parcel.to.end (move.Deliver parcel.frame) (record { part = λ j. refl }) (not_within b.links n k away from below)) in
        act_done b act None done old new [] first t t h none refl written
        (subst (λ (m : MultiView). StandsFor (settings b) b.app m (calls b done)) (sym same_master) h.master) (rw (same_links, written) grown) (λ us u. (t, pulled, u));
  };
}

pub none_gone : (v : PlantView) (t : ChannelTold) → Pulls 64 v v t t
none_gone v t = record { gifts = []; past = λ done h. h; goes = record { fixed = refl; goes = λ b done h. record { has_done = h; channel = refl } } }

pub one_pulled : (old mid new : PlantView) (left : ℕ) (parcel : Parcel) (first before between after : ChannelTold) → Pulls (suc left) old mid first before → PullsParcel (Some parcel) before between
    → Delivers mid parcel new between after → Pulls left old new first after
one_pulled old mid new left parcel first before between after g p d = record {
  gifts = Some parcel ∷ g.gifts;
  past = g.past;
  goes = goes_on old mid new (map PullFrom g.gifts) (PullFrom (Some parcel) ∷ []) first before after g.goes (d.delivers before p);
}

pub pulled_until : (old new : PlantView) (left : ℕ) (first before last : ChannelTold) → Pulls (suc left) old new first before → PullsParcel None before last → Pulls 0 old new first last
pulled_until old new left first before last g p = record {
  gifts = None ∷ g.gifts;
  past = λ done h. (refl, (left, g.past done h));
  goes = goes_on old new new (map PullFrom g.gifts) (PullFrom None ∷ []) first before last g.goes (none_pulled new before last p);
}

-- the lengths of the connections
pub lengths_are : (cut : ℕ → Bool) (done : ℕ → LinkConf → List Entry) (k : ℕ) (links : List LinkConf) (vs : List LinkView) → EachLink (LinkIs cut done) k links vs → map lengths_in links ≡ lengths_kept vs
lengths_are cut done k [] [] h = refl
lengths_are cut done k (link ∷ links) (v ∷ vs) h =
    ap₂ (λ (l : Lengths) (ls : List Lengths). l ∷ ls) (sym (ap (λ (s : SlaveView). s.kit.settings.lengths) h.0.stands.slave.is)) (lengths_are cut done (suc k) links vs h.1)
lengths_are cut done k _ _ h = absurd h

-- a plant goes on by a line that fits, and by its pulls
does_line : (old new : PlantView) (said : Said) (gifts : List (Option Parcel)) (before after : ChannelTold) → ((links : List LinkConf) → map lengths_in links ≡ lengths_kept old.links → SaidFits links said)
    → ((done : List Act) → IsPast 0 done → IsPast 0 (with_line said gifts done)) → GoesOn old (with_line said gifts []) new before after → DoesLine old said new before after
does_line old new said gifts before after fits past g = record {
  fixed = g.fixed;
  follows = record {
    plays = λ b done h.
        let d = g.goes b done h in
        let same = lengths_are (λ k. is_cut k done) (pairs_by old.journal) 1 b.links old.links h.links in
        record {
          gifts = gifts;
          has_done = subst (HasDone b new) (append_assoc (map PullFrom gifts) (Happen said ∷ []) done) d.has_done;
          may = λ m. record {
            past = past done m.past;
            fit = subst (All (SaidFits b.links)) (sym (line_said said gifts done))
                (All-append (SaidFits b.links) (said_in done) (said ∷ []) m.fit (All-cons (SaidFits b.links) said [] (fits b.links same) (All-nil (SaidFits b.links))));
          };
          channel = d.channel;
        };
  };
}

-- a tick, and then its pulls
pub tick_line : (old mid new : PlantView) (first between last : ChannelTold) → GoesOn old (Happen (Event event.Tick) ∷ []) mid first between → Pulls 0 mid new between last → DoesLine old (Event event.Tick) new first last
tick_line old mid new first between last g p =
    does_line old new (Event event.Tick) p.gifts first last (λ links same. tt) (λ done h. p.past (Happen (Event event.Tick) ∷ done) (refl, h))
    (goes_on old mid new (Happen (Event event.Tick) ∷ []) (map PullFrom p.gifts) first between last g p.goes)

-- another event, and another application
pub event_line : (old new : PlantView) (e : PlantEvent) (first last : ChannelTold) → Fits (lengths_kept old.links) e → is_tick_event e ≡ false → GoesOn old (Happen (Event e) ∷ []) new first last → DoesLine old (Event e) new first last
event_line old new e first last fits other g =
    does_line old new (Event e) [] first last (λ links same. subst (λ (ls : List Lengths). Fits ls e) (sym same) fits) (λ done h. (sym (ap pulls_after other), h)) g

pub app_line : (old new : PlantView) (app : AppView) (t : ChannelTold) → GoesOn old (Happen (App app) ∷ []) new t t → DoesLine old (App app) new t t
app_line old new app t g = does_line old new (App app) [] t t (λ links same. tt) (λ done h. (refl, h)) g

-- a plant starts, from what it is made of
pub starts : (b : Beginning) (old : MultiView) (new : PlantView) (bounds : List BoundSpec) (before after : ChannelTold) → StandsFor (settings b) b.app old [] → multi.Follows old (ChangeApp b.app) new.master
    → OffersNoted new.master (links_made 1 bounds b.links) new.links [] new.journal → Begins b.seed before after → Starts b new before after
starts b old new bounds before after made follows told begins =
    let calls : List Call = ChangeApp b.app ∷ [] in
    let stands = follows.stands (settings b) b.app [] made in
    let none : all_pushes b.links (λ k. false) [] (offers b Start []) ≡ [] =
    quiet_pushes b.links (λ k. false) [] (offers b Start []) (λ at k link from below. offers_send (changed (settings b) b.app calls) at link k []) in
    record {
      stands = record {
        may = record { past = refl; fit = All-nil (SaidFits b.links) };
        has_done = record {
          master = stands;
          links = subst (λ (js : List JournalStep). LinksAre b.links (λ k. false) (pairs_by js) new.links) (sym told.steps) (told.links b.links (λ k. false) [] (made_stand 1 bounds b.links));
          journal_is = told.steps ∙ told.offers_are (settings b) b.app calls stands;
        };
      };
      channel = (after, begins, subst (λ (us : List Use). Trace us after after) (sym none) refl);
    }

-- room for a pull, and for the rest of the pulls
pub one_room : (counter len cap n : ℕ) → counter < 64 → len + (64 - counter) * (n + 1) ≤ cap → len + 1 + n ≤ cap
one_room counter len cap n h k = grind arith

pub pull_room : (counter len later cap roomy n same : ℕ) → counter < 64 → len + (64 - counter) * (n + 1) ≤ cap → later ≤ len + 1 + n → cap ≤ roomy → same ≡ n → later + (64 - (counter + 1)) * (same + 1) ≤ roomy
pull_room counter len later cap roomy n same h k l m o = grind arith
