-- The offers that a cycle changed, in the journal and at their connections.
use Rattle.plant_core.proofs.Common.{AllSound, AppView, Call, Connection, End, Entry, IfSome, IsNoted, IsOne, IsSound, JournalStep, LinkConf, LinkView, LinksAre, Meant, MultiView, OffersNoted, ShowsAt, ShowsChanged, StandsFor, changed, changed_by, changed_from, numbered_connection, fixed_in, frames_of, get_or_from_slice_get, is_offer, map-append, meant, next_of, nothing, numbers_of, offer_at, offer_step, option_map_or, pair, pairs_by, slice_get-map, slice_get_within, take_all, take_more}
use Rattle.std.proofs.Common.{◌≡◌, ◌≤◌, ℕ, suc, ◌+◌, ◌==◌, Bool, true, false, List, [], ◌∷◌, ◌++◌, map, take, length, slice_get, slice_set, Option, Some, None, option_map, if◌then◌else◌, refl, sym, ap, ap₂, subst, ◌∙◌, append_assoc, arith, rules}
use Rattle.fsoe_base.specs.declared.command.End.TheVariants as side
use Rattle.failsafe_io.specs.Application.{Answer}
use Rattle.param_load.specs.declared.entry.Move.TheVariants as move
use Rattle.param_load.specs.declared.master_settings.MasterSettings.{MasterSettings}
use Rattle.exchange_model.specs.World.{world_after}
use Rattle.plant_model.specs.declared.journal.JournalStep.TheVariants as step
use Rattle.plant_core.proofs.Linked.{master_stands}
use Rattle.plant_model.proofs.Growing.{Keeps, event_for, steps_keep}
use Rattle.plant_model.proofs.Lines.{each_listed}
use Rattle.plant_core.proofs.OneDeed.{one_links}

-- what a connection offers, as a step
abbrev pub shown_step : Meant → ℕ → JournalStep
shown_step m k = step.Offer k (option_map_or offer_at (numbered_connection k m) [])

-- the offers of these connections are noted
pub record OffersOf (master : MultiView) (listed : List ℕ) (old new : List LinkView) (before after : List JournalStep) : Type 0 where
  pub offers : List JournalStep
  pub steps : after ≡ before ++ offers
  pub offers_are : (settings : List MasterSettings) (app : AppView) (calls : List Call) → StandsFor settings app master calls → offers ≡ map (shown_step (meant settings app calls)) listed
  pub links : (links : List LinkConf) (cut : ℕ → Bool) (steps : List JournalStep) → LinksAre links cut (pairs_by steps) old → LinksAre links cut (pairs_by (steps ++ offers)) new

shown_or : (o : Option Connection) (shown : List ℕ) → option_map offer_at o ≡ Some shown → option_map_or offer_at o [] ≡ shown
shown_or o shown h = grind arith

-- one more of a list
take_next : {X : Type 0} (xs : List X) (i : ℕ) (x : X) → slice_get xs i ≡ Some x → take (i + 1) xs ≡ take i xs ++ x ∷ []
take_next xs i x at = take_more xs i x (slice_get_within xs i x at) ∙ ap (λ z. take i xs ++ z ∷ []) (get_or_from_slice_get xs i x x at)

pub offers_next : (master : MultiView) (listed : List ℕ) (i n place : ℕ) (shown load : List ℕ) (old mid : List LinkView) (v is : LinkView) (before js after : List JournalStep) → OffersOf master (take i listed) old mid before js
    → slice_get listed i ≡ Some n → slice_get mid place ≡ Some v → n ≡ suc place → IsNoted side.Master false [] nothing [] None v is → ShowsAt master n shown offer_at → load ≡ shown → after ≡ js ++ step.Offer n load ∷ []
    → OffersOf master (take (i + 1) listed) old (slice_set mid place is) before after
offers_next master listed i n place shown load old mid v is before js after h found at e noted shows same a =
    let x : JournalStep = step.Offer n load in
    let one : IsOne x n side.Master (move.Put load) = record { part = λ k. refl } in
    record {
      offers = h.offers ++ x ∷ [];
      steps = a ∙ ap (λ (z : List JournalStep). z ++ x ∷ []) h.steps ∙ append_assoc before h.offers (x ∷ []);
      offers_are = λ settings app calls s.
          let m : Meant = meant settings app calls in
          let offered : option_map_or offer_at (numbered_connection n m) [] ≡ load = shown_or (numbered_connection n m) shown (shows.shows settings app calls s) ∙ sym same in
          ap₂ (λ (xs : List JournalStep) (l : List ℕ). xs ++ step.Offer n l ∷ []) (h.offers_are settings app calls s) (sym offered) ∙ sym (map-append (shown_step m) (take i listed) (n ∷ [])) ∙ ap (map (shown_step m)) (sym (take_next listed i n found));
      links = λ links cut steps s.
          subst (λ (z : List JournalStep). LinksAre links cut (pairs_by z) (slice_set mid place is)) (append_assoc steps h.offers (x ∷ []))
          (one_links links cut (steps ++ h.offers) x n side.Master (move.Put load) place mid v is (h.links links cut steps s) at e one
          (λ link at_link stands.
          master_stands false [] nothing [] None v is link (pair link n (steps ++ h.offers)) (next_of side.Master (move.Put load) link (pair link n (steps ++ h.offers))) noted stands
          (record { parts = record { end_is = refl; came_is = refl; did_is = refl; sent_is = refl }; tick_is = refl; watchdog_is = tt })) noted.notes.cut);
    }

-- the offers that a call changed are what their connections offer after it
shown_at : (m : Meant) (loads : List (List ℕ)) (place k : ℕ) (load : List ℕ) → map offer_at m.connections ≡ loads → k ≡ suc place → slice_get loads place ≡ Some load → shown_step m k ≡ step.Offer k load
shown_at m loads place k load a e is =
    let there = sym (slice_get-map offer_at m.connections place) ∙ ap (λ (xs : List (List ℕ)). slice_get xs place) a ∙ is in
    ap (shown_step m) e ∙ ap₂ (λ (j : ℕ) (l : List ℕ). step.Offer j l) (sym e) (shown_or (slice_get m.connections place) load there)

one_shown : (m : Meant) (n : ℕ) (load : List ℕ) (b : Bool) (rest : List (ℕ × List ℕ)) → shown_step m n ≡ step.Offer n load → map (shown_step m) (numbers_of rest) ≡ map offer_step rest
    → map (shown_step m) (numbers_of (if b then rest else (n, load) ∷ rest)) ≡ map offer_step (if b then rest else (n, load) ∷ rest)
one_shown m n load b rest h k = grind arith

all_shown : (m : Meant) (n : ℕ) (cs : List Connection) (loads : List (List ℕ)) → ((place k : ℕ) (load : List ℕ) → k ≡ n + place → slice_get loads place ≡ Some load → shown_step m k ≡ step.Offer k load)
    → map (shown_step m) (numbers_of (changed_from n cs loads)) ≡ map offer_step (changed_from n cs loads)
all_shown m n (c ∷ cs) (load ∷ loads) f =
    one_shown m n load (is_offer load c) (changed_from (suc n) cs loads) (f 0 n load (omega arith) refl) (all_shown m (suc n) cs loads (λ place k l e is. f (suc place) k l (omega arith) is))
all_shown m n _ _ f = refl

cycle_shown : (m : Meant) (o : Option Answer) (cs : List Connection) → IfSome o (IsSound m) → map (shown_step m) (numbers_of (changed_by o cs)) ≡ map offer_step (changed_by o cs)
cycle_shown m o cs h = search (rules, all_shown, shown_at)

changed_shown : (settings : List MasterSettings) (app : AppView) (calls : List Call) → AllSound settings app calls → map (shown_step (meant settings app calls)) (numbers_of (changed settings app calls)) ≡ map offer_step (changed settings app calls)
changed_shown settings app calls h = search (rules, cycle_shown)

pub offers_all : (master : MultiView) (listed : List ℕ) (i : ℕ) (old new : List LinkView) (before after : List JournalStep) → length listed ≤ i → ShowsChanged master listed → fixed_in new ≡ fixed_in old → OffersOf master (take i listed) old new before after
    → OffersNoted master old new before after
offers_all master listed i old new before after past shows fixed h = record {
  offers = h.offers;
  fixed = fixed;
  steps = h.steps;
  offers_are = λ settings app calls s.
      h.offers_are settings app calls s ∙ ap (map (shown_step (meant settings app calls))) (take_all i listed past ∙ shows.shows settings app calls s) ∙ changed_shown settings app calls s.sound;
  links = h.links;
}

-- offers send nothing
put_sends : (at : End) (link : LinkConf) (load : List ℕ) (w : List Entry) (mine : Bool) → frames_of at (world_after link.master link.slave (if mine then event_for side.Master (move.Put load) ∷ [] else []) w) ≡ frames_of at w
put_sends side.Master link load w true = refl
put_sends side.Slave link load w true = refl
put_sends at link load w false = refl

pub offers_send : (listed : List (ℕ × List ℕ)) (at : End) (link : LinkConf) (k : ℕ) (steps : List JournalStep) → frames_of at (pair link k (steps ++ map offer_step listed)) ≡ frames_of at (pair link k steps)
offers_send listed at link k steps = steps_keep (frames_of at) link k steps (map offer_step listed) (each_listed (Keeps (frames_of at) link k) (λ x w. put_sends at link x.1 w (x.0 == k)) listed)

-- so noted offers send nothing
pub offers_quiet : (master : MultiView) (old new : List LinkView) (before now : List JournalStep) (settings : List MasterSettings) (app : AppView) (calls : List Call) → OffersNoted master old new before now → StandsFor settings app master calls
    → (at : End) (k : ℕ) (link : LinkConf) → frames_of at (pair link k now) ≡ frames_of at (pair link k before)
offers_quiet master old new before now settings app calls c s at k link =
    ap (λ (z : List JournalStep). frames_of at (pair link k z)) (c.steps ∙ ap (λ (os : List JournalStep). before ++ os) (c.offers_are settings app calls s)) ∙ offers_send (changed settings app calls) at link k before
