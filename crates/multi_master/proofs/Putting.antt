-- The answers of a cycle, put master by master.
use Rattle.multi_master.proofs.Common.{AllZip, Connection, IsWhere, MasterView, MayBePut, PutsAnswer, PutsEach, changed_from, event_on, is_offer, numbers_of, offer_at, connection_outputs, with_event, with_offer, with_offers}
use Rattle.std.proofs.Common.{◌≡◌, ℕ, zero, suc, List, [], ◌∷◌, ◌++◌, map, length, Bool, true, false, not, if◌then◌else◌, refl, sym, ap, ap₂, subst, ◌∙◌, arith, ◌+◌}
use Rattle.std.specs.Prelude.{nat_eq}
use Rattle.std.specs.Cmp.Lexicographic.{pointwise, same_text}
use Rattle.param_load.specs.declared.entry.Move.TheVariants as move

-- what is so of a connection and its master, and what a put keeps so, is so after an answer is put; it is told whether
-- the answer wasn't the offer
put-case : (R : Connection → MasterView → Type 0) (c : Connection) (old new : MasterView) (load : List ℕ) (b : Bool) → MayBePut (not b) old load new → R c old → (MayBePut true old load new → R (with_event (move.Put load) c) new)
    → R (if b then c else with_event (move.Put load) c) new
put-case R c old new load true p h f = subst (R c) (sym p) h
put-case R c old new load false p h f = f p

pub one_put : (R : Connection → MasterView → Type 0) (c : Connection) (old new : MasterView) (answer : List ℕ) (told : Bool) (p : PutsAnswer old answer new told) → p.shown ≡ offer_at c → R c old
    → (MayBePut true old answer new → R (with_event (move.Put answer) c) new) → R (with_offer answer c) new × (told ≡ not (is_offer answer c))
one_put R c old new answer told p e h f =
    let told_is : told ≡ not (is_offer answer c) = p.told_is ∙ ap (λ (shown : List ℕ). not (pointwise nat_eq shown answer)) e in
    (put-case R c old new answer (is_offer answer c) (subst (λ (b : Bool). MayBePut b old answer new) told_is p.put) h f, told_is)

told_more : (n : ℕ) (c : Connection) (cs : List Connection) (load : List ℕ) (loads : List (List ℕ)) (here : Bool) (told later : List ℕ) → told ≡ (if here then n ∷ later else later) → here ≡ not (is_offer load c)
    → later ≡ numbers_of (changed_from (suc n) cs loads) → told ≡ numbers_of (changed_from n (c ∷ cs) (load ∷ loads))
told_more n c cs load loads here told later h i j = grind arith

-- so at a master of which no frame is due
pub where_put : (c : Connection) (old new : MasterView) (answer : List ℕ) (told : Bool) → IsWhere c old → PutsAnswer old answer new told → IsWhere (with_offer answer c) new × (told ≡ not (is_offer answer c))
where_put c old new answer told h p = one_put IsWhere c old new answer told p (p.shows.shows c.settings c.deeds h) h (λ put. put.0.is_after c.settings c.deeds h)

-- the offer after it is the answer
put-offer : (c : Connection) (load : List ℕ) (b : Bool) → is_offer load c ≡ b → offer_at (if b then c else with_event (move.Put load) c) ≡ load
put-offer c load true h = same_text (offer_at c) load (sym h)
put-offer c load false h = refl

-- what is so of all connections and their masters is so after all answers are put; their offers are the answers then
pub all_put : (R : Connection → MasterView → Type 0) → ((c : Connection) (old new : MasterView) (answer : List ℕ) (told : Bool) → R c old → PutsAnswer old answer new told → R (with_offer answer c) new × (told ≡ not (is_offer answer c)))
    → (n : ℕ) (cs : List Connection) (before : List MasterView) (answers : List (List ℕ)) (after : List MasterView) (told : List ℕ) → AllZip R cs before → PutsEach n before answers after told
    → AllZip R (with_offers answers cs) after × (told ≡ numbers_of (changed_from n cs answers)) × (map offer_at (with_offers answers cs) ≡ answers)
all_put R one n [] [] [] [] told h p = (tt, p, refl)
all_put R one n (c ∷ cs) (old ∷ before) (answer ∷ answers) (new ∷ after) told h p =
    let here = one c old new answer p.0 h.0 p.2 in
    let rest = all_put R one (suc n) cs before answers after p.1 h.1 p.3 in
    ((here.0, rest.0), told_more n c cs answer answers p.0 told p.1 p.4 here.1 rest.1, ap₂ (λ (x : List ℕ) (xs : List (List ℕ)). x ∷ xs) (put-offer c answer (is_offer answer c) refl) rest.2)
all_put R one n [] [] _ _ told h p = absurd p
all_put R one n (c ∷ cs) (old ∷ before) _ _ told h p = absurd p
all_put R one n _ _ _ _ told h p = absurd h

-- one answer more is put
pub puts_more : (n k : ℕ) (before : List MasterView) (answers : List (List ℕ)) (after : List MasterView) (told : List ℕ) (old : MasterView) (answer : List ℕ) (new : MasterView) (here : Bool) → PutsEach n before answers after told
    → PutsAnswer old answer new here → k ≡ n + length before → PutsEach n (before ++ old ∷ []) (answers ++ answer ∷ []) (after ++ new ∷ []) (told ++ (if here then k ∷ [] else []))
puts_more n k [] [] [] told old answer new here h p e = let same : k ≡ n = omega arith in (here, [], p, refl, grind arith)
puts_more n k (m ∷ before) (load ∷ answers) (m' ∷ after) told old answer new here h p e =
    (h.0, h.1 ++ (if here then k ∷ [] else []), h.2, puts_more (suc n) k before answers after h.1 old answer new here h.3 p (omega arith), grind arith)
puts_more n k _ _ _ told old answer new here h p e = absurd h

-- what an answer leaves as it was at one connection stays at all
offers-keep : {X : Type 0} (f : Connection → X) → ((c : Connection) (load : List ℕ) → f (with_offer load c) ≡ f c) → (cs : List Connection) (loads : List (List ℕ)) → map f (with_offers loads cs) ≡ map f cs
offers-keep f h (c ∷ cs) (load ∷ loads) = rw (h c load, offers-keep f h cs loads) refl
offers-keep f h [] [] = refl
offers-keep f h _ _ = refl

pub all_settings_put : (cs : List Connection) (loads : List (List ℕ)) → map (λ c. c.settings) (with_offers loads cs) ≡ map (λ c. c.settings) cs
all_settings_put = offers-keep (λ c. c.settings) (λ c load. grind arith)

pub outputs_put : (c : Connection) (load : List ℕ) → connection_outputs (with_offer load c) ≡ connection_outputs c
outputs_put c load = grind arith

pub all_outputs_put : (cs : List Connection) (loads : List (List ℕ)) → map connection_outputs (with_offers loads cs) ≡ map connection_outputs cs
all_outputs_put = offers-keep connection_outputs outputs_put

-- answers that were put before a frame change nothing of what the frame brings
put-delivered : (c : Connection) (load bytes : List ℕ) (b : Bool) → connection_outputs (with_event (move.Deliver bytes) (if b then c else with_event (move.Put load) c)) ≡ connection_outputs (with_event (move.Deliver bytes) c)
put-delivered c load bytes true = refl
put-delivered c load bytes false = refl

pub outputs_delivered : (link : ℕ) (bytes : List ℕ) (cs : List Connection) (loads : List (List ℕ))
    → map connection_outputs (event_on link (move.Deliver bytes) (with_offers loads cs)) ≡ map connection_outputs (event_on link (move.Deliver bytes) cs)
outputs_delivered link bytes cs [] = refl
outputs_delivered zero bytes (c ∷ cs) (load ∷ loads) = all_outputs_put (c ∷ cs) (load ∷ loads)
outputs_delivered (suc zero) bytes (c ∷ cs) (load ∷ loads) = ap₂ (λ (x : List ℕ) (xs : List (List ℕ)). x ∷ xs) (put-delivered c load bytes (is_offer load c)) (all_outputs_put cs loads)
outputs_delivered (suc (suc place)) bytes (c ∷ cs) (load ∷ loads) = ap₂ (λ (x : List ℕ) (xs : List (List ℕ)). x ∷ xs) (outputs_put c load) (outputs_delivered (suc place) bytes cs loads)
outputs_delivered link bytes [] (load ∷ loads) = refl
