-- The law: a slave that is after some deeds is, after an event, after these and the next one, and answers as that one
-- does.
use Rattle.slave_core.proofs.Common.{Deed, Did, IsProper, IsRun, IsSetting, Move, Phase, OfSlave, SlaveSettings, SlaveView, State, Terms, after, age, did_on, events_of, fail_safe, first_slave, held, looking_back, nothing, offer, out, outputs, run, state_of, terms, told_in, told_terms, view_of}
use Rattle.std.proofs.Common.{◌≡◌, ℕ, List, [], ◌∷◌, Bool, Option, refl, sym, ap, subst, ◌∙◌, rules}
use Rattle.end_model.proofs.Runs.{same_deed, set_deed, run_of_events}
use Rattle.slave_core.specs.Phase as machine
use Rattle.slave_core.specs.Standing.{SlaveIsAfter, Follows, Answers, Shows, Called}
use Rattle.slave_core.proofs.Agrees.{Agrees, AreRead, same_slave, fresh_limit}
use Rattle.slave_core.proofs.Agreed.{agrees, run-sound}

next : (ss : SlaveSettings) (e : List Deed) (old : SlaveView) (m : Move) → IsProper (OfSlave old.kit.settings) m → SlaveIsAfter ss old e → Agrees ss e m (did_on (OfSlave ss) e m) (after (view_of ss e) m)
next ss e old m p h = agrees ss e m (run-sound ss e h.reached) h.reached (subst (λ (v : SlaveView). IsProper (OfSlave v.kit.settings) m) h.is p)

pub follows_by : (old : SlaveView) (m : Move) (new : SlaveView) → IsProper (OfSlave old.kit.settings) m → AreRead m → new ≡ (after old m).slave → Follows old m new
follows_by old m new p bytes n = record {
  is_after = λ ss e h.
      let a = next ss e old m p h in
      record {
        is = n ∙ ap (λ (v : SlaveView). (after v m).slave) h.is ∙ sym (a.view bytes);
        reached = (record { proper = subst (λ (v : SlaveView). IsProper (OfSlave v.kit.settings) m) h.is p; stepped = refl }, h.reached);
      };
}

pub answers_by : (old : SlaveView) (m : Move) (d : Did) (f : List ℕ) → IsProper (OfSlave old.kit.settings) m → d ≡ (after old m).did → f ≡ (after old m).sent → Answers old m d f
answers_by old m d f p i j = record {
  did = λ ss e h. let a = next ss e old m p h in i ∙ ap (λ (v : SlaveView). (after v m).did) h.is ∙ sym a.did;
  sent = λ ss e h. let a = next ss e old m p h in j ∙ ap (λ (v : SlaveView). (after v m).sent) h.is ∙ sym a.sent;
}

-- a new slave is after no deed
pub new_is_after : (ss : SlaveSettings) (v : SlaveView) → v ≡ first_slave ss → SlaveIsAfter ss v []
new_is_after ss v h = record { is = h ∙ same_slave _ _ _ _ _ _ _ _ refl refl (sym (fresh_limit ss)) refl; reached = tt }

-- what the readers show
abbrev ShownIn : State → SlaveSettings → List Deed → Phase → Type 0
ShownIn p ss e x = (machine.state_of x ≡ p) × (machine.terms_shown_in x ≡ told_in p (terms (OfSlave ss) e)) × (machine.outputs_in ss x ≡ outputs (OfSlave ss) e)

shown-after : (ss : SlaveSettings) (e : List Deed) → IsRun (OfSlave ss) e → ShownIn (state_of (OfSlave ss) e) ss e (view_of ss e).state
shown-after ss e h = search (rules, fail_safe)

pub state_shown : (v : SlaveView) (shown : State) → shown ≡ machine.state_of v.state → Shows v shown state_of
state_shown v shown i = record { shows = λ ss e h. i ∙ ap (λ (v : SlaveView). machine.state_of v.state) h.is ∙ (shown-after ss e h.reached).0 }

pub terms_shown : (v : SlaveView) (shown : Option Terms) → shown ≡ machine.terms_shown_in v.state → Shows v shown told_terms
terms_shown v shown i = record { shows = λ ss e h. i ∙ ap (λ (v : SlaveView). machine.terms_shown_in v.state) h.is ∙ (shown-after ss e h.reached).1 }

pub outputs_shown : (v : SlaveView) (shown : List ℕ) → shown ≡ machine.outputs_in v.kit.settings v.state → Shows v shown out
outputs_shown v shown i = record {
  shows = λ ss e h.
      i
      ∙ ap (λ (v : SlaveView). machine.outputs_in v.kit.settings v.state) h.is
      ∙ (shown-after ss e h.reached).2
      ∙ looking_back (OfSlave ss) e h.reached;
}

pub age_shown : (v : SlaveView) (shown : ℕ) → shown ≡ v.timer.age → Shows v shown age
age_shown v shown i = record { shows = λ ss e h. i ∙ ap (λ (v : SlaveView). v.timer.age) h.is }

pub offer_shown : (v : SlaveView) (shown : List ℕ) → shown ≡ v.kit.offer.load → Shows v shown offer
offer_shown v shown i = record { shows = λ ss e h. i ∙ ap (λ (v : SlaveView). v.kit.offer.load) h.is }

pub held_shown : (v : SlaveView) (shown : Bool) → shown ≡ v.kit.offer.held → Shows v shown (λ s e. held e)
held_shown v shown i = record { shows = λ ss e h. i ∙ ap (λ (v : SlaveView). v.kit.offer.held) h.is }

-- a put, a hold and a nonce do nothing else
pub set_answers : (old : SlaveView) (m : Move) (d : Did) (f : List ℕ) → IsSetting m → d ≡ nothing → f ≡ [] → Answers old m d f
set_answers old m d f k i j = record {
  did = λ ss e h. i ∙ ap (λ (x : Deed). x.did) (set_deed (OfSlave ss) e m k);
  sent = λ ss e h. j ∙ ap (λ (x : Deed). x.sent) (set_deed (OfSlave ss) e m k);
}

-- all calls of a slave
pub called_is_after : (ss : SlaveSettings) (first last : SlaveView) (e : List Deed) → SlaveIsAfter ss first [] → Called first e last → SlaveIsAfter ss last e
called_is_after ss first last [] h c = subst (λ (v : SlaveView). SlaveIsAfter ss v []) c h
called_is_after ss first last (x ∷ e) h c =
    let before : SlaveIsAfter ss c.0 e = called_is_after ss first c.0 e h c.1 in
    subst (λ (y : Deed). SlaveIsAfter ss last (y ∷ e))
    (sym (same_deed x.what x.did _ x.sent _ (c.3.did ss e before) (c.3.sent ss e before)))
    (c.2.is_after ss e before)

pub called_run : (ss : SlaveSettings) (first last : SlaveView) (e : List Deed) → SlaveIsAfter ss first [] → Called first e last → e ≡ run (OfSlave ss) (events_of e)
called_run ss first last e h c = run_of_events (OfSlave ss) e (called_is_after ss first last e h c).reached
