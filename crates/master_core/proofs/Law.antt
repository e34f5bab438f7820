-- The law: a master that is after some deeds is, after an event, after these and the next one, and answers as that one
-- does.
use Rattle.master_core.proofs.Common.{Answers, Deed, Did, Follows, IsProper, IsRun, IsSetting, MasterIsAfter, MasterSettings, MasterView, Move, OfMaster, Phase, Shows, State, Terms, after, age, did_on, first_master, held, nothing, offer, out, outputs, set_deed, state_of, terms, told_in, told_terms, view_of}
use Rattle.std.proofs.Common.{◌≡◌, ℕ, List, [], Bool, Option, refl, sym, ap, subst, ◌∙◌, rules}
use Rattle.end_model.proofs.Shown.{looking_back, fail_safe}
use Rattle.master_core.specs.Phase as machine
use Rattle.master_core.proofs.Agrees.{Agrees, AreRead}
use Rattle.master_core.proofs.Agreed.{agrees, run-sound}

next : (ms : MasterSettings) (e : List Deed) (old : MasterView) (m : Move) → IsProper (OfMaster old.kit.settings) m → MasterIsAfter ms old e → Agrees ms e m (did_on (OfMaster ms) e m) (after (view_of ms e) m)
next ms e old m p h = agrees ms e m (run-sound ms e h.reached) (subst (λ (v : MasterView). IsProper (OfMaster v.kit.settings) m) h.is p)

pub follows_by : (old : MasterView) (m : Move) (new : MasterView) → IsProper (OfMaster old.kit.settings) m → AreRead m → new ≡ (after old m).master → Follows old m new
follows_by old m new p bytes n = record {
  is_after = λ ms e h.
      let a = next ms e old m p h in
      record {
        is = n ∙ ap (λ (v : MasterView). (after v m).master) h.is ∙ sym (a.view bytes);
        reached = (record { proper = subst (λ (v : MasterView). IsProper (OfMaster v.kit.settings) m) h.is p; stepped = refl }, h.reached);
      };
}

pub answers_by : (old : MasterView) (m : Move) (d : Did) (f : List ℕ) → IsProper (OfMaster old.kit.settings) m → d ≡ (after old m).did → f ≡ (after old m).sent → Answers old m d f
answers_by old m d f p i j = record {
  did = λ ms e h. let a = next ms e old m p h in i ∙ ap (λ (v : MasterView). (after v m).did) h.is ∙ sym a.did;
  sent = λ ms e h. let a = next ms e old m p h in j ∙ ap (λ (v : MasterView). (after v m).sent) h.is ∙ sym a.sent;
}

-- a new master is after no deed
pub new_is_after : (ms : MasterSettings) (v : MasterView) → v ≡ first_master ms → MasterIsAfter ms v []
new_is_after ms v h = record { is = h; reached = tt }

-- a put, a hold and a nonce do nothing else
pub set_answers : (old : MasterView) (m : Move) (d : Did) (f : List ℕ) → IsSetting m → d ≡ nothing → f ≡ [] → Answers old m d f
set_answers old m d f k i j = record {
  did = λ ms e h. i ∙ ap (λ (x : Deed). x.did) (set_deed (OfMaster ms) e m k);
  sent = λ ms e h. j ∙ ap (λ (x : Deed). x.sent) (set_deed (OfMaster ms) e m k);
}

-- what the readers show
abbrev ShownIn : State → MasterSettings → List Deed → Phase → Type 0
ShownIn p ms e x = (machine.state_of x ≡ p) × (machine.terms_in x ≡ told_in p (terms (OfMaster ms) e)) × (machine.outputs_in ms x ≡ outputs (OfMaster ms) e)

shown-after : (ms : MasterSettings) (e : List Deed) → IsRun (OfMaster ms) e → ShownIn (state_of (OfMaster ms) e) ms e (view_of ms e).state.phase
shown-after ms e h = search (rules, fail_safe)

pub state_shown : (v : MasterView) (shown : State) → shown ≡ machine.state_of v.state.phase → Shows v shown state_of
state_shown v shown i = record { shows = λ ms e h. i ∙ ap (λ (v : MasterView). machine.state_of v.state.phase) h.is ∙ (shown-after ms e h.reached).0 }

pub terms_shown : (v : MasterView) (shown : Option Terms) → shown ≡ machine.terms_in v.state.phase → Shows v shown told_terms
terms_shown v shown i = record { shows = λ ms e h. i ∙ ap (λ (v : MasterView). machine.terms_in v.state.phase) h.is ∙ (shown-after ms e h.reached).1 }

pub outputs_shown : (v : MasterView) (shown : List ℕ) → shown ≡ machine.outputs_in v.kit.settings v.state.phase → Shows v shown out
outputs_shown v shown i = record {
  shows = λ ms e h.
      i
      ∙ ap (λ (v : MasterView). machine.outputs_in v.kit.settings v.state.phase) h.is
      ∙ (shown-after ms e h.reached).2
      ∙ looking_back (OfMaster ms) e h.reached;
}

pub age_shown : (v : MasterView) (shown : ℕ) → shown ≡ v.timer.age → Shows v shown age
age_shown v shown i = record { shows = λ ms e h. i ∙ ap (λ (v : MasterView). v.timer.age) h.is }

pub offer_shown : (v : MasterView) (shown : List ℕ) → shown ≡ v.kit.offer.load → Shows v shown offer
offer_shown v shown i = record { shows = λ ms e h. i ∙ ap (λ (v : MasterView). v.kit.offer.load) h.is }

pub held_shown : (v : MasterView) (shown : Bool) → shown ≡ v.kit.offer.held → Shows v shown (λ s e. held e)
held_shown v shown i = record { shows = λ ms e h. i ∙ ap (λ (v : MasterView). v.kit.offer.held) h.is }
