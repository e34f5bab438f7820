-- What a master shows while a frame is due is what it shows after the reply.
use Rattle.master_core.proofs.Common.{Deed, Delivery, KitView, MasterSettings, MasterView, Phase, Setup, Shows, ShowsDue, State, Terms, Waits, age, held, is_due, offer, out, replied, replies, reply, state_of, told_terms, view_of, with_delivery}
use Rattle.std.proofs.Common.{◌≡◌, ℕ, List, Bool, Option, IsTrue, refl, sym, ap, ◌∙◌, arith}
use Rattle.master_core.specs.declared.states.Due.{Due}
use Rattle.master_core.specs.Phase as machine
use Rattle.master_core.proofs.Accepting.{age_by, accepts_alike}
use Rattle.master_core.proofs.Law.{state_shown, terms_shown, outputs_shown, age_shown, offer_shown, held_shown}
use Rattle.master_core.proofs.Waiting.{replies_by}

-- what the master after the reply shows
shows-due : {X : Type 0} (v : MasterView) (shown : X) (word : Setup → List Deed → X) → Shows (replies v) shown word → ShowsDue v shown word
shows-due v shown word h = record {
  shows = λ d w. h.shows d.settings (with_delivery d) ((replies_by v (replies v) (reply v.kit v.state) refl refl).is_after d w);
}

-- the reply changes none of what the phase shows
abbrev ShowAlike : MasterSettings → Phase → Phase → Type 0
ShowAlike settings x y = (machine.state_of x ≡ machine.state_of y) × (machine.terms_in x ≡ machine.terms_in y) × (machine.outputs_in settings x ≡ machine.outputs_in settings y)

replied-alike : (kit : KitView) (p : Phase) (due : Option Due) → ShowAlike kit.settings (replied kit (record { phase = p; due = due })).phase p
replied-alike kit p due = grind arith

-- the readers
pub state_due : (v : MasterView) (shown : State) → shown ≡ machine.state_of v.state.phase → ShowsDue v shown state_of
state_due v shown i = shows-due v shown state_of (state_shown (replies v) shown (i ∙ sym (replied-alike v.kit v.state.phase v.state.due).0))

pub terms_due : (v : MasterView) (shown : Option Terms) → shown ≡ machine.terms_in v.state.phase → ShowsDue v shown told_terms
terms_due v shown i = shows-due v shown told_terms (terms_shown (replies v) shown (i ∙ sym (replied-alike v.kit v.state.phase v.state.due).1))

pub outputs_due : (v : MasterView) (shown : List ℕ) → shown ≡ machine.outputs_in v.kit.settings v.state.phase → ShowsDue v shown out
outputs_due v shown i = shows-due v shown out (outputs_shown (replies v) shown (i ∙ sym (replied-alike v.kit v.state.phase v.state.due).2))

pub age_due : (v : MasterView) (shown : ℕ) → shown ≡ v.timer.age → ShowsDue v shown age
age_due v shown i = shows-due v shown age (age_shown (replies v) shown i)

pub offer_due : (v : MasterView) (shown : List ℕ) → shown ≡ v.kit.offer.load → ShowsDue v shown offer
offer_due v shown i = shows-due v shown offer (offer_shown (replies v) shown i)

pub held_due : (v : MasterView) (shown : Bool) → shown ≡ v.kit.offer.held → ShowsDue v shown (λ s e. held e)
held_due v shown i = shows-due v shown (λ s e. held e) (held_shown (replies v) shown i)

-- while a frame is due the age is 0
pub age_zero : (v : MasterView) (shown : ℕ) → shown ≡ v.timer.age → (d : Delivery) → Waits v d → IsTrue (is_due v.state) → shown ≡ 0
age_zero v shown i d w k =
    let before : MasterView = view_of d.settings d.before in
    let start = age_by before _ _ _ (accepts_alike before before.kit.offer before.kit.nonce d.bytes) refl in
    i ∙ ap (λ (v : MasterView). v.timer.age) w.is ∙ start (sym (ap (λ (v : MasterView). is_due v.state) w.is) ∙ k)
