-- A net over a list of calls.
use Rattle.fb_net.proofs.Common.{AllReady, BlockSpec, BlocksStand, Call, Called, IsNewNet, KeepsPlan, NetBlock, NetStands, NetView, all_outputs, all_restored, block_values, cycles_of, held_after, held_values, holds_of, net_block, net_holds, net_outputs, plan, rule_of, run_blocks, run_values, shown_values}
use Rattle.std.proofs.Common.{◌≡◌, ℕ, Bool, length, List, [], ◌∷◌, refl, sym, ap, subst, ◌∙◌}
use Rattle.std.proofs.lemmas.List.{length-map}
use Rattle.fb_net.proofs.Holding.{all_restored-back, plan_stays, values_back}
use Rattle.fb_net.proofs.Looking.{blocks_stand, shown_long, values_are}

pub stands : (first last : NetView) (e : List Call) (outputs : List (List (List ℕ))) → NetStands first [] → Called first e outputs last → NetStands last (cycles_of e)
stands first last [] [] new done = let P : NetView → Type 0 = λ v. NetStands v [] in subst P done new
stands first last (a ∷ e) (x ∷ outputs) new done = done.3.stands (cycles_of e) (stands first done.0 e outputs new done.1)
stands first last _ _ new done = absurd done

keeps-plan : (first last : NetView) (e : List Call) (outputs : List (List (List ℕ))) → Called first e outputs last → KeepsPlan first last
keeps-plan first last [] [] done = rw (← done) (record { plan = refl; drives = refl })
keeps-plan first last (a ∷ e) (x ∷ outputs) done =
    let k = keeps-plan first done.0 e outputs done.1 in
    record { plan = done.4.plan ∙ k.plan; drives = done.4.drives ∙ k.drives }
keeps-plan first last _ _ done = absurd done

pub outputs_are : (first last : NetView) (e : List Call) (outputs : List (List (List ℕ))) → NetStands first [] → Called first e outputs last
    → outputs ≡ all_outputs (plan first.blocks) first.drives e
outputs_are first last [] [] new done = refl
outputs_are first last (a ∷ e) (x ∷ outputs) new done =
    let k = keeps-plan first done.0 e outputs done.1 in
    rw (done.2.gives (cycles_of e) (stands first done.0 e outputs new done.1), outputs_are first done.0 e outputs new done.1, k.plan, k.drives) refl
outputs_are first last _ _ new done = absurd done

-- the blocks after calls
abbrev after : List BlockSpec → List Call → List BlockSpec
after bs [] = bs
after bs (a ∷ e) = run_blocks [] a.cycle (after bs e)

plan-after : (bs : List BlockSpec) (e : List Call) → plan (after bs e) ≡ plan bs
plan-after bs [] = refl
plan-after bs (a ∷ e) = plan_stays [] a.cycle (after bs e) ∙ plan-after bs e

ready-after : (bs : List BlockSpec) (e : List Call) → AllReady (plan bs) → AllReady (plan (after bs e))
ready-after bs e r = subst AllReady (sym (plan-after bs e)) r

stand-after : (bs : List BlockSpec) (e : List Call) → AllReady (plan bs) → BlocksStand (λ _. []) bs [] → BlocksStand (λ _. []) (after bs e) (cycles_of e)
stand-after bs [] r s = s
stand-after bs (a ∷ e) r s = blocks_stand (λ _. []) (after bs e) a.cycle (cycles_of e) (ready-after bs e r) (stand-after bs e r s)

-- the values after calls of a net
abbrev values-after : NetView → List Call → List Bool
values-after v [] = v.values
values-after v (a ∷ e) = run_values [] a.cycle (after v.blocks e)

restored-after : (v : NetView) (e : List Call) → IsNewNet v → all_restored (plan v.blocks) (holds_of (after v.blocks e) (values-after v e)) ≡ after v.blocks e
restored-after v e new =
    rw (← plan-after v.blocks e) (all_restored-back (λ _. []) (after v.blocks e) (values-after v e) (cycles_of e) (stand-after v.blocks e new.ready new.stands.blocks))

held-is : (v : NetView) (e : List Call) → IsNewNet v → held_after (rule_of v) (net_holds v) e ≡ holds_of (after v.blocks e) (values-after v e)
held-is v [] new = refl
held-is v (a ∷ e) new = rw (held-is v e new, restored-after v e new) refl

values-are : (v : NetView) (e : List Call) → IsNewNet v → values-after v e ≡ shown_values (plan v.blocks) (cycles_of e)
values-are v [] new = new.stands.values_are
values-are v (a ∷ e) new =
    values_are (λ _. []) (after v.blocks e) a.cycle (cycles_of e) (ready-after v.blocks e new.ready) (stand-after v.blocks e new.ready new.stands.blocks)
    ∙ ap (λ (ps : List NetBlock). block_values ps (a.cycle ∷ cycles_of e)) (plan-after v.blocks e)

pub rule_answers : (v : NetView) (a : Call) (e : List Call) → IsNewNet v
    → (rule_of v (held_after (rule_of v) (net_holds v) e) a.cycle.ticked a.cycle.inputs a.lens).outputs ≡ net_outputs v (a.cycle ∷ cycles_of e) a.lens
rule_answers v a e new = rw (held-is v e new, restored-after v e new, values-are v (a ∷ e) new) refl

pub rule_values : (v : NetView) (e : List Call) → IsNewNet v → held_values (held_after (rule_of v) (net_holds v) e) ≡ shown_values (plan v.blocks) (cycles_of e)
rule_values v e new =
    let are = values-are v e new in
    let long : length (values-after v e) ≡ length (after v.blocks e) =
    ap length are ∙ shown_long (plan v.blocks) (cycles_of e) ∙ ap length (sym (plan-after v.blocks e)) ∙ length-map (after v.blocks e) net_block
    in
    rw (held-is v e new) (values_back (after v.blocks e) (values-after v e) long ∙ are)
