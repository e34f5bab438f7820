use Rattle.fb_net.proofs.Common.{BlockSpec, BlocksStand, NetCycle, all_restored, bit_at, bits_on, driven_images, holds_of, net_holds, plan, run_values}
use Rattle.std.proofs.Common.{◌≡◌, Bool, ℕ, List, [], map, length, refl, ap, ap₂, ◌∙◌}
use Rattle.fb_net.proofs.Bits.{lengths_with}
use Rattle.fb_net.proofs.Guarding.{value_off}
use Rattle.fb_net.proofs.Holding.{all_restored-back, plan_stays}
use Rattle.fb_net.proofs.Looking.{values_are, blocks_stand}
use Rattle.fb_net.proofs.net.NetApplication.cycle.Goals as goal

pub returns : goal.returns
returns _ c =
    let ran = c.run.ensures in
    let old = c.args.self.now in
    let d : NetCycle = record { ticked = c.args.ticked; inputs = c.args.inputs.now } in
    let lens : List ℕ = map length c.args.outputs.now in
    let back : all_restored (plan old.blocks) (net_holds old) ≡ old.blocks = all_restored-back (λ _. []) old.blocks old.values ran.can_run.past ran.can_run.stands in
    let same : plan c.run.new.self.blocks ≡ plan old.blocks = ap (λ (bs : List BlockSpec). plan bs) ran.blocks ∙ plan_stays [] d old.blocks in
    let gives = λ (e : List NetCycle) (s : BlocksStand (λ _. []) old.blocks e).
    ran.outputs ∙ ap (λ (vs : List Bool). driven_images old.drives vs c.args.inputs.now lens) (values_are (λ _. []) old.blocks d e ran.can_run.ready s) in
    record {
      answers = rw back ran.outputs;
      holds = rw back (ap₂ holds_of ran.blocks ran.values);
      rule_stays = rw (same, ran.drives) refl;
      lengths = ap (λ (images : List (List ℕ)). map length images) ran.outputs ∙ lengths_with lens (bits_on old.drives (run_values [] d old.blocks) c.args.inputs.now);
      guarded = λ o i g zero_in.
          ap (λ (images : List (List ℕ)). bit_at images o) (gives ran.can_run.past ran.can_run.stands)
          ∙ value_off (plan old.blocks) old.drives d ran.can_run.past lens o i g zero_in;
      guards_stay = rw (same, ran.drives) refl;
      gives = record { gives = λ e s. gives e s.blocks };
      follows = record {
        stands = λ e s. record {
          blocks = rw ran.blocks (blocks_stand (λ _. []) old.blocks d e ran.can_run.ready s.blocks);
          values_are = rw same (ran.values ∙ values_are (λ _. []) old.blocks d e ran.can_run.ready s.blocks);
        };
      };
      keeps = record { plan = same; drives = ran.drives };
    }
