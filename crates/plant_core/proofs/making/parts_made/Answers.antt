use Rattle.plant_core.proofs.Made.{made_all, made_next}
use Rattle.plant_core.proofs.making.parts_made.Goals as goal
use Rattle.std.proofs.Common.{ap, map, ◌∙◌, arith}
use Rattle.std.proofs.lemmas.Grind.{common_steps}
use Rattle.std.proofs.lemmas.List.{take_all}
use Rattle.plant_conf.specs.declared.conf.LinkConf.{LinkConf}

pub loop-i-preserved : goal.loop-i-preserved
loop-i-preserved c = record {
  settings = grind (arith, common_steps);
  links = made_next _ c.args.confs.now c.loop-i.i _ _ _ _ _ _ c.loop-i.invariant.links c.index-confs-i.is c.loop-i-test.true c.is_named-aged.ensures c.new.ensures c.push_reserved-in-loop-i.ensures.items;
  places = grind (arith, common_steps);
  others = grind (arith, common_steps);
}

pub returns : goal.returns
returns c = record {
  settings_are = c.loop-i.invariant.settings ∙ ap (map (λ (link : LinkConf). link.master)) (take_all c.loop-i.i c.args.confs.now c.loop-i-test.false);
  links_are = made_all _ c.args.confs.now c.loop-i.i _ _ c.loop-i.invariant.links c.loop-i-test.false;
  dids_fit = omega (arith, c.in_ok-resize_with.ensures.len);
  outs_fit = omega (arith, c.in_ok-resize_with-2.ensures.len);
}
