use Rattle.std.proofs.Common.{refl}
use Rattle.plant_run.proofs.Waiting.{line_shown}
use Rattle.plant_run.proofs.machine.write_link.Goals as goal

pub returns : goal.returns
returns g c =
    line_shown _ c.args.link _ _ _ _ c.push_str.new.self c.master_state.ensures c.master_outputs.ensures.shown c.slave_state.ensures c.slave_outputs.ensures.shown
    (rw (c.push_str.ensures, c.push_end-2.ensures.text, c.push_end.ensures.text, c.push_small.ensures.text, c.clear.ensures) refl)
