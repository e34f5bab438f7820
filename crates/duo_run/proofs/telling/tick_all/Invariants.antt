use Rattle.std.proofs.Common.{◌≤◌, ◌+◌, ◌*◌, length}
use Rattle.duo_run.proofs.Pairs.Ticking.{TickedTo}
use Rattle.duo_run.proofs.telling.tick_all.Given as goal

abbrev pub invariant-loop-i : goal.invariant-loop-i
invariant-loop-i l = record {
  so_far : TickedTo l.fn.at l.number l.i l.initial.duos l.fn.telling.waiting.text l.duos l.waiting.text;
  room : length l.waiting.text ≤ length l.fn.telling.waiting.text + 1024 * l.i;
}
