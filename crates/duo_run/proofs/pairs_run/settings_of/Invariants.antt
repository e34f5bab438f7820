use Rattle.duo_run.proofs.Common.{pairs_of}
use Rattle.std.proofs.Common.{◌≡◌, take, vec_len}
use Rattle.duo_run.proofs.Pairs.Begun.{AreSettings}
use Rattle.duo_run.proofs.pairs_run.settings_of.Given as goal

abbrev pub invariant-loop-before : goal.invariant-loop-before
invariant-loop-before l = record {
  set : AreSettings (take l.before (pairs_of l.header)) l.settings.items;
  many : vec_len l.settings ≡ l.before;
}
