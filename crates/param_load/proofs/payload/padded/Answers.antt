use Rattle.std.proofs.Common.{ℕ, ◌-◌, ◌≤◌, length, arith}
use Rattle.std.proofs.lemmas.List.{take-replicate}
use Rattle.param_load.proofs.payload.padded.Goals as goal

pub returns-clause-value : goal.returns-clause-value
returns-clause-value c =
    let room : c.args.len - length c.args.piece.now ≤ 126 = omega arith in
    rw (c.push_all-2.ensures, c.push_all.ensures, c.new-load.ensures, take-replicate {X = ℕ} _ 126 0 room)
