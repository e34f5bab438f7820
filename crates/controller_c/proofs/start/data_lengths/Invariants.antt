use Rattle.std.proofs.Common.{◌≡◌, map, take}
use Rattle.multi_master.specs.Standing.{settings_of}
use Rattle.controller_c.proofs.start.data_lengths.Given as goal

abbrev pub invariant-loop-place : goal.invariant-loop-place
invariant-loop-place l =
    (l.lengths.inputs.items ≡ map (λ s. s.lengths.slave) (take l.place (settings_of l.multi)))
    × (l.lengths.outputs.items ≡ map (λ s. s.lengths.master) (take l.place (settings_of l.multi)))
