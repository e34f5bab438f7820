use Rattle.image_file.proofs.Common.{heading_spans, list_any, overlap}
use Rattle.std.proofs.Common.{◌≡◌, drop}
use Rattle.image_file.proofs.header.shares.Given as goal

abbrev pub invariant-loop-slot : goal.invariant-loop-slot
invariant-loop-slot l = list_any (λ t. overlap (heading_spans t) l.own) (drop l.slot-index l.before) ≡ list_any (λ t. overlap (heading_spans t) l.own) l.before
