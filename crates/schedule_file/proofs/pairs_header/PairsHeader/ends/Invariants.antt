use Rattle.schedule_file.proofs.Common.{heading_profile, length_of, own_length, pairs_of, profile_of}
use Rattle.std.proofs.Common.{◌≡◌, take, map, length}
use Rattle.schedule_file.proofs.pairs_header.PairsHeader.ends.Given as goal

abbrev pub invariant-loop-before : goal.invariant-loop-before
invariant-loop-before l = record {
  lengths : map length_of l.ends.lengths ≡ map own_length (take l.before (pairs_of l.self));
  profiles : map profile_of l.ends.profiles ≡ map heading_profile (take l.before (pairs_of l.self));
  many : length l.ends.lengths ≡ l.before;
  same : length l.ends.lengths ≡ length l.ends.profiles;
}
