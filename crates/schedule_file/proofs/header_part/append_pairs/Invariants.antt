use Rattle.schedule_file.proofs.Common.{Ranges, is_acceptable, ranges_with}
use Rattle.std.proofs.Common.{◌≡◌, ◌+◌, ◌*◌, ◌≤◌, length, drop, IsTrue}
use Rattle.schedule_file.proofs.header_part.append_pairs.Given as goal

abbrev pub invariant-loop-k : goal.invariant-loop-k
invariant-loop-k l = record {
  acceptable : IsTrue (is_acceptable (Ranges l.low l.high));
  same_length : length l.high ≡ length l.low;
  room : length l.low + l.count ≤ 512 + l.k;
  rest_to_come : ranges_with l.initial.low l.initial.high l.pairs ≡ ranges_with l.low l.high (drop (2 * l.k) l.pairs);
}
