-- The numbers of frames that follow each other.
use Rattle.seq_chain.proofs.Common.{Link, crc_0, first_of, next, number_of, sealed}
use Rattle.std.proofs.Common.{◌≢◌, ℕ, ◌<◌, List, length, Option, Some, IfSome, arith, rules}
use Rattle.seq_chain.proofs.ToldApart.{number_told, first_group, first_alike}

next_other : (n : ℕ) → n ≢ next n
next_other n e = grind arith

pub next_within : (n : ℕ) → n < 65536 → (0 < next n) × (next n < 65536)
next_within n h = grind arith

pub one_step : (last conn n cmd : ℕ) (load : List ℕ) → n < 65536 → 0 < length load → crc_0 last conn n cmd load ≢ crc_0 last conn (next n) cmd load
one_step last conn n cmd load h some e =
    number_told last conn n (next n) cmd 0 (first_group load) h (next_within n h).1 (next_other n) (first_alike last last conn conn n (next n) cmd cmd load some e)

pub number_within : (last conn cmd : ℕ) (before : Option Link) (load : List ℕ) → IfSome before (λ link. link.number < 65536) → (0 < number_of last before conn cmd load) × (number_of last before conn cmd load < 65536)
number_within last conn cmd before load h = grind arith

pub after_link : (last conn cmd : ℕ) (link : Link) (load : List ℕ) → link.number < 65536 → 0 < length load → first_of (sealed last (Some link) conn cmd load).crcs ≢ link.crc
after_link last conn cmd link load h k = search (rules, one_step)
