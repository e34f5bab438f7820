-- The least of numbers, one number after another; and whether pairs have room for an entry more.
use Rattle.duo_run.proofs.Common.{None, Option, PairsEvent, Some, entries_by, least, less_of, nat_le}
use Rattle.schedule_file.specs.PairsInput.{entries_of}
use Rattle.std.proofs.Common.{◌≡◌, ◌≤◌, ◌<◌, ◌+◌, ℕ, List, [], ◌∷◌, ◌++◌, length, take, slice_get, arith, ap, ◌∙◌, add-one, rules}
use Rattle.duo_run.proofs.Pairs.Ticking.{taken}

less-none : (a : Option ℕ) → less_of a None ≡ a
less-none a = grind arith

less-three : (a b c : Option ℕ) → less_of a (less_of b c) ≡ less_of (less_of a b) c
less-three a b c = grind arith

least-push : (numbers : List (Option ℕ)) (n : Option ℕ) → least (numbers ++ n ∷ []) ≡ less_of (least numbers) n
least-push [] n = less-none n
least-push (m ∷ numbers) n = ap (less_of m) (least-push numbers n) ∙ less-three m (least numbers) n

pub least_more : (numbers : List (Option ℕ)) (i : ℕ) (n : Option ℕ) → slice_get numbers i ≡ Some n → least (take (i + 1) numbers) ≡ less_of (least (take i numbers)) n
least_more numbers i n at = ap (λ (k : ℕ). least (take k numbers)) (add-one i) ∙ ap least (taken numbers i n at) ∙ least-push (take i numbers) n

-- each event makes an entry
by_least : (n : ℕ) (event : PairsEvent) → 0 < n → 1 ≤ entries_by n event
by_least n event h = grind arith

entries_least : (n : ℕ) (log : List PairsEvent) → 0 < n → length log ≤ entries_of n log
entries_least n [] some = omega arith
entries_least n (event ∷ log) some = let a = entries_least n log some in let b = by_least n event some in omega (arith, a, b)

-- where fewer entries were made than there may be, so were events
pub room_for_one : (n made events : ℕ) (log : List PairsEvent) → 0 < n → made ≡ entries_of n log → length log ≡ events → made < 200000 → nat_le 200000 events ≡ nat_le 200000 (entries_of n log)
room_for_one n made events log h k l m = search (rules, entries_least)
