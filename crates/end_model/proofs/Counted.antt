-- The number of application parameters in an upload is that of the slave's rule.
use Rattle.end_model.proofs.Common.{AppRule, Profile, contents_fault, first, get_or_append_left, id_len, leb_tells, number_at}
use Rattle.std.proofs.Common.{◌≡◌, ℕ, ◌+◌, ◌≤◌, ◌<◌, List, ◌++◌, length, None, arith, rules}
use Rattle.param_load.specs.declared.contents.Expected.TheVariants as expected

pub stays : (u p : List ℕ) (k : ℕ) → k + 1 < length u → number_at k (u ++ p) ≡ number_at k u
stays u p k h = grind (arith, get_or_append_left u p 0 k (omega arith), get_or_append_left u p 0 (k + 1) h)

-- the number stays that of the rule where no test fails
pub joined_count : (most count : ℕ) (profile : Profile) (rule : AppRule) (u p rest : List ℕ) → (id_len profile + 4 ≤ length u → number_at (id_len profile + 2) u ≡ count)
    → contents_fault (expected.Parameter most count profile) rule (length u) (u ++ p) rest ≡ None
    → id_len profile + 4 ≤ length (u ++ p) → number_at (id_len profile + 2) (u ++ p) ≡ count
joined_count most count profile rule u p rest h k l = search (rules, leb_tells, stays, first)
