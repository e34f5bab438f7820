-- When the parameters that a slave uploaded are whole.
use Rattle.end_model.proofs.Common.{Deed, IsRun, OfSlave, SlaveSettings, has_all, id_len, number_at, rule_len, whole}
use Rattle.std.proofs.Common.{◌≡◌, ℕ, ◌+◌, ◌≤◌, nat_le, Bool, List, length, Some, None, if◌then◌else◌, refl, arith}
use Rattle.fsoe_base.specs.declared.command.State.TheVariants as state
use Rattle.end_model.proofs.SlaveShown.{SlaveShows, parameters}
use Rattle.end_model.proofs.Shown.{slave-run}

-- a count of all bytes that reads as n, once it came, tells whether the parameters are whole
pub by_count : (v n said len : ℕ) (b : Bool) → nat_le (v + 4) len ≡ b → (v + 4 ≤ len → said ≡ n) → has_all (if b then Some (v + 4 + said) else None) len ≡ nat_le (v + 4 + n) len
by_count v n said len b h k = grind arith

pub whole_parameters : (ss : SlaveSettings) (e : List Deed) → IsRun (OfSlave ss) e → whole ss.profile state.Parameter (parameters ss e) ≡ nat_le (id_len ss.profile + 4 + rule_len ss.rule) (length (parameters ss e))
whole_parameters ss e r =
    let h : SlaveShows ss e = slave-run ss e r in
    by_count (id_len ss.profile) (rule_len ss.rule) (number_at (id_len ss.profile + 2) (parameters ss e)) (length (parameters ss e)) _ refl h.tested.counted
