-- What a reaction keeps says what looking back says.
use Rattle.reaction_bound.proofs.Common.{first_of_both}
use Rattle.std.proofs.Common.{◌≡◌, ◌≤◌, ℕ, suc, ◌-◌, Bool, true, false, ◌&&◌, ◌||◌, nat_le, List, ◌∷◌, Option, Some, refl, sym, ap, ◌∙◌, arith, rules}
use Rattle.reaction_bound.specs.Reaction.{Heard, Quiet, Tick, heard_ticks, quiet_for, is_late_tick, broken_of}
use Rattle.reaction_bound.specs.Kept.{first_of, quiet_from, is_long}

-- the ticks before the stop was quiet are among those that were heard
first_within : (since : Option ℕ) (n from : ℕ) → ((k : ℕ) → since ≡ Some k → k ≤ n) → Some (first_of since n) ≡ Some from → from ≤ n
first_within since n from h l = grind arith

from_within : (heard : List Heard) (from : ℕ) → quiet_from heard ≡ Some from → from ≤ heard_ticks heard
from_within (Quiet true ∷ heard) from is = first_within (quiet_from heard) (heard_ticks heard) from (from_within heard) is
from_within (Tick on ∷ heard) from is = let within = from_within heard from is in omega (arith, within)
from_within _ from is = absurd (cc is)

quiet_long : (n number : ℕ) (since : Option ℕ) (before : Bool) → before ≡ is_long n number since → (nat_le n 0 || before) ≡ is_long n number (Some (first_of since number))
quiet_long n number since before h = grind arith

tick_long : (n number : ℕ) (since : Option ℕ) → ((k : ℕ) → since ≡ Some k → k ≤ number) → is_long (n - 1) number since ≡ is_long n (suc number) since
tick_long n number since h = grind arith

kept_long : (n : ℕ) (heard : List Heard) → quiet_for n heard ≡ is_long n (heard_ticks heard) (quiet_from heard)
kept_long n (Quiet true ∷ heard) = quiet_long n (heard_ticks heard) (quiet_from heard) (quiet_for n heard) (kept_long n heard)
kept_long n (Tick on ∷ heard) = kept_long (n - 1) heard ∙ tick_long n (heard_ticks heard) (quiet_from heard) (from_within heard)
kept_long n _ = refl

late_tick : (limit : ℕ) (on : Bool) (heard : List Heard) → (on && is_long limit (suc (heard_ticks heard)) (quiet_from heard)) ≡ is_late_tick limit (Tick on ∷ heard)
late_tick limit true heard = sym (kept_long limit (Tick true ∷ heard))
late_tick limit false heard = refl

-- the first late tick after a tick, and after a word of the stop
pub broken_tick : (limit : ℕ) (on : Bool) (heard : List Heard)
    → first_of_both (broken_of limit heard) (on && is_long limit (suc (heard_ticks heard)) (quiet_from heard)) (suc (heard_ticks heard)) ≡ broken_of limit (Tick on ∷ heard)
broken_tick limit on heard = ap (λ (late : Bool). first_of_both (broken_of limit heard) late (suc (heard_ticks heard))) (late_tick limit on heard)

pub broken_quiet : (limit : ℕ) (is : Bool) (heard : List Heard) → broken_of limit heard ≡ broken_of limit (Quiet is ∷ heard)
broken_quiet limit is heard = search (rules, heard_ticks)
