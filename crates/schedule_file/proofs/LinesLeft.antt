-- Each line of a header leaves fewer to come.
use Rattle.schedule_file.proofs.Common.{AppRule, Err, HeaderKind, HeaderLine, Heading, IfOk, IfOk-at_ok, IfOk-weaker, IsTrue, LineCause, Ok, Place, Result, RuleLine, Word, and_parts, common_steps, header_line, heading_with, highs_of, leb-true, lengths_line, list_with, lows_of, map_ok, master_line, master_with_app, may_stand, nat_le, no_field, one_hex_field, profile_line, profile_taken, range_line, ranges_with, rule_begun, rule_len, rule_line, rule_place, rule_with_bytes, rule_with_pairs, slave_line, slave_with_bytes, slave_with_pairs}
use Rattle.schedule_file.specs.Fields.{◌>>=◌}
use Rattle.std.proofs.Common.{◌≡◌, ℕ, ◌+◌, ◌-◌, ◌/◌, ◌≤◌, ◌<◌, Bool, true, List, [], ◌∷◌, ◌++◌, length, length-append, arith, refl, rules}
use Rattle.std.specs.Prelude.{if◌then◌else◌}
use Rattle.param_load.specs.declared.app_rule.AppRule.TheVariants as app_rule
use Rattle.schedule_file.specs.LinesLeft.{left_after, lines_left}
use Rattle.schedule_file.specs.declared.header_line.HeaderLine.TheVariants as says
use Rattle.schedule_file.specs.declared.line_cause.LineCause.TheVariants as cause
use Rattle.schedule_file.specs.declared.place.Word.TheVariants as word
use Rattle.schedule_file.proofs.Sound.{IfOk-map, hex_sound, ok_if, range_sound}

-- how many lines may be left, at least, where a line with this word may stand
abbrev least : Word → ℕ → ℕ → ℕ
least word.Lengths app listed = 1031
least word.Master app listed = 1030
least word.Profile app listed = 0
least word.App app listed = 516 + (512 - app)
least word.Slave app listed = 516
least word.Rule app listed = 514
least word.Bytes app listed = 1 + (512 - listed)
least word.Range app listed = 1 + (512 - listed)
least word.Go app listed = 1

left-least : (kind : HeaderKind) (p : Place) (w : Word) (app listed : ℕ) → IsTrue (may_stand kind p w) → least w app listed ≤ left_after p app listed
left-least kind p w app listed h = grind arith

left-rule : (line : RuleLine) (app : ℕ) → left_after (rule_place line) app (rule_len (rule_begun line)) < 514
left-rule line app = grind arith

-- a `profile` line follows `master` or `slave`
profile-fewer : (p : Place) (h : Heading) (n : ℕ) → IsTrue (may_stand h.kind p word.Profile) → lines_left (profile_taken p h n) < left_after p (length h.master.app) (rule_len h.slave.rule)
profile-fewer p h n k = grind arith

-- lists with what one more line adds
list_with-longer : (list bytes : List ℕ) → IfOk (list_with list bytes) (λ all. (length all ≡ length list + length bytes) × (length all ≤ 512))
list_with-longer list bytes =
    ok_if (nat_le (length list + length bytes) 512) (list ++ bytes) cause.Range _ (λ e. (length-append list bytes, omega (arith, length-append list bytes, leb-true (length list + length bytes) 512 e)))

length-lows_of : (pairs : List ℕ) → length (lows_of pairs) ≡ length pairs / 2
length-lows_of [] = refl
length-lows_of (low ∷ []) = omega arith
length-lows_of (low ∷ high ∷ pairs) = omega (arith, length-lows_of pairs)

ranges_with-at : (low high pairs : List ℕ) (b : Bool) → 2 ≤ length pairs
    → (b ≡ true → length low + length pairs / 2 ≤ 512)
    → IfOk (if b then Ok (app_rule.Ranges (low ++ lows_of pairs) (high ++ highs_of pairs)) else Err cause.Range) (λ r. (length low < rule_len r) × (rule_len r ≤ 512))
ranges_with-at low high pairs b h k = grind (arith, common_steps, length-lows_of)

ranges_with-longer : (low high pairs : List ℕ) → 2 ≤ length pairs → IfOk (ranges_with low high pairs) (λ r. (length low < rule_len r) × (rule_len r ≤ 512))
ranges_with-longer low high pairs some = ranges_with-at low high pairs _ some (λ e. leb-true _ _ (and_parts _ _ e).1)

rule_with_bytes-longer : (r : AppRule) (bytes : List ℕ) → 0 < length bytes → IfOk (rule_with_bytes r bytes) (λ r'. (rule_len r < rule_len r') × (rule_len r' ≤ 512))
rule_with_bytes-longer r bytes h = grind (arith, common_steps)

rule_with_pairs-longer : (r : AppRule) (pairs : List ℕ) → 2 ≤ length pairs → IfOk (rule_with_pairs r pairs) (λ r'. (rule_len r < rule_len r') × (rule_len r' ≤ 512))
rule_with_pairs-longer r pairs h = search (rules, ranges_with-longer)

-- what is taken of a line, whatever it says, or of which something is known
taken_each : {A : Type 0} (r : Result A LineCause) (f : A → HeaderLine) (h : Heading) (P : Heading → Type 0) → ((x : A) → IfOk (heading_with h (f x)) P) → IfOk (map_ok f r >>= heading_with h) P
taken_each (Ok x) f h P all = all x
taken_each (Err e) f h P all = tt

taken_known : {A : Type 0} (r : Result A LineCause) (f : A → HeaderLine) (h : Heading) (Q : A → Type 0) (P : Heading → Type 0) → IfOk r Q → ((x : A) → Q x → IfOk (heading_with h (f x)) P) → IfOk (map_ok f r >>= heading_with h) P
taken_known (Ok x) f h Q P known all = all x known
taken_known (Err e) f h Q P known all = tt

-- a line that may stand leaves fewer to come
line_fewer : (h : Heading) (w : Word) (fields : List (List ℕ)) → IsTrue (may_stand h.kind h.place w) → least w (length h.master.app) (rule_len h.slave.rule) ≤ lines_left h
    → IfOk (header_line w fields >>= heading_with h) (λ h'. lines_left h' < lines_left h)
line_fewer h word.Lengths fields stands low = taken_each (lengths_line fields) says.Lengths h _ (λ line. omega (arith, low))
line_fewer h word.Master fields stands low = taken_each (master_line fields) says.Master h _ (λ line. omega (arith, low))
line_fewer h word.Profile fields stands low = taken_each (profile_line fields) says.Profile h _ (λ n. profile-fewer h.place h n stands)
line_fewer h word.App fields stands low =
    taken_known (one_hex_field 256 fields) says.App h _ _ (hex_sound fields) (λ bytes some. IfOk-map (master_with_app h.master bytes) _ _
    (IfOk-map (list_with h.master.app bytes) _ _ (IfOk-weaker (list_with h.master.app bytes) _ _ (λ all longer. omega (arith, low, some, longer.0, longer.1)) (list_with-longer h.master.app bytes))))
line_fewer h word.Slave fields stands low = taken_each (slave_line fields) says.Slave h _ (λ line. omega (arith, low))
line_fewer h word.Rule fields stands low = taken_each (rule_line fields) says.Rule h _ (λ line. omega (arith, low, left-rule line (length h.master.app)))
line_fewer h word.Bytes fields stands low =
    taken_known (one_hex_field 256 fields) says.Bytes h _ _ (hex_sound fields) (λ bytes some. IfOk-map (slave_with_bytes h.slave bytes) _ _
    (IfOk-map (rule_with_bytes h.slave.rule bytes) _ _ (IfOk-weaker (rule_with_bytes h.slave.rule bytes) _ _ (λ r longer. omega (arith, low, longer.0, longer.1)) (rule_with_bytes-longer h.slave.rule bytes some))))
line_fewer h word.Range fields stands low =
    taken_known (range_line fields) says.Range h _ _ (range_sound fields) (λ pairs some. IfOk-map (slave_with_pairs h.slave pairs) _ _
    (IfOk-map (rule_with_pairs h.slave.rule pairs) _ _ (IfOk-weaker (rule_with_pairs h.slave.rule pairs) _ _ (λ r longer. omega (arith, low, longer.0, longer.1)) (rule_with_pairs-longer h.slave.rule pairs some))))
line_fewer h word.Go fields stands low = taken_each (no_field fields) (λ _. says.Go) h _ (λ none. low)

heading_with-fewer : (h : Heading) (w : Word) (fields : List (List ℕ)) (line : HeaderLine) → IsTrue (may_stand h.kind h.place w) → Ok line ≡ header_line w fields → IfOk (heading_with h line) (λ h'. lines_left h' < lines_left h)
heading_with-fewer h w fields line stands e =
    rw (← e) at (line_fewer h w fields stands (left-least h.kind h.place w (length h.master.app) (rule_len h.slave.rule) stands))

-- the same of the header after the line
pub heading_fewer : (h h' : Heading) (w : Word) (fields : List (List ℕ)) (line : HeaderLine) → IsTrue (may_stand h.kind h.place w) → Ok line ≡ header_line w fields → heading_with h line ≡ Ok h' → lines_left h' < lines_left h
heading_fewer h h' w fields line stands e said = IfOk-at_ok (λ x. lines_left x < lines_left h) said (heading_with-fewer h w fields line stands e)
