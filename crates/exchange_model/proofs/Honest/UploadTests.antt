-- The first pieces of a master's payloads pass a slave's tests of their contents, where the settings of both match.
use Rattle.exchange_model.proofs.Common.{AppRule, Profile, all_zero, allows, code, common_steps, connection_payload, contents_fault, eq-eqb, expected_len, fails, id_len, le-leb, lt-ltb, ltb-true, number_at, padding_fault, parameter_payload, rule_len, session_payload, take-append_seam, word_is}
use Rattle.std.proofs.Common.{◌≡◌, ℕ, ◌+◌, ◌<◌, ◌≤◌, ◌==◌, nat_le, nat_lt, List, ◌++◌, length, take, drop, replicate, Bool, true, false, ◌&&◌, None, refl, sym, ap, ap₂, ◌∙◌, arith, rules}
use Rattle.param_load.specs.declared.contents.Expected.{Expected}
use Rattle.param_load.specs.declared.contents.Expected.TheVariants as expected
use Rattle.param_load.specs.declared.profile.Profile.TheVariants as profile
use Rattle.exchange_model.proofs.Terms.Agree.{number-back}
use Rattle.exchange_model.proofs.Honest.Turns.{session_long, parameters_long}
use Rattle.exchange_model.proofs.Honest.Fronts.{IsBegun, number_in, part_in, padding_in}

-- a field that holds wherever its last byte has come doesn't fail
no-fault : (before : ℕ) (u : List ℕ) (last : ℕ) (holds : Bool) → (last < length u → holds ≡ true) → fails before u last holds ≡ false
no-fault before u last holds h = search (rules, ltb-true)

-- the padding of a frame whose bytes begin the payload
padding-passes : (e : Expected) (u p rest : List ℕ) → length p ≡ expected_len e → IsBegun u p → all_zero rest ≡ true → padding_fault e u rest ≡ None
padding-passes e u p rest h k l = search (rules, code, padding_in)

pub session_passes : (id : ℕ) (p : Profile) (rule : AppRule) (before : ℕ) (u rest : List ℕ) → IsBegun u (session_payload id p) → all_zero rest ≡ true → contents_fault (expected.Session p) rule before u rest ≡ None
session_passes id p rule before u rest b z = padding-passes (expected.Session p) u (session_payload id p) rest (session_long id p) b z

pub connection_passes : (conn address : ℕ) (rule : AppRule) (before : ℕ) (u rest : List ℕ) → IsBegun u (connection_payload conn address) → all_zero rest ≡ true → contents_fault (expected.Connection conn address) rule before u rest ≡ None
connection_passes conn address rule before u rest b z =
    let id = no-fault before u 1 (number_at 0 u == conn) (λ h. eq-eqb _ _ (number_in u (connection_payload conn address) b 0 h ∙ number-back conn)) in
    let at = no-fault before u 3 (number_at 2 u == address) (λ h. eq-eqb _ _ (number_in u (connection_payload conn address) b 2 h ∙ number-back address)) in
    simp (id, at) (padding-passes (expected.Connection conn address) u (connection_payload conn address) rest refl b z)

-- what the first bytes of the parameters say
count-is : (w : ℕ) (p : Profile) (app zs : List ℕ) → number_at (id_len p + 2) (parameter_payload w p app ++ zs) ≡ length app
count-is w profile.One app zs = number-back (length app)
count-is w (profile.Two word) app zs = number-back (length app)

app-is : (w : ℕ) (p : Profile) (app zs : List ℕ) → take (length app) (drop (id_len p + 4) (parameter_payload w p app ++ zs)) ≡ app
app-is w profile.One app zs = take-append_seam app zs
app-is w (profile.Two word) app zs = take-append_seam app zs

pub parameters_pass : (w most : ℕ) (rule : AppRule) (p : Profile) (app : List ℕ) (before : ℕ) (u rest : List ℕ) → 0 < w → w ≤ most → length app ≡ rule_len rule → allows rule app ≡ true
    → IsBegun u (parameter_payload w p app) → all_zero rest ≡ true → contents_fault (expected.Parameter most (rule_len rule) p) rule before u rest ≡ None
parameters_pass w most rule p app before u rest some fits long fine b z =
    let zs : List ℕ = replicate b.zeros 0 in
    let payload : List ℕ = parameter_payload w p app in
    let version = no-fault before u 1 (number_at 0 u == id_len p) (λ h. eq-eqb _ _ (number_in u payload b 0 h ∙ grind arith)) in
    let watchdog = no-fault before u 3 (nat_lt 0 (number_at 2 u) && nat_le (number_at 2 u) most)
    (λ h. ap (λ n. nat_lt 0 n && nat_le n most) (number_in u payload b 2 h ∙ grind arith) ∙ ap₂ (λ (a b : Bool). a && b) (lt-ltb 0 w some) (le-leb w most fits)) in
    let word = no-fault before u (id_len p + 1) (word_is p u) (λ h. grind (arith, common_steps)) in
    let count = no-fault before u (id_len p + 3) (number_at (id_len p + 2) u == rule_len rule) (λ h. eq-eqb _ _ (number_in u payload b (id_len p + 2) (omega arith) ∙ (count-is w p app zs ∙ long))) in
    let of_app = no-fault before u (id_len p + 3 + rule_len rule) (allows rule (take (rule_len rule) (drop (id_len p + 4) u)))
    (λ h. ap (allows rule) (ap (λ n. take n (drop (id_len p + 4) u)) (sym long) ∙ (part_in u payload b (id_len p + 4) (length app) (omega arith) ∙ app-is w p app zs)) ∙ fine) in
    simp (version, watchdog, word, count, of_app) (padding-passes (expected.Parameter most (rule_len rule) p) u payload rest (parameters_long w p app ∙ ap (λ n. id_len p + 4 + n) long) b z)

pub parameters_count : (w : ℕ) (p : Profile) (app u : List ℕ) → IsBegun u (parameter_payload w p app) → id_len p + 4 ≤ length u → number_at (id_len p + 2) u ≡ length app
parameters_count w p app u b h = number_in u (parameter_payload w p app) b (id_len p + 2) (omega arith) ∙ count-is w p app (replicate b.zeros 0)
