-- The table finds what the definition of a conforming trace says: no row applies to a trace exactly where it conforms,
-- and the first frame to which one applies is the first with which the trace doesn't conform.
use Rattle.trace_diag.proofs.Common.{Accepts, All-tail, AreBytes, AreOfBytes, Conforms, ConformsThroughout, Difference, DiffersFirst, Event, Field, Lengths, MasterSettings, Noted, Partner, SlaveSettings, append-nil, as_partner, eq-eqb, field_of, first_difference, first_of_both, leb-true, parameters_from, partner, read_app_len, read_schedule, read_watchdog, same_Some, sent_in, world}
use Rattle.std.proofs.Common.{◌≡◌, ◌+◌, ◌≤◌, ℕ, List, [], ◌∷◌, length, Option, Some, None, refl, sym, ap, ap₂, subst, ◌∙◌, arith, rules}
use Rattle.fsoe_base.specs.declared.command.End.TheVariants as end_name
use Rattle.fsoe_base.specs.declared.command.State.TheVariants as state
use Rattle.param_load.specs.AppRule.{allows, is_acceptable, rule_len}
use Rattle.param_load.specs.declared.app_rule.AppRule.{AppRule}
use Rattle.param_load.specs.declared.app_rule.AppRule.TheVariants as rule
use Rattle.trace_diag.proofs.Conforming.{good, Good}
use Rattle.trace_diag.proofs.PayloadBytes.{payload_bytes, AllLong}
use Rattle.trace_diag.proofs.ReadBytes.{app_long}
use Rattle.trace_diag.proofs.RowsHold.{all_in_turn, in_turn_long, no_first, rows_hold, AllInTurn}
use Rattle.trace_diag.proofs.SentRows.{IsPlain}
use Rattle.trace_diag.proofs.SettingsRead.{settled, word_most, Settled}
use Rattle.trace_diag.proofs.Settling.{settle}

-- what the ends with the settings that are read off send
sends-it : (lengths : Lengths) (t : List Noted) (s : Settled lengths t) → AllInTurn lengths t → AreOfBytes t → sent_in (world s.ms (partner s.ms s.r) (read_schedule lengths t)) ≡ t
sends-it lengths [] s h are = refl
sends-it lengths (x ∷ t) s h are =
    ap (λ (lengths : Lengths). sent_in (world s.ms (partner s.ms s.r) (read_schedule lengths (x ∷ t)))) (sym s.lengths_are)
    ∙ (settle s.ms s.r x t s.accepts s.plain s.read (subst (λ (lengths : Lengths). AllInTurn lengths (x ∷ t)) (sym s.lengths_are) h) are).sent

-- a trace conforms to which no row applies
pub conforms_where_none : (lengths : Lengths) (t : List Noted) → AreOfBytes t → first_difference lengths t ≡ None → Conforms lengths t
conforms_where_none lengths t are none =
    let h : AllInTurn lengths t = all_in_turn lengths t none in
    let long : AllLong lengths t = in_turn_long lengths t h in
    let s : Settled lengths t = settled lengths t long are (rows_hold lengths t h) in
    search (rules, sends-it)

pub empty_conforms : (lengths : Lengths) → Conforms lengths []
empty_conforms lengths = conforms_where_none lengths [] (λ k d h. absurd (omega (arith, h))) refl

-- no row applies to a trace that conforms
none-of : (lengths : Lengths) (x : Noted) (t : List Noted) (c : Conforms lengths (x ∷ t)) → AreOfBytes (x ∷ t) → first_difference lengths (x ∷ t) ≡ None
none-of lengths x t c are =
    let all : List Noted = x ∷ t in
    let ms : MasterSettings = c.ms in
    let ss : SlaveSettings = c.ss in
    let p-bytes : AreBytes (parameters_from lengths all) = payload_bytes lengths end_name.Master state.Parameter all c.lengths_hold are in
    let n : ℕ = read_app_len lengths all in
    let p : (r : Partner ms) × (partner ms r ≡ ss) =
    as_partner ms ss (c.settings.master.lengths_are ∙ sym c.settings.slave.lengths_are) (c.settings.master.address_is ∙ sym c.settings.slave.address_is) (c.settings.master.profile_is ∙ sym c.settings.slave.profile_is) in
    let r : Partner ms = p.0 in
    let rule-is : r.slave.rule ≡ rule.Any n = ap (λ (ss : SlaveSettings). ss.rule) p.1 ∙ c.settings.slave.rule_is in
    let app-long : length ms.app ≡ n = ap (length {A = ℕ}) c.settings.master.app_is ∙ app_long (parameters_from lengths all) in
    let accepts : Accepts ms r = record {
      watchdog = subst (λ (n : ℕ). n ≤ r.slave.most) (sym c.settings.master.watchdog_is) (subst (λ (n : ℕ). read_watchdog lengths all ≤ n) (sym (ap (λ (ss : SlaveSettings). ss.most) p.1 ∙ c.settings.slave.most_is)) (word_most 1 2 (parameters_from lengths all) p-bytes (omega arith)));
      as_many = app-long ∙ sym (ap rule_len rule-is);
      allowed = ap (λ (q : AppRule). allows q ms.app) rule-is ∙ eq-eqb (length ms.app) n app-long;
    } in
    let plain : IsPlain ms = assumption (c.settings.master.profile_is, subst (λ (n : ℕ). n ≤ 512) (sym app-long) (leb-true n 512 (sym (ap is_acceptable rule-is) ∙ r.slave.acceptable))) in
    let l : ms.lengths ≡ lengths = c.settings.master.lengths_are in
    let g : Good ms r all =
    good ms r x t [] [] accepts plain (subst (λ (lengths : Lengths). AllLong lengths all) (sym l) c.lengths_hold)
    (ap (λ (log : List Event). sent_in (world ms (partner ms r) log)) (append-nil (read_schedule ms.lengths all)) ∙ (ap (λ (lengths : Lengths). sent_in (world ms (partner ms r) (read_schedule lengths all))) l ∙ subst (λ (ss : SlaveSettings). sent_in (world ms ss (read_schedule lengths all)) ≡ all) (sym p.1) c.sends)) in
    ap (λ (lengths : Lengths). first_difference lengths all) (sym l) ∙ g.none

pub none_where_conforms : (lengths : Lengths) (t : List Noted) → AreOfBytes t → Conforms lengths t → first_difference lengths t ≡ None
none_where_conforms lengths [] are c = refl
none_where_conforms lengths (x ∷ t) are c = none-of lengths x t c are

-- a trace that conforms did so after each of its frames
pub conformed : (lengths : Lengths) (t : List Noted) → AreOfBytes t → first_difference lengths t ≡ None → ConformsThroughout lengths t
conformed lengths [] are none = conforms_where_none lengths [] are none
conformed lengths (x ∷ t) are none = (
  conforms_where_none lengths (x ∷ t) are none,
  conformed lengths t (All-tail (λ x. AreBytes x.frame) x t are) (no_first (first_difference lengths t) (field_of lengths t x) (length t + 1) none).0,
)

-- the first beginnings of a trace that conforms conform
pub conforms_before : (lengths : Lengths) (x : Noted) (t : List Noted) → AreOfBytes (x ∷ t) → Conforms lengths (x ∷ t) → Conforms lengths t
conforms_before lengths x t are c =
    conforms_where_none lengths t (All-tail (λ x. AreBytes x.frame) x t are) (no_first (first_difference lengths t) (field_of lengths t x) (length t + 1) (none_where_conforms lengths (x ∷ t) are c)).0

some-none : (a : Difference) (o : Option Difference) → o ≡ Some a → o ≡ None → ⊥
some-none a o e h = let other : Some a ≡ None = sym e ∙ h in cc

-- else the difference is that of the first frame with which it doesn't
differs-on : (lengths : Lengths) (x : Noted) (t : List Noted) (d : Difference) → AreOfBytes (x ∷ t) → (o : Option Difference) (field : Option Field) → first_difference lengths t ≡ o → field_of lengths t x ≡ field → first_of_both o field (length t + 1) ≡ Some d
    → ((d : Difference) → first_difference lengths t ≡ Some d → DiffersFirst lengths t d.number d.field) → DiffersFirst lengths (x ∷ t) d.number d.field
differs-on lengths x t d are (Some first) field before here e earlier =
    let same : first ≡ d = same_Some first d e in
    let f : DiffersFirst lengths t d.number d.field = earlier d (before ∙ ap Some same) in
    record {
      before = f.before;
      differing = f.differing;
      after = x ∷ f.after;
      is = ap (λ (u : List Noted). x ∷ u) f.is;
      number_is = f.number_is;
      conformed = f.conformed;
      differs = f.differs;
      field_is = f.field_is;
      whole = λ c. some-none d (first_difference lengths (x ∷ t)) (ap (λ (o : Option Difference). first_of_both o (field_of lengths t x) (length t + 1)) before ∙ e) (none_where_conforms lengths (x ∷ t) are c);
    }
differs-on lengths x t d are None None before here e earlier = absurd (cc e)
differs-on lengths x t d are None (Some which) before here e earlier =
    let same : record { number = length t + 1; field = which } ≡ d = same_Some _ d e in
    let differs : Conforms lengths (x ∷ t) → ⊥ =
    λ c. some-none d (first_difference lengths (x ∷ t)) (ap₂ (λ (o : Option Difference) (field : Option Field). first_of_both o field (length t + 1)) before here ∙ e) (none_where_conforms lengths (x ∷ t) are c) in
    record {
      before = t;
      differing = x;
      after = [];
      is = refl;
      number_is = ap (λ (d : Difference). d.number) (sym same);
      conformed = conformed lengths t (All-tail (λ x. AreBytes x.frame) x t are) before;
      differs = differs;
      field_is = here ∙ ap (λ (d : Difference). Some d.field) same;
      whole = differs;
    }

pub differs_first : (lengths : Lengths) (t : List Noted) (d : Difference) → AreOfBytes t → first_difference lengths t ≡ Some d → DiffersFirst lengths t d.number d.field
differs_first lengths [] d are e = absurd (cc e)
differs_first lengths (x ∷ t) d are e =
    differs-on lengths x t d are (first_difference lengths t) (field_of lengths t x) refl refl e (λ d e. differs_first lengths t d (All-tail (λ x. AreBytes x.frame) x t are) e)
