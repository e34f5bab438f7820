-- What a header says once it is done is such as settings may have.
use Rattle.schedule_file.proofs.Common.{AppRule, Becomes, Err, HeaderKind, HeaderLine, Heading, IfOk, IfOk-at_ok, IfOk-weaker, IfSome, IfSome_then, InRange, IsMasterOf, IsSlaveOf, IsTrue, Lengths, LineCause, MasterSettings, Ok, OnOk, Place, Profile, Result, RuleInRange, RuleLine, SlaveSettings, Word, admitted, allows_id, and_parts, by_word, bytes_eq, fields_of, fields_taken, header_line, header_word_of, heading_after, heading_new, heading_with, highs_of, input_of, is_acceptable, is_length, is_start, lengths_line, list_with, lows_of, map_ok, master_line, master_with_app, nat_le, nat_tests, next_field, no_field, number_16, one_field, one_hex_field, pointwise, profile_for, profile_given, profile_line, profile_taken, range_line, rule_begun, rule_line, rule_with_bytes, rule_with_pairs, schedule_format, slave_line, slave_with_bytes, slave_with_pairs, title_taken}
use Rattle.schedule_file.specs.Fields.{◌>>=◌}
use Rattle.std.proofs.Common.{◌≡◌, ℕ, ◌+◌, ◌/◌, ◌%◌, ◌≤◌, ◌<◌, Bool, true, false, List, [], ◌∷◌, ◌++◌, length, arith, refl, sym, rules}
use Rattle.std.specs.Prelude.{◌&&◌, ◌==◌, if◌then◌else◌}
use Rattle.param_load.specs.declared.app_rule.AppRule.TheVariants as app_rule
use Rattle.schedule_file.specs.HeaderKind.{title_of}
use Rattle.schedule_file.specs.declared.header_line.HeaderLine.TheVariants as says
use Rattle.schedule_file.specs.declared.header_line.LengthsLine.{LengthsLine}
use Rattle.schedule_file.specs.declared.header_line.MasterLine.{MasterLine}
use Rattle.schedule_file.specs.declared.header_line.SlaveLine.{SlaveLine}
use Rattle.schedule_file.specs.declared.line_cause.LineCause.TheVariants as cause
use Rattle.schedule_file.specs.declared.place.Place.TheVariants as place
use Rattle.schedule_file.specs.declared.place.Word.TheVariants as word
use Rattle.schedule_file.proofs.Headed.{either, headed}

-- lengths that settings may have
pub record AreLengths (line : LengthsLine) : Type 0 where
  pub master : IsTrue (is_length line.master)
  pub slave : IsTrue (is_length line.slave)

-- values that settings of a master may have
pub record SoundMaster (line : MasterLine) (profile : Profile) : Type 0 where
  pub conn : 0 < line.conn
  pub watchdog : 0 < line.watchdog
  pub allowed : IsTrue (allows_id profile line.nonce)

-- values that settings of a slave may have
pub record SoundSlave (line : SlaveLine) (profile : Profile) (rule : AppRule) : Type 0 where
  pub hand : 0 < line.hand
  pub most : 0 < line.most
  pub acceptable : IsTrue (is_acceptable rule)
  pub allowed : IsTrue (allows_id profile line.nonce)

-- a header whose lengths and values of both ends are such
abbrev pub Sound : Heading → Type 0
Sound h = AreLengths h.lengths × SoundMaster h.master.line h.master.profile × SoundSlave h.slave.line h.slave.profile h.slave.rule

-- the next step gives such a value, whatever this one gave
pub each : {A B : Type 0} (r : Result A LineCause) (f : A → Result B LineCause) (P : B → Type 0) → ((x : A) → IfOk (f x) P) → IfOk (r >>= f) P
each (Ok x) f P h = h x
each (Err e) f P h = tt

-- the next step gives such a value, where something is known of what this one gave
pub known : {A B : Type 0} (r : Result A LineCause) (f : A → Result B LineCause) (Q : A → Type 0) (P : B → Type 0) → IfOk r Q → ((x : A) → Q x → IfOk (f x) P) → IfOk (r >>= f) P
known (Ok x) f Q P q h = h x q
known (Err e) f Q P q h = tt

-- a fact of what is made of a value
pub IfOk-map : {A B : Type 0} (r : Result A LineCause) (f : A → B) (P : B → Type 0) → IfOk r (λ x. P (f x)) → IfOk (map_ok f r) P
IfOk-map (Ok x) f P h = h
IfOk-map (Err e) f P h = h

-- a fact of every value
pub IfOk-every : {A : Type 0} (r : Result A LineCause) (P : A → Type 0) → ((x : A) → P x) → IfOk r P
IfOk-every (Ok x) P h = h x
IfOk-every (Err e) P h = tt

pub ok_if : {A : Type 0} (b : Bool) (x : A) (e : LineCause) (P : A → Type 0) → (b ≡ true → P x) → IfOk (if b then Ok x else Err e) P
ok_if true x e P h = h refl
ok_if false x e P h = tt

-- what the fields of a line say is such a value, where what each word says is
pub worded : {A : Type 0} (cause : LineCause) (said : List ℕ → List (List ℕ) → Result A LineCause) (P : A → Type 0) → ((first : List ℕ) (fields : List (List ℕ)) → IfOk (said first fields) P) → (fields : List (List ℕ)) → IfOk (by_word cause said fields) P
worded cause said P are [] = tt
worded cause said P are (first ∷ fields) = are first fields

-- what a call changed is such a value, where what it says is
pub so_is : {A : Type 0} (result : Result (Unit {0}) LineCause) (new : A) (said : Result A LineCause) (P : A → Type 0) → IfOk said P → Becomes result new said → OnOk result (P new)
so_is (Ok u) new said P is same = IfOk-at_ok P same is
so_is (Err e) new said P is same = tt

pub lengths_sound : (fields : List (List ℕ)) → IfOk (lengths_line fields) (λ line. IsTrue (is_length line.master) × IsTrue (is_length line.slave))
lengths_sound fields =
    each (next_field fields) _ _ (λ first. each (one_field first.1) _ _ (λ second. each (number_16 first.0) _ _ (λ master. each (number_16 second) _ _ (λ slave. ok_if (is_length master && is_length slave) _ cause.Length _ (λ e. and_parts (is_length master) (is_length slave) e)))))

master_sound : (fields : List (List ℕ)) → IfOk (master_line fields) (λ line. (0 < line.conn) × (0 < line.watchdog))
master_sound fields = grind arith

slave_sound : (fields : List (List ℕ)) → IfOk (slave_line fields) (λ line. (0 < line.hand) × (0 < line.most))
slave_sound fields = search rules

rule_sound : (fields : List (List ℕ)) → IfOk (rule_line fields) RuleInRange
rule_sound fields = grind (arith, nat_tests)

pub hex_within : (most : ℕ) (fields : List (List ℕ)) → IfOk (one_hex_field most fields) (λ bytes. (0 < length bytes) × (length bytes ≤ most))
hex_within most fields = grind arith

pub hex_sound : (fields : List (List ℕ)) → IfOk (one_hex_field 256 fields) (λ bytes. 0 < length bytes)
hex_sound fields = IfOk-weaker (one_hex_field 256 fields) _ _ (λ bytes within. within.0) (hex_within 256 fields)

pub range_sound : (fields : List (List ℕ)) → IfOk (range_line fields) (λ pairs. 2 ≤ length pairs)
range_sound fields = grind arith

-- a line that is read is in range
line_sound : (word : Word) (fields : List (List ℕ)) → IfOk (header_line word fields) InRange
line_sound word.Lengths fields = IfOk-map (lengths_line fields) says.Lengths InRange (lengths_sound fields)
line_sound word.Master fields = IfOk-map (master_line fields) says.Master InRange (master_sound fields)
line_sound word.Profile fields = IfOk-map (profile_line fields) says.Profile InRange (IfOk-every (profile_line fields) _ (λ n. tt))
line_sound word.App fields = IfOk-map (one_hex_field 256 fields) says.App InRange (hex_sound fields)
line_sound word.Slave fields = IfOk-map (slave_line fields) says.Slave InRange (slave_sound fields)
line_sound word.Rule fields = IfOk-map (rule_line fields) says.Rule InRange (rule_sound fields)
line_sound word.Bytes fields = IfOk-map (one_hex_field 256 fields) says.Bytes InRange (hex_sound fields)
line_sound word.Range fields = IfOk-map (range_line fields) says.Range InRange (range_sound fields)
line_sound word.Go fields = IfOk-map (no_field fields) (λ _. says.Go) InRange (IfOk-every (no_field fields) _ (λ none. tt))

-- the same of a line that was read
pub said_in_range : (word : Word) (fields : List (List ℕ)) (line : HeaderLine) → Ok line ≡ header_line word fields → InRange line
said_in_range word fields line e = IfOk-at_ok InRange (sym e) (line_sound word fields)

profile_allows : (nonce : ℕ) → IsTrue (allows_id (profile_for nonce) nonce)
profile_allows nonce = grind arith

begun_acceptable : (line : RuleLine) → RuleInRange line → IsTrue (is_acceptable (rule_begun line))
begun_acceptable line h = grind arith

pointwise_append : (low high lows highs : List ℕ) → IsTrue (pointwise nat_le low high) → IsTrue (pointwise nat_le lows highs) → IsTrue (pointwise nat_le (low ++ lows) (high ++ highs))
pointwise_append [] [] lows highs a b = b
pointwise_append (x ∷ low) (y ∷ high) lows highs a b = grind (arith, nat_tests, pointwise_append low high lows highs)
pointwise_append _ _ lows highs a b = grind (arith, nat_tests)

-- a rule with one more line of its own
bytes_acceptable : (r : AppRule) (bytes : List ℕ) → IfOk (rule_with_bytes r bytes) (λ all. IsTrue (is_acceptable all))
bytes_acceptable (app_rule.Exact want) bytes = IfOk-map (list_with want bytes) app_rule.Exact _ (IfOk-every (list_with want bytes) _ (λ all. refl))
bytes_acceptable other bytes = tt

pairs_acceptable : (r : AppRule) (pairs : List ℕ) → IsTrue (is_acceptable r) → IfOk (rule_with_pairs r pairs) (λ all. IsTrue (is_acceptable all))
pairs_acceptable (app_rule.Ranges low high) pairs is =
    ok_if (length pairs % 2 == 0 && pointwise nat_le (lows_of pairs) (highs_of pairs) && nat_le (length low + length pairs / 2) 512) (app_rule.Ranges (low ++ lows_of pairs) (high ++ highs_of pairs)) cause.Range _ (λ e. pointwise_append low high (lows_of pairs) (highs_of pairs) is (and_parts _ _ (and_parts _ _ e).0).1)
pairs_acceptable other pairs is = tt

-- a header after one more line
profile_sound : (p : Place) (h : Heading) (n : ℕ) → Sound h → Sound (profile_taken p h n)
profile_sound p h n k = grind arith

with_rule : (h : Heading) (r : AppRule) → Sound h → IsTrue (is_acceptable r) → Sound (record h { slave = record h.slave { rule = r } })
with_rule h r s is = (s.0, s.1, record { hand = s.2.hand; most = s.2.most; acceptable = is; allowed = s.2.allowed })

taken_sound : (h : Heading) (line : HeaderLine) → InRange line → Sound h → IfOk (heading_with h line) Sound
taken_sound h (says.Lengths line) range s = (record { master = range.0; slave = range.1 }, s.1, s.2)
taken_sound h (says.Master line) range s = (s.0, record { conn = range.0; watchdog = range.1; allowed = profile_allows line.nonce }, s.2)
taken_sound h (says.Profile n) range s = profile_sound h.place h n s
taken_sound h (says.App bytes) range s = IfOk-map (master_with_app h.master bytes) _ Sound (IfOk-map (list_with h.master.app bytes) _ _ (IfOk-every (list_with h.master.app bytes) _ (λ app. s)))
taken_sound h (says.Slave line) range s = (s.0, s.1, record { hand = range.0; most = range.1; acceptable = refl; allowed = profile_allows line.nonce })
taken_sound h (says.Rule line) range s = with_rule h (rule_begun line) s (begun_acceptable line range)
taken_sound h (says.Bytes bytes) range s =
    IfOk-map (slave_with_bytes h.slave bytes) _ Sound (IfOk-map (rule_with_bytes h.slave.rule bytes) _ _ (IfOk-weaker (rule_with_bytes h.slave.rule bytes) _ _ (λ r is. with_rule h r s is) (bytes_acceptable h.slave.rule bytes)))
taken_sound h (says.Range pairs) range s =
    IfOk-map (slave_with_pairs h.slave pairs) _ Sound (IfOk-map (rule_with_pairs h.slave.rule pairs) _ _ (IfOk-weaker (rule_with_pairs h.slave.rule pairs) _ _ (λ r is. with_rule h r s is) (pairs_acceptable h.slave.rule pairs s.2.acceptable)))
taken_sound h says.Go range s = s

title_sound : (b : Bool) (h : Heading) → Sound h → IfOk (if b then Ok (record h { place = place.Title }) else Err cause.Header) Sound
title_sound b h s = ok_if b (record h { place = place.Title }) cause.Header _ (λ e. s)

fields_sound : (h : Heading) (fields : List (List ℕ)) → Sound h → IfOk (fields_taken h fields) Sound
fields_sound h [] s = tt
fields_sound h (first ∷ fields) s =
    each (admitted h.kind h.place (header_word_of first)) _ _ (λ word. known (header_line word fields) _ _ _ (line_sound word fields) (λ line range. each (profile_given h word) _ _ (λ given. taken_sound h line range s)))

pub after_sound : (h : Heading) (text : List ℕ) → Sound h → IfOk (heading_after h text) Sound
after_sound h text s = either (is_start h.place) (title_taken h text) (fields_taken h (fields_of text)) Sound (title_sound (bytes_eq text (title_of h.kind)) h s) (fields_sound h (fields_of text) s)

-- a whole header says such values
pub new_sound : (kind : HeaderKind) → Sound (heading_new kind)
new_sound kind = (
  record { master = refl; slave = refl },
  record { conn = omega arith; watchdog = omega arith; allowed = profile_allows 0 },
  record { hand = omega arith; most = omega arith; acceptable = refl; allowed = profile_allows 0 },
)

-- there are settings with these values
abbrev lengths_of : (h : Heading) → Sound h → Lengths
lengths_of h s = record { master = h.lengths.master; slave = h.lengths.slave; valid_master = s.0.master; valid_slave = s.0.slave }

pub master_settings : (h : Heading) → Sound h → (ms : MasterSettings) × IsMasterOf h ms
master_settings h s =
    let ms : MasterSettings = record {
      lengths = lengths_of h s;
      conn = h.master.line.conn;
      address = h.master.line.address;
      watchdog = h.master.line.watchdog;
      app = h.master.app;
      nonce = h.master.line.nonce;
      profile = h.master.profile;
      some_conn = s.1.conn;
      some_watchdog = s.1.watchdog;
      allowed = s.1.allowed;
    } in
    (ms, (refl, refl, record { lengths_are = refl; conn_is = refl; address_is = refl; watchdog_is = refl; app_is = refl; nonce_is = refl; profile_is = refl }))

pub slave_settings : (h : Heading) → Sound h → (ss : SlaveSettings) × IsSlaveOf h ss
slave_settings h s =
    let ss : SlaveSettings = record {
      lengths = lengths_of h s;
      address = h.slave.line.address;
      hand = h.slave.line.hand;
      most = h.slave.line.most;
      rule = h.slave.rule;
      nonce = h.slave.line.nonce;
      profile = h.slave.profile;
      some_hand = s.2.hand;
      some_most = s.2.most;
      acceptable = s.2.acceptable;
      allowed = s.2.allowed;
    } in
    (ss, (refl, refl, record { lengths_are = refl; address_is = refl; hand_is = refl; most_is = refl; rule_is = refl; nonce_is = refl; profile_is = refl }))

-- the header of an input, where it is whole, gives settings of both ends
input_sound : (kind : HeaderKind) (bytes : List ℕ) → IfSome (input_of kind bytes).heading Sound
input_sound kind = headed (schedule_format kind) Sound (new_sound kind) after_sound

pub gives_master : (kind : HeaderKind) (bytes : List ℕ) → IfSome (input_of kind bytes).heading (λ h. (ms : MasterSettings) × IsMasterOf h ms)
gives_master kind bytes = IfSome_then (input_of kind bytes).heading (input_sound kind bytes) (λ h s. master_settings h s)

pub gives_slave : (kind : HeaderKind) (bytes : List ℕ) → IfSome (input_of kind bytes).heading (λ h. (ss : SlaveSettings) × IsSlaveOf h ss)
gives_slave kind bytes = IfSome_then (input_of kind bytes).heading (input_sound kind bytes) (λ h s. slave_settings h s)
