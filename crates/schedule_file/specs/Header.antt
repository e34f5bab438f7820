-- A header as far as it is read.
use Rattle.std.specs.Prelude.{◌≡◌, ℕ, Bool, false, List, [], ◌∷◌, Result, Ok, Err, if◌then◌else◌}
use Rattle.std.specs.Str.{bytes_eq}
use Rattle.param_load.specs.declared.profile.Profile.TheVariants as profile
use Rattle.param_load.specs.MasterSettings.{IsMasterSetTo}
use Rattle.param_load.specs.SlaveSettings.{IsSlaveSetTo}
use Rattle.param_load.specs.declared.master_settings.MasterSettings.{MasterSettings}
use Rattle.param_load.specs.declared.slave_settings.SlaveSettings.{SlaveSettings}
use Rattle.schedule_file.specs.Field.{fields_of}
use Rattle.schedule_file.specs.Fields.{◌>>=◌, map_ok}
use Rattle.schedule_file.specs.HeaderKind.{title_of}
use Rattle.schedule_file.specs.HeaderLine.{header_line}
use Rattle.schedule_file.specs.HeaderPart.{MasterValues, SlaveValues, is_two, master_begun, slave_begun, master_with_app, rule_begun, slave_with_bytes, slave_with_pairs}
use Rattle.schedule_file.specs.Place.{header_word_of, is_start, is_last, admitted}
use Rattle.schedule_file.specs.declared.header_kind.HeaderKind.{HeaderKind}
use Rattle.schedule_file.specs.declared.header_line.HeaderLine.{HeaderLine}
use Rattle.schedule_file.specs.declared.header_line.HeaderLine.TheVariants as says
use Rattle.schedule_file.specs.declared.header_line.LengthsLine.{LengthsLine}
use Rattle.schedule_file.specs.declared.header_line.RuleLine.{RuleLine}
use Rattle.schedule_file.specs.declared.header_line.RuleLine.TheVariants as rule
use Rattle.schedule_file.specs.declared.line_cause.LineCause.{LineCause}
use Rattle.schedule_file.specs.declared.line_cause.LineCause.TheVariants as cause
use Rattle.schedule_file.specs.declared.place.Place.{Place}
use Rattle.schedule_file.specs.declared.place.Place.TheVariants as place
use Rattle.schedule_file.specs.declared.place.Word.{Word}
use Rattle.schedule_file.specs.declared.place.Word.TheVariants as header_word

-- the kind of a header, its place after the lines that were read, and what these lines say; what they don't say is as
-- in a new one
pub record Heading : Type 0 where
  pub kind : HeaderKind
  pub place : Place
  pub lengths : LengthsLine
  pub master : MasterValues
  pub slave : SlaveValues

-- a header of which no line is read; its values are such as settings may have
abbrev pub heading_new : HeaderKind → Heading
heading_new kind = record {
  kind = kind;
  place = place.Start;
  lengths = record { master = 1; slave = 1 };
  master = master_begun (record { conn = 1; address = 0; watchdog = 1; nonce = 0 });
  slave = slave_begun (record { address = 0; hand = 1; most = 1; nonce = 0 });
}

-- a header is done once its line `go` is read
abbrev pub heading_is_whole : Heading → Bool
heading_is_whole h = is_last h.place

-- where a header is after a `rule` line
abbrev pub rule_place : RuleLine → Place
rule_place (rule.Any n) = place.RuleAny
rule_place rule.Exact = place.RuleExact
rule_place rule.Ranges = place.RuleRanges

-- the end whose line was read last is in profile Two for its nonce, so that its `profile` line has to come next
abbrev pub wants_profile : Place → MasterValues → SlaveValues → Bool
wants_profile place.Master master slave = is_two master.profile
wants_profile place.Slave master slave = is_two slave.profile
wants_profile other master slave = false

-- where a `profile` line has to come, any other line is out of range
abbrev pub profile_given : Heading → Word → Result (Unit {0}) LineCause
profile_given h header_word.Profile = Ok tt
profile_given h other = if wants_profile h.place h.master h.slave then Err cause.Range else Ok tt

-- a `profile` line is that of the end whose line stands before it; after a master's the same may follow as after an
-- `app`, so it is the same place
abbrev pub profile_taken : Place → Heading → ℕ → Heading
profile_taken place.Slave h word = record h { place = place.SlaveProfile; slave = record h.slave { profile = profile.Two word } }
profile_taken other h word = record h { place = place.App; master = record h.master { profile = profile.Two word } }

-- a header after a line that says this
abbrev pub heading_with : Heading → HeaderLine → Result Heading LineCause
heading_with h (says.Lengths line) = Ok (record h { place = place.Lengths; lengths = line })
heading_with h (says.Master line) = Ok (record h { place = place.Master; master = master_begun line })
heading_with h (says.Profile word) = Ok (profile_taken h.place h word)
heading_with h (says.App bytes) = map_ok (λ master. record h { place = place.App; master = master }) (master_with_app h.master bytes)
heading_with h (says.Slave line) = Ok (record h { place = place.Slave; slave = slave_begun line })
heading_with h (says.Rule line) = Ok (record h { place = rule_place line; slave = record h.slave { rule = rule_begun line } })
heading_with h (says.Bytes bytes) = map_ok (λ slave. record h { place = place.RuleExact; slave = slave }) (slave_with_bytes h.slave bytes)
heading_with h (says.Range pairs) = map_ok (λ slave. record h { place = place.RuleRanges; slave = slave }) (slave_with_pairs h.slave pairs)
heading_with h says.Go = Ok (record h { place = place.Done })

-- a header after its first line
abbrev pub title_taken : Heading → List ℕ → Result Heading LineCause
title_taken h text = if bytes_eq text (title_of h.kind) then Ok (record h { place = place.Title }) else Err cause.Header

-- a header after a later line, by its fields
abbrev pub fields_taken : Heading → List (List ℕ) → Result Heading LineCause
fields_taken h [] = Err cause.Header
fields_taken h (first ∷ fields) = do
  word ← admitted h.kind h.place (header_word_of first)
  line ← header_line word fields
  given ← profile_given h word
  heading_with h line

-- a header after its next line, or why that line is refused
abbrev pub heading_after : Heading → List ℕ → Result Heading LineCause
heading_after h text = if is_start h.place then title_taken h text else fields_taken h (fields_of text)

-- settings of a master with the lengths and the values that a header says
abbrev pub IsMasterOf : Heading → MasterSettings → Type 0
IsMasterOf h s =
    (s.lengths.master ≡ h.lengths.master)
    × (s.lengths.slave ≡ h.lengths.slave)
    × IsMasterSetTo s s.lengths h.master.line.conn h.master.line.address h.master.line.watchdog h.master.app h.master.line.nonce h.master.profile

-- settings of a slave with the lengths and the values that a header says
abbrev pub IsSlaveOf : Heading → SlaveSettings → Type 0
IsSlaveOf h s =
    (s.lengths.master ≡ h.lengths.master)
    × (s.lengths.slave ≡ h.lengths.slave)
    × IsSlaveSetTo s s.lengths h.slave.line.address h.slave.line.hand h.slave.line.most h.slave.rule h.slave.line.nonce h.slave.profile
