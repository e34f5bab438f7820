-- What a line of a header says, from its second line on. The causes come in their order: the number of
-- fields, a number, the hexadecimal bytes, a length, a range.
use Rattle.std.specs.Prelude.{ℕ, ◌==◌, ◌&&◌, ◌||◌, nat_le, length, List, [], ◌∷◌, codes, Result, Ok, Err, if◌then◌else◌}
use Rattle.std.specs.Str.{bytes_eq}
use Rattle.fsoe_base.specs.Lengths.{is_length}
use Rattle.schedule_file.specs.Field.{word_in}
use Rattle.schedule_file.specs.Fields.{◌>>=◌, map_ok, value_or, next_field, no_field, one_field, number_16, number_32, one_hex_field}
use Rattle.schedule_file.specs.Limits.{max_app, max_hex}
use Rattle.schedule_file.specs.declared.header_line.HeaderLine.{HeaderLine}
use Rattle.schedule_file.specs.declared.header_line.HeaderLine.TheVariants as says
use Rattle.schedule_file.specs.declared.header_line.LengthsLine.{LengthsLine}
use Rattle.schedule_file.specs.declared.header_line.MasterLine.{MasterLine}
use Rattle.schedule_file.specs.declared.header_line.RuleLine.{RuleLine}
use Rattle.schedule_file.specs.declared.header_line.RuleLine.TheVariants as rule
use Rattle.schedule_file.specs.declared.header_line.SlaveLine.{SlaveLine}
use Rattle.schedule_file.specs.declared.line_cause.LineCause.{LineCause}
use Rattle.schedule_file.specs.declared.line_cause.LineCause.TheVariants as cause
use Rattle.schedule_file.specs.declared.place.Word.{Word}
use Rattle.schedule_file.specs.declared.place.Word.TheVariants as header_word

-- the number of safe data bytes that each end sends
abbrev pub lengths_line : List (List ℕ) → Result LengthsLine LineCause
lengths_line fields = do
  first ← next_field fields
  second ← one_field first.1
  master ← number_16 first.0
  slave ← number_16 second
  if is_length master && is_length slave then Ok (record { master = master; slave = slave }) else Err cause.Length

-- the four fields of an end
abbrev pub four_fields : List (List ℕ) → Result (List ℕ × List ℕ × List ℕ × List ℕ) LineCause
four_fields fields = do
  first ← next_field fields
  second ← next_field first.1
  third ← next_field second.1
  fourth ← one_field third.1
  Ok (first.0, second.0, third.0, fourth)

-- the four numbers of an end: three of 16 bits, and its session id
abbrev pub end_numbers : List (List ℕ) → Result (ℕ × ℕ × ℕ × ℕ) LineCause
end_numbers fields = do
  texts ← four_fields fields
  a ← number_16 texts.0
  b ← number_16 texts.1
  c ← number_16 texts.2
  nonce ← number_32 texts.3
  Ok (a, b, c, nonce)

-- the connection id and the watchdog of a master aren't 0
abbrev pub master_line : List (List ℕ) → Result MasterLine LineCause
master_line fields = do
  n ← end_numbers fields
  if n.0 == 0 || n.2 == 0 then Err cause.Range else Ok (record { conn = n.0; address = n.1; watchdog = n.2; nonce = n.3 })

-- the limit of a handshake and the longest watchdog of a slave aren't 0
abbrev pub slave_line : List (List ℕ) → Result SlaveLine LineCause
slave_line fields = do
  n ← end_numbers fields
  if n.1 == 0 || n.2 == 0 then Err cause.Range else Ok (record { address = n.0; hand = n.1; most = n.2; nonce = n.3 })

-- the word of profile Two
abbrev pub profile_line : List (List ℕ) → Result ℕ LineCause
profile_line fields = do
  field ← one_field fields
  number_16 field

-- a rule for any bytes says how many, at most 512
abbrev pub any_line : List (List ℕ) → Result RuleLine LineCause
any_line fields = do
  field ← one_field fields
  n ← number_16 field
  if nat_le n max_app then Ok (rule.Any n) else Err cause.Range

-- any other rule is `exact` or `ranges`, and its bytes come in lines of their own
abbrev pub listed_line : List ℕ → List (List ℕ) → Result RuleLine LineCause
listed_line form fields = do
  none ← no_field fields
  value_or cause.Range (word_in ((codes "exact", rule.Exact) ∷ (codes "ranges", rule.Ranges) ∷ []) form)

-- the first field of a rule says its form, and so how many fields there are
abbrev pub rule_line : List (List ℕ) → Result RuleLine LineCause
rule_line fields = do
  form ← next_field fields
  if bytes_eq form.0 (codes "any") then any_line form.1 else listed_line form.0 form.1

-- a line of ranges has at least one low and its high
abbrev pub range_line : List (List ℕ) → Result (List ℕ) LineCause
range_line fields = do
  pairs ← one_hex_field max_hex fields
  if length pairs == 1 then Err cause.Hex else Ok pairs

-- what the fields of a line say that begins with a word
abbrev pub header_line : Word → List (List ℕ) → Result HeaderLine LineCause
header_line header_word.Lengths fields = map_ok says.Lengths (lengths_line fields)
header_line header_word.Master fields = map_ok says.Master (master_line fields)
header_line header_word.Profile fields = map_ok says.Profile (profile_line fields)
header_line header_word.App fields = map_ok says.App (one_hex_field max_hex fields)
header_line header_word.Slave fields = map_ok says.Slave (slave_line fields)
header_line header_word.Rule fields = map_ok says.Rule (rule_line fields)
header_line header_word.Bytes fields = map_ok says.Bytes (one_hex_field max_hex fields)
header_line header_word.Range fields = map_ok says.Range (range_line fields)
header_line header_word.Go fields = map_ok (λ _. says.Go) (no_field fields)
