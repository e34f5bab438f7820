-- What the value of a key may be: first its kind, and then its range or its form.
use Rattle.std.specs.Prelude.{ℕ, ℤ, pos, negsuc, Bool, ◌==◌, nat_le, ◌&&◌, codes, drop, length, List, [], ◌∷◌, take, Option, Some, None, Result, Ok, Err, is_some, option_map, option_and_then, if◌then◌else◌}
use Rattle.std.specs.List.{after_first, before_first, filter_map, list_all}
use Rattle.std.specs.Option.{option_or}
use Rattle.std.specs.Str.{bytes_eq}
use Rattle.hex.specs.Hex.{decode_of}
use Rattle.hex.specs.declared.error.FromHexError.{FromHexError}
use Rattle.toml.specs.Data.{Data, Items, no_items, item, Members, as_str, as_integer, as_array, as_table}
use Rattle.fsoe_base.specs.Lengths.{is_length}
use Rattle.failsafe_io.specs.declared.bit.Bit.{Bit}
use Rattle.fb_lib.specs.declared.kind.BlockKind.{BlockKind}
use Rattle.fb_lib.specs.declared.kind.BlockKind.TheVariants as kind
use Rattle.fb_net.specs.declared.wire.Wire.{Wire}
use Rattle.fb_net.specs.declared.wire.Wire.TheVariants as wire
use Rattle.param_load.specs.declared.app_rule.AppRule.{AppRule}
use Rattle.param_load.specs.declared.app_rule.AppRule.TheVariants as app_rule
use Rattle.schedule_file.specs.Field.{number_said, word_in}
use Rattle.plant_conf.specs.declared.key.Key.{Key}
use Rattle.plant_conf.specs.declared.fault.ConfFault.{ConfFault}
use Rattle.plant_conf.specs.declared.fault.ConfFault.TheVariants as conf_fault
use Rattle.schedule_file.specs.Fields.{◌>>=◌, value_or}

-- what a value says at a key, or why not
abbrev pub Form : Type 0 → Type 0
Form A = Key → Data → Result A ConfFault

-- a value of this kind, else `Kind`; and in this form, else `Range`
abbrev pub formed : {A B : Type 0} → (Data → Option B) → (B → Option A) → Form A
formed kind form key d = do
  found ← value_or (conf_fault.Kind key) (kind d)
  value_or (conf_fault.Range key) (form found)

-- a whole number of these
abbrev pub whole_said : (ℕ → Bool) → ℤ → Option ℕ
whole_said allowed (pos n) = if allowed n then Some n else None
whole_said allowed (negsuc n) = None

-- a whole number from `low` to `high`
unfoldable pub whole_number : ℕ → ℕ → Form ℕ
whole_number low high = formed as_integer (whole_said (λ n. nat_le low n && nat_le n high))

-- a number of safe data bytes that an end may have
abbrev pub data_length : Form ℕ
data_length = formed as_integer (whole_said is_length)

-- any text
abbrev pub text : Form (List ℕ)
text = formed as_str Some

-- bytes that are at most so many
abbrev pub at_most : ℕ → Result (List ℕ) FromHexError → Option (List ℕ)
at_most most (Ok bytes) = if nat_le (length bytes) most then Some bytes else None
at_most most (Err e) = None

-- a text that is at most `most` bytes in hexadecimal, or none
unfoldable pub hex_bytes : ℕ → Form (List ℕ)
hex_bytes most = formed as_str (λ t. at_most most (decode_of t))

-- what a rule says of application parameters: any of as many bytes as these, or exactly these
abbrev pub rule_said : List ℕ → List ℕ → Option AppRule
rule_said app = word_in ((codes "any", app_rule.Any (length app)) ∷ (codes "exact", app_rule.Exact app) ∷ [])

abbrev pub rule_form : List ℕ → Form AppRule
rule_form app = formed as_str (rule_said app)

-- the kinds of blocks
abbrev pub block_kind_said : List ℕ → Option BlockKind
block_kind_said = word_in (
    (codes "const0", kind.Const0) ∷ (codes "const1", kind.Const1) ∷ (codes "and", kind.And) ∷ (codes "or", kind.Or)
    ∷ (codes "latch", kind.Latch) ∷ (codes "estop", kind.Estop) ∷ (codes "twohand", kind.TwoHand)
    ∷ (codes "ondelay", kind.OnDelay) ∷ (codes "offdelay", kind.OffDelay) ∷ (codes "feedback", kind.Feedback) ∷ [])

abbrev pub block_kind : Form BlockKind
block_kind = formed as_str block_kind_said

-- the number of 16 bits that follows these bytes, where a text begins with them
abbrev pub number_after : List ℕ → List ℕ → Option ℕ
number_after prefix t = if bytes_eq (take (length prefix) t) prefix then number_said 65535 (drop (length prefix) t) else None

abbrev pub is_dot : ℕ → Bool
is_dot b = b == 46

-- a letter, and then `<k>.<bit>`: a connection and a bit of its image. A second dot would be no part of a number
abbrev pub bit_said : List ℕ → List ℕ → Option Bit
bit_said letter t =
    option_and_then (λ bit. option_map (λ link. record { link = link; bit = bit }) (number_after letter (before_first is_dot t)))
    (number_said 65535 (after_first is_dot t))

-- `i<k>.<bit>`, or `b<number>`
abbrev pub wire_said : List ℕ → Option Wire
wire_said t = option_or (option_map wire.Input (bit_said (codes "i") t)) (option_map wire.Block (number_after (codes "b") t))

-- a bit after its letter
abbrev pub bit_after : List ℕ → Form Bit
bit_after letter = formed as_str (bit_said letter)

abbrev pub one_wire : Form Wire
one_wire = formed as_str wire_said

-- items as a list
abbrev pub values_of : Items → List Data
values_of no_items = []
values_of (item d ds) = d ∷ values_of ds

-- what each of a list gives, where all of them give something
abbrev pub all_give : {A B : Type 0} → (A → Option B) → List A → Option (List B)
all_give f xs = if list_all (λ x. is_some (f x)) xs then Some (filter_map f xs) else None

-- the values of an array
unfoldable pub values_in : Data → Option (List Data)
values_in d = option_map values_of (as_array d)

-- an array whose values are all of one kind
abbrev pub as_array_of : {A : Type 0} → (Data → Option A) → Data → Option (List A)
as_array_of kind d = option_and_then (all_give kind) (values_in d)

-- an array of texts, each of which is a wire
abbrev pub wires : Form (List Wire)
wires = formed (as_array_of as_str) (all_give wire_said)

-- a table, and an array of tables
abbrev pub one_table : Form Members
one_table = formed as_table Some

abbrev pub tables : Form (List Members)
tables = formed (as_array_of as_table) Some
