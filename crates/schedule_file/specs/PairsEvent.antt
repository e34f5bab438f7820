-- What a line says that stands after the header of several pairs: `t`, a tick of all pairs; `end`; or the number of a
-- pair, from 1, and an event of this pair. The causes come in their order over the whole line, so those of the event
-- that come before that of its pair count.
use Rattle.std.specs.Prelude.{ℕ, zero, suc, nat_lt, nat_le, ◌&&◌, length, List, Bool, codes, Option, Some, None, Result, Ok, Err, slice_get, if◌then◌else◌}
use Rattle.std.specs.Str.{bytes_eq, all_ascii_digits}
use Rattle.fsoe_base.specs.declared.command.End.{End}
use Rattle.param_load.specs.declared.profile.Profile.{Profile}
use Rattle.param_load.specs.declared.profile.Profile.TheVariants as profile
use Rattle.schedule_file.specs.EventLine.{bare_line, event_said}
use Rattle.schedule_file.specs.Field.{fields_of, number_said}
use Rattle.schedule_file.specs.Fields.{◌>>=◌, map_ok, value_or, by_word, next_field}
use Rattle.schedule_file.specs.LineCause.{cause_order}
use Rattle.schedule_file.specs.PairEvent.{pair_word_of, pair_event}
use Rattle.schedule_file.specs.declared.event.Event.{Event}
use Rattle.schedule_file.specs.declared.event_line.EventWord.{EventWord}
use Rattle.schedule_file.specs.declared.line_cause.LineCause.{LineCause}
use Rattle.schedule_file.specs.declared.line_cause.LineCause.TheVariants as cause
use Rattle.schedule_file.specs.declared.pairs_line.PairsLine.{PairsLine}
use Rattle.schedule_file.specs.declared.pairs_line.PairsLine.TheVariants as said

-- what is kept of the pair of this number, from 1, where there is one
abbrev pub numbered : {X : Type 0} → ℕ → List X → Option X
numbered zero pairs = None
numbered (suc before) pairs = slice_get pairs before

-- digits alone, also with leading zeros
abbrev pub is_digits : List ℕ → Bool
is_digits text = nat_lt 0 (length text) && all_ascii_digits text

-- of two causes of a line the one that counts: that which comes first in their order
abbrev pub first_cause : LineCause → LineCause → LineCause
first_cause a b = if nat_le (cause_order a) (cause_order b) then a else b

-- why a line is refused that has this cause, and maybe another by its event
abbrev pub refused_for : LineCause → Result Event LineCause → LineCause
refused_for found (Ok said) = found
refused_for found (Err other) = first_cause found other

-- what a word says with its fields to a pair that isn't there. Its ends have profile One. Lengths don't matter, since
-- the causes that come of them count after that of the pair
abbrev pub unlinked : EventWord × End → List (List ℕ) → Result Event LineCause
unlinked word fields = event_said (λ _. 1) profile.One word fields

-- what a word says with its fields to a pair, where both are found what its ends send and their profiles
abbrev pub said_to : ℕ → Option (End → ℕ) → Option (End → Profile) → EventWord × End → List (List ℕ) → Result PairsLine LineCause
said_to pair (Some sends) (Some profiles) word fields = map_ok (said.One pair) (pair_event sends profiles word fields)
said_to pair None profiles word fields = Err (refused_for cause.NoLink (unlinked word fields))
said_to pair (Some sends) None word fields = Err (refused_for cause.NoLink (unlinked word fields))

-- what a word says with its fields to the pair of a number, where it is one
abbrev pub said_to_number : List (End → ℕ) → List (End → Profile) → Option ℕ → EventWord × End → List (List ℕ) → Result PairsLine LineCause
said_to_number sends profiles None word fields = Err (refused_for cause.Number (unlinked word fields))
said_to_number sends profiles (Some pair) word fields = said_to pair (numbered pair sends) (numbered pair profiles) word fields

-- what the fields after digits say: the word of an event, and its own fields
abbrev pub numbered_line : List (End → ℕ) → List (End → Profile) → List ℕ → List (List ℕ) → Result PairsLine LineCause
numbered_line sends profiles digits fields = do
  second ← next_field fields
  word ← value_or cause.Word (pair_word_of second.0)
  said_to_number sends profiles (number_said 65535 digits) word second.1

-- what the fields of a line say that begins with no digits alone
abbrev pub common_line : List ℕ → List (List ℕ) → Result PairsLine LineCause
common_line first fields =
    if bytes_eq first (codes "t") then bare_line said.Tick fields
    else if bytes_eq first (codes "end") then bare_line said.End fields
    else Err cause.Word

-- what the fields of a line say that begins so
abbrev pub pairs_said : List (End → ℕ) → List (End → Profile) → List ℕ → List (List ℕ) → Result PairsLine LineCause
pairs_said sends profiles first fields = if is_digits first then numbered_line sends profiles first fields else common_line first fields

-- what a line says to pairs whose ends send so many safe data bytes and have these profiles
abbrev pub pairs_line : List (End → ℕ) → List (End → Profile) → List ℕ → Result PairsLine LineCause
pairs_line sends profiles text = by_word cause.Word (pairs_said sends profiles) (fields_of text)
