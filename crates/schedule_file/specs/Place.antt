-- Which lines of a header may follow which.
use Rattle.std.specs.Prelude.{ℕ, Bool, true, false, not, List, [], ◌∷◌, codes, Option, Some, None, Result, Ok, Err, if◌then◌else◌}
use Rattle.fsoe_base.specs.declared.command.End.TheVariants as side
use Rattle.schedule_file.specs.Field.{word_in}
use Rattle.schedule_file.specs.HeaderKind.{has_end}
use Rattle.schedule_file.specs.declared.header_kind.HeaderKind.{HeaderKind}
use Rattle.schedule_file.specs.declared.line_cause.LineCause.{LineCause}
use Rattle.schedule_file.specs.declared.line_cause.LineCause.TheVariants as cause
use Rattle.schedule_file.specs.declared.place.Place.{Place}
use Rattle.schedule_file.specs.declared.place.Place.TheVariants as place
use Rattle.schedule_file.specs.declared.place.Word.{Word}
use Rattle.schedule_file.specs.declared.place.Word.TheVariants as header_word

-- the word that begins a line of a header
abbrev pub header_word_of : List ℕ → Option Word
header_word_of = word_in (
    (codes "lengths", header_word.Lengths) ∷ (codes "master", header_word.Master) ∷ (codes "profile", header_word.Profile)
    ∷ (codes "app", header_word.App) ∷ (codes "slave", header_word.Slave) ∷ (codes "rule", header_word.Rule)
    ∷ (codes "bytes", header_word.Bytes) ∷ (codes "range", header_word.Range) ∷ (codes "go", header_word.Go) ∷ [])

-- no line is read
abbrev pub is_start : Place → Bool
is_start place.Start = true
is_start other = false

-- after `go`
abbrev pub is_last : Place → Bool
is_last place.Done = true
is_last other = false

-- a line with this word may come next in a header of this kind: `lengths` comes after the title, then the lines of the
-- master, where the header has one, those of the slave, where it has one, and `go`
abbrev pub may_stand : HeaderKind → Place → Word → Bool
may_stand kind place.Title header_word.Lengths = true
may_stand kind place.Lengths header_word.Master = has_end kind side.Master
may_stand kind place.Lengths header_word.Slave = not (has_end kind side.Master)
may_stand kind place.Master header_word.Profile = true
may_stand kind place.Master header_word.App = true
may_stand kind place.Master header_word.Slave = has_end kind side.Slave
may_stand kind place.Master header_word.Go = not (has_end kind side.Slave)
may_stand kind place.App header_word.App = true
may_stand kind place.App header_word.Slave = has_end kind side.Slave
may_stand kind place.App header_word.Go = not (has_end kind side.Slave)
may_stand kind place.Slave header_word.Profile = true
may_stand kind place.Slave header_word.Rule = true
may_stand kind place.SlaveProfile header_word.Rule = true
may_stand kind place.RuleAny header_word.Go = true
may_stand kind place.RuleExact header_word.Bytes = true
may_stand kind place.RuleExact header_word.Go = true
may_stand kind place.RuleRanges header_word.Range = true
may_stand kind place.RuleRanges header_word.Go = true
may_stand kind place word = false

-- the word of a line that may stand here
abbrev pub admitted : HeaderKind → Place → Option Word → Result Word LineCause
admitted kind place None = Err cause.Header
admitted kind place (Some word) = if may_stand kind place word then Ok word else Err cause.Header
