-- The header of a node within a longer input, where those of many nodes follow each other: it begins at `lengths`, and
-- the line after that says of which end it is.
use Rattle.std.specs.Prelude.{ℕ, Bool, true, false, List, ◌∷◌, Option, Some, Result}
use Rattle.fsoe_base.specs.declared.command.End.TheVariants as side
use Rattle.schedule_file.specs.Field.{fields_of}
use Rattle.schedule_file.specs.Header.{Heading, heading_new, heading_after}
use Rattle.schedule_file.specs.Place.{header_word_of, may_stand}
use Rattle.schedule_file.specs.declared.header_kind.HeaderKind.{HeaderKind}
use Rattle.schedule_file.specs.declared.header_kind.HeaderKind.TheVariants as header_kind
use Rattle.schedule_file.specs.declared.line_cause.LineCause.{LineCause}
use Rattle.schedule_file.specs.declared.place.Place.{Place}
use Rattle.schedule_file.specs.declared.place.Place.TheVariants as place
use Rattle.schedule_file.specs.declared.place.Word.{Word}
use Rattle.schedule_file.specs.declared.place.Word.TheVariants as header_word

-- no line of it is read, and `lengths` comes next; it counts as that of a slave until it says otherwise
abbrev pub heading_begun : Heading
heading_begun = record (heading_new (header_kind.Node side.Slave)) { place = place.Title }

-- the node that a word says
abbrev pub kind_said : Option Word → HeaderKind → HeaderKind
kind_said (Some header_word.Master) before = header_kind.Node side.Master
kind_said (Some header_word.Slave) before = header_kind.Node side.Slave
kind_said other before = before

-- the node that a line says, by its first field: that after `lengths` says it
abbrev pub kind_after : Place → List (List ℕ) → HeaderKind → HeaderKind
kind_after place.Lengths (first ∷ fields) before = kind_said (header_word_of first) before
kind_after other fields before = before

-- such a header after its next line, or why that line is refused
abbrev pub node_heading_after : Heading → List ℕ → Result Heading LineCause
node_heading_after h text = heading_after (record h { kind = kind_after h.place (fields_of text) h.kind }) text

-- the line that was read last is that of an end
abbrev pub is_end_line : Place → Bool
is_end_line place.Master = true
is_end_line place.Slave = true
is_end_line other = false

-- the header may end here: `go` may come next
abbrev pub may_end : Heading → Bool
may_end h = may_stand h.kind h.place header_word.Go
