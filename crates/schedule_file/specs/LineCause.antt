-- Why a line is refused.
use Rattle.std.specs.Prelude.{ℕ, List, codes}
use Rattle.schedule_file.specs.declared.line_cause.LineCause.{LineCause}
use Rattle.schedule_file.specs.declared.line_cause.LineCause.TheVariants as cause

-- the name of a cause, which a report writes
abbrev pub cause_name : LineCause → List ℕ
cause_name cause.Header = codes "Header"
cause_name cause.Word = codes "Word"
cause_name cause.Fields = codes "Fields"
cause_name cause.Number = codes "Number"
cause_name cause.NoLink = codes "NoLink"
cause_name cause.Reference = codes "Reference"
cause_name cause.Hex = codes "Hex"
cause_name cause.Length = codes "Length"
cause_name cause.Range = codes "Range"
cause_name cause.Position = codes "Position"

-- the place of a cause in the order in which causes count
abbrev pub cause_order : LineCause → ℕ
cause_order cause.Header = 0
cause_order cause.Word = 1
cause_order cause.Fields = 2
cause_order cause.Number = 3
cause_order cause.NoLink = 4
cause_order cause.Reference = 5
cause_order cause.Hex = 6
cause_order cause.Length = 7
cause_order cause.Range = 8
cause_order cause.Position = 9
