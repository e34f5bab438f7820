-- The verdict on a trace: it conforms, with what was read off it; or the first frame with which it doesn't, and the
-- field of that frame.
use Rattle.std.specs.Prelude.{◌≡◌, ℕ, ◌+◌, List, ◌∷◌, ◌++◌, length, Some}
use Rattle.fsoe_base.specs.declared.lengths.Lengths.{Lengths}
use Rattle.trace_diag.specs.Conforms.{Conforms, ConformsThroughout}
use Rattle.trace_diag.specs.Settings.{settings_told}
use Rattle.trace_diag.specs.Table.{field_of}
use Rattle.trace_diag.specs.Trace.{Noted}
use Rattle.trace_diag.specs.declared.field.Field.{Field}
use Rattle.trace_diag.specs.declared.verdict.ReadOff.{ReadOff}
use Rattle.trace_diag.specs.declared.verdict.Verdict.{Verdict}
use Rattle.trace_diag.specs.declared.verdict.Verdict.TheVariants as trace_verdict

-- a trace conforms, and this is told of its settings
pub record IsConforming (lengths : Lengths) (t : List Noted) (read : ReadOff) : Type 0 where
  pub conforms : Conforms lengths t
  pub read_is : read ≡ settings_told lengths t

-- a trace doesn't conform, and the frame of this number, from 1, is the first with which it doesn't: the trace conforms
-- after each frame before it. The field is that of the table
pub record DiffersFirst (lengths : Lengths) (t : List Noted) (number : ℕ) (which : Field) : Type 0 where
  pub before : List Noted
  pub differing : Noted
  pub after : List Noted
  pub is : t ≡ after ++ differing ∷ before
  pub number_is : number ≡ length before + 1
  pub conformed : ConformsThroughout lengths before
  pub differs : Conforms lengths (differing ∷ before) → ⊥
  pub field_is : field_of lengths before differing ≡ Some which
  pub whole : Conforms lengths t → ⊥

abbrev pub IsVerdict : Lengths → List Noted → Verdict → Type 0
IsVerdict lengths t (trace_verdict.Conforms read) = IsConforming lengths t read
IsVerdict lengths t (trace_verdict.Differs number which) = DiffersFirst lengths t number which
