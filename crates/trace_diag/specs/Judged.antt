-- The first frame of a trace to which a row of the table applies, and what a judge of the trace stands for.
use Rattle.std.specs.Prelude.{◌≡◌, ℕ, ◌+◌, List, [], ◌∷◌, length, All, Option, Some, None, reverse}
use Rattle.fsoe_base.specs.declared.lengths.Lengths.{Lengths}
use Rattle.fsoe_frame.specs.Parts.{AreBytes}
use Rattle.trace_diag.specs.Before.{Before, before}
use Rattle.trace_diag.specs.Table.{field_of}
use Rattle.trace_diag.specs.Trace.{Noted}
use Rattle.trace_diag.specs.declared.difference.Difference.{Difference}
use Rattle.trace_diag.specs.declared.field.Field.{Field}
use Rattle.trace_diag.specs.declared.trace_line.TraceLine.{TraceLine}
use Rattle.trace_diag.specs.Lines.{TraceHeading}
use Rattle.trace_diag.specs.Report.{AreLengths}
use Rattle.trace_diag.specs.Ran.{reporting_by, DiagnosesInput}
use Rattle.file_run.specs.Reporting.{Reporting}

-- the difference before, if there was one, else that of the frame with this number
abbrev pub first_of_both : Option Difference → Option Field → ℕ → Option Difference
first_of_both (Some first) which number = Some first
first_of_both None None number = None
first_of_both None (Some which) number = Some (record { number = number; field = which })

-- the first frame of a trace to which a row of the table applies, with the field
abbrev pub first_difference : Lengths → List Noted → Option Difference
first_difference lengths [] = None
first_difference lengths (x ∷ t) = first_of_both (first_difference lengths t) (field_of lengths t x) (length t + 1)

-- what contracts see of a trace that is judged: the lengths of its frames, their number, the first difference, and what
-- is kept of the frames
pub record TraceView : Type 0 where
  pub lengths : Lengths
  pub frames : ℕ
  pub differs : Option Difference
  pub known : Before

-- what is kept is that of all frames; after a difference nothing more is judged, and what is kept may be anything
abbrev pub KnowsUnless : Option Difference → Lengths → List Noted → Before → Type 0
KnowsUnless None lengths t known = known ≡ before lengths t
KnowsUnless (Some first) lengths t known = Unit {0}

-- the frames of a trace are bytes
abbrev pub AreOfBytes : List Noted → Type 0
AreOfBytes t = All (λ x. AreBytes x.frame) t

-- a judge stands for these frames, all of which were noted
pub record TraceStands (lengths : Lengths) (t : List Noted) (v : TraceView) : Type 0 where
  pub lengths_are : v.lengths ≡ lengths
  pub count : v.frames ≡ length t
  pub bytes : AreOfBytes t
  pub first : v.differs ≡ first_difference lengths t
  pub knows : KnowsUnless v.differs lengths t v.known

-- one more frame is noted: a judge that stood for frames stands for these with it
pub record NotesFrame (old : TraceView) (x : Noted) (new : TraceView) : Type 0 where
  pub stands : (lengths : Lengths) (t : List Noted) → TraceStands lengths t old → TraceStands lengths (x ∷ t) new

-- what a judge reports of inputs whose frames are bytes, as those of each input are: so much it promises of any frames
-- that may come
abbrev pub judge_reporting : Reporting TraceHeading TraceLine Noted
judge_reporting = reporting_by (λ input ended text. AreOfBytes input.events → DiagnosesInput input ended text)

-- a judge was set to the lengths of a header, and stands for these frames, which came in order; nothing is written
-- before the end
pub record DiagnosisStands (v : TraceView) (h : TraceHeading) (log : List Noted) (text : List ℕ) : Type 0 where
  pub lengths : Lengths
  pub lengths_are : AreLengths h lengths
  pub stands : TraceStands lengths (reverse log) v
  pub unwritten : text ≡ []
