-- A header of several pairs as far as it is read: its first line, and for each pair a `pair` line and the lines that
-- the header of one pair has between its first line and `go`, which are read as those of such a header. At last comes
-- `go`.
use Rattle.std.specs.Prelude.{ℕ, ◌+◌, ◌==◌, ◌&&◌, nat_le, Bool, true, false, length, List, [], ◌∷◌, ◌++◌, codes, Result, Ok, Err, if◌then◌else◌}
use Rattle.std.specs.Str.{bytes_eq}
use Rattle.schedule_file.specs.Field.{fields_of}
use Rattle.schedule_file.specs.Fields.{◌>>=◌, by_word, one_field, number_16}
use Rattle.schedule_file.specs.Header.{Heading, heading_new, heading_after, heading_is_whole}
use Rattle.schedule_file.specs.Limits.{most_pairs}
use Rattle.schedule_file.specs.NodeHeader.{may_end}
use Rattle.schedule_file.specs.declared.header_kind.HeaderKind.TheVariants as header_kind
use Rattle.schedule_file.specs.declared.line_cause.LineCause.{LineCause}
use Rattle.schedule_file.specs.declared.line_cause.LineCause.TheVariants as cause
use Rattle.schedule_file.specs.declared.pairs_header.PairsStage.{PairsStage}
use Rattle.schedule_file.specs.declared.pairs_header.PairsStage.TheVariants as pairs_stage
use Rattle.schedule_file.specs.declared.place.Place.TheVariants as place

-- a header after the lines that were read: the pairs before the last one, and the last one; before the first `pair`
-- line it stands for nothing
pub record PairsHeading : Type 0 where
  pub stage : PairsStage
  pub before : List Heading
  pub last : Heading

-- a pair of which its `pair` line alone is read: its `lengths` come next
abbrev pub pair_begun : Heading
pair_begun = record (heading_new header_kind.Pair) { place = place.Title }

-- a header of which no line is read
abbrev pub pairs_heading_new : PairsHeading
pairs_heading_new = record { stage = pairs_stage.Start; before = []; last = pair_begun }

-- after `go`
abbrev pub is_done : PairsStage → Bool
is_done pairs_stage.Done = true
is_done other = false

-- a header is done once its line `go` is read
abbrev pub pairs_heading_is_whole : PairsHeading → Bool
pairs_heading_is_whole h = is_done h.stage

-- the pairs of which a line was read
abbrev pub pairs_begun : PairsStage → List Heading → Heading → List Heading
pairs_begun pairs_stage.Pairs before last = before ++ last ∷ []
pairs_begun pairs_stage.Done before last = before ++ last ∷ []
pairs_begun other before last = []

abbrev pub pairs_of : PairsHeading → List Heading
pairs_of h = pairs_begun h.stage h.before h.last

-- the number of the next pair: they count from 1 to at most 16, without a gap
abbrev pub next_pair : ℕ → List (List ℕ) → Result (Unit {0}) LineCause
next_pair number fields = do
  field ← one_field fields
  n ← number_16 field
  if n == number && nat_le n most_pairs then Ok tt else Err cause.Range

-- a header after a `pair` line
abbrev pub pair_taken : PairsHeading → List (List ℕ) → Result PairsHeading LineCause
pair_taken h fields = do
  next ← next_pair (length (pairs_of h) + 1) fields
  Ok (record { stage = pairs_stage.Pairs; before = pairs_of h; last = pair_begun })

-- how far a header is after a line of its last pair: with `go` it is done
abbrev pub stage_after : Heading → PairsStage
stage_after last = if heading_is_whole last then pairs_stage.Done else pairs_stage.Pairs

-- a header after a line of its last pair
abbrev pub last_taken : PairsHeading → List ℕ → Result PairsHeading LineCause
last_taken h text = do
  last ← heading_after h.last text
  Ok (record h { stage = stage_after last; last = last })

-- a header after a line, by its first field and those after it: after the title comes the first `pair`, and where the
-- lines of a pair may end, the next one or `go`
abbrev pub pairs_line_taken : PairsStage → PairsHeading → List ℕ → List ℕ → List (List ℕ) → Result PairsHeading LineCause
pairs_line_taken pairs_stage.Start h text first fields = if bytes_eq text (codes "fsoe 2 pairs") then Ok (record h { stage = pairs_stage.Title }) else Err cause.Header
pairs_line_taken pairs_stage.Title h text first fields = if bytes_eq first (codes "pair") then pair_taken h fields else Err cause.Header
pairs_line_taken pairs_stage.Pairs h text first fields = if bytes_eq first (codes "pair") && may_end h.last then pair_taken h fields else last_taken h text
pairs_line_taken other h text first fields = Err cause.Header

-- a header after its next line, or why that line is refused
abbrev pub pairs_heading_after : PairsHeading → List ℕ → Result PairsHeading LineCause
pairs_heading_after h text = by_word cause.Header (pairs_line_taken h.stage h text) (fields_of text)
