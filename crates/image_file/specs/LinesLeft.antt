-- How many lines a header of images may still have.
use Rattle.std.specs.Prelude.{ℕ, ◌+◌, ◌-◌, ◌*◌, length}
use Rattle.schedule_file.specs.LinesLeft.{lines_left}
use Rattle.image_file.specs.Header.{ImageHeading, slots_of}
use Rattle.image_file.specs.Places.{most_slots}
use Rattle.image_file.specs.declared.header.SlotHeader.{SlotHeader}
use Rattle.image_file.specs.declared.header.Stage.{Stage}
use Rattle.image_file.specs.declared.header.Stage.TheVariants as image_stage

-- before the first slot, or of the last slot
abbrev pub own_left : Stage → SlotHeader → ℕ
own_left image_stage.Start last = 2
own_left image_stage.Title last = 1
own_left image_stage.Size last = 0
own_left image_stage.Slots last = lines_left last.own
own_left image_stage.Done last = lines_left last.own

-- at most 1,032 lines are those of each slot that is still to come
abbrev pub image_lines_left : ImageHeading → ℕ
image_lines_left h = own_left h.stage h.last + 1032 * (most_slots - length (slots_of h))
