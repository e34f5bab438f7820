-- Which slots of a header were tested, and that there are images with them.
use Rattle.std.specs.Prelude.{◌≡◌, ℕ, Bool, true, false, List, [], ◌∷◌, ◌++◌, map, if◌then◌else◌}
use Rattle.schedule_file.specs.declared.place.Place.{Place}
use Rattle.schedule_file.specs.declared.place.Place.TheVariants as place
use Rattle.image_file.specs.Header.{ImageHeading, heading_spans}
use Rattle.image_file.specs.Places.{lie_inside, overlap}
use Rattle.image_file.specs.declared.header.SlotHeader.{SlotHeader}
use Rattle.image_file.specs.declared.header.Stage.{Stage}
use Rattle.image_file.specs.declared.header.Stage.TheVariants as image_stage
use Rattle.image_file.specs.declared.spans.Spans.{Spans}

-- frames that take these bytes share none with any of the others
abbrev pub IsApart : Spans → List Spans → Type 0
IsApart s [] = Unit {0}
IsApart s (t ∷ later) = (overlap s t ≡ false) × IsApart s later

-- frames of slots lie inside images of these sizes, and those of no two slots share a byte
abbrev pub Fit : ℕ → ℕ → List Spans → Type 0
Fit size_in size_out [] = Unit {0}
Fit size_in size_out (s ∷ later) = (lie_inside size_in size_out s ≡ true) × IsApart s later × Fit size_in size_out later

-- the `master` or `slave` line of a slot was read: which bytes its frames take is said by then, and no later line
-- changes it
abbrev pub is_placed : Place → Bool
is_placed place.Start = false
is_placed place.Title = false
is_placed place.Lengths = false
is_placed other = true

-- the slots of a header that were tested, by how far it is: the last one once it is placed
abbrev pub tested_by : Stage → List SlotHeader → SlotHeader → List SlotHeader
tested_by image_stage.Slots before last = if is_placed last.own.place then before ++ last ∷ [] else before
tested_by image_stage.Done before last = before ++ last ∷ []
tested_by other before last = []

-- they fit the images of the header
abbrev pub IsTested : ImageHeading → Type 0
IsTested h = Fit h.size_in h.size_out (map heading_spans (tested_by h.stage h.before h.last))
