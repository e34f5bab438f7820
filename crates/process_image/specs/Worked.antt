-- Worked runs of images: the events of a run, and the report that is written of them.
use Rattle.std.specs.Prelude.{◌≡◌, ℕ, List, [], ◌∷◌, codes, reverse}
use Rattle.schedule_file.specs.Input.{AtEnd}
use Rattle.end_model.specs.WorkedRuns.{a_slave, a_master}
use Rattle.image_file.specs.Places.{Plan}
use Rattle.image_file.specs.Worked.{slot_at, w}
use Rattle.process_image.specs.Report.{image_report}
use Rattle.image_file.specs.declared.event.ImageEvent.{ImageEvent}
use Rattle.image_file.specs.declared.event.ImageEvent.TheVariants as image_event

-- this is the report of these events, the first of which comes first
unfoldable pub Reports : Plan → List ImageEvent → List ℕ → Type 0
Reports plan events text = image_report plan (reverse events) AtEnd ≡ text

-- one slave, whose frames fill both images
abbrev pub one_slave : Plan
one_slave = record { size_in = 7; size_out = 7; places = slot_at 1 0 0 a_slave ∷ [] }

-- a Reset frame, which is sampled twice, and a Session frame
abbrev pub two_frames : List ImageEvent
two_frames = w 0 (codes "2a0000c42d0000") ∷ image_event.Sample ∷ image_event.Sample ∷ w 0 (codes "4e0100123e0000") ∷ image_event.Sample ∷ []

-- the Session frame in two writes with a sample between them: the half of it is told as the frame that it is
abbrev pub two_halves : List ImageEvent
two_halves = w 0 (codes "2a0000c42d0000") ∷ image_event.Sample ∷ w 0 (codes "4e0100") ∷ image_event.Sample ∷ w 3 (codes "123e0000") ∷ image_event.Sample ∷ []

-- a master and a slave side by side, without a gap
abbrev pub side_by_side : Plan
side_by_side = record { size_in = 14; size_out = 14; places = slot_at 1 0 0 a_master ∷ slot_at 2 7 7 a_slave ∷ [] }

-- the master's Reset frame comes to the slave, and the slave's answer to the master: each goes on by itself
abbrev pub first_exchange : List ImageEvent
first_exchange = image_event.Tick ∷ w 7 (codes "2a0000c42d0000") ∷ image_event.Sample ∷ w 0 (codes "2a0000c42d0000") ∷ image_event.Sample ∷ []
