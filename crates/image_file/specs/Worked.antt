-- Worked lines of images, and slots with a fault.
use Rattle.std.specs.Prelude.{ℕ, List, [], ◌∷◌, codes, replicate, Result, Ok}
use Rattle.hex.specs.Hex.{decode_of}
use Rattle.param_load.specs.declared.profile.Profile.TheVariants as profile
use Rattle.schedule_file.specs.Fields.{◌>>=◌, map_ok}
use Rattle.schedule_file.specs.declared.line_cause.LineCause.{LineCause}
use Rattle.end_model.specs.Setup.{Setup}
use Rattle.end_model.specs.WorkedRuns.{a_slave, if_bytes}
use Rattle.image_file.specs.EventLine.{image_line}
use Rattle.image_file.specs.Header.{ImageHeading, image_heading_new, image_heading_after}
use Rattle.image_file.specs.Places.{Place, Plan}
use Rattle.image_file.specs.declared.event.ImageEvent.{ImageEvent}
use Rattle.image_file.specs.declared.event.ImageLine.{ImageLine}
use Rattle.image_file.specs.declared.event.ImageEvent.TheVariants as image_event
use Rattle.image_file.specs.declared.header.Stage.{Stage}

-- a header after these lines, or why one of them is refused
abbrev pub after_lines : Result ImageHeading LineCause → List (List ℕ) → Result ImageHeading LineCause
after_lines h [] = h
after_lines h (text ∷ texts) = after_lines (h >>= (λ heading. image_heading_after heading text)) texts

-- bytes are written, in hexadecimal
abbrev pub w : ℕ → List ℕ → ImageEvent
w at text = image_event.Write at (if_bytes (decode_of text))

-- the slot of this number, whose frames begin here in both images
abbrev pub slot_at : ℕ → ℕ → ℕ → Setup → Place
slot_at number at_in at_out setup = record { number = number; at_in = at_in; at_out = at_out; setup = setup }

-- two slots of seven bytes that share the last byte of the first
abbrev pub sharing : Plan
sharing = record { size_in = 14; size_out = 14; places = slot_at 1 0 0 a_slave ∷ slot_at 2 6 7 a_slave ∷ [] }

-- 65 slots that share all bytes and lie outside of the output image
abbrev pub crowded : Plan
crowded = record { size_in = 7; size_out = 6; places = replicate 65 (slot_at 1 0 0 a_slave) }

-- the lines of two slots that a slave has, the second of which begins here
abbrev pub two_slots : List ℕ → List (List ℕ)
two_slots second =
    codes "fsoe 1 image"
    ∷ codes "size 14 14"
    ∷ codes "slot 1 0 0"
    ∷ codes "lengths 2 2"
    ∷ codes "slave 2 200 1000 2"
    ∷ codes "rule any 0"
    ∷ second
    ∷ codes "lengths 2 2"
    ∷ codes "slave 2 200 1000 2"
    ∷ []

-- the lines of one slot in images of 11 and of 7 bytes, whose master sends four bytes and whose slave two
abbrev pub one_uneven : List ℕ → List (List ℕ)
one_uneven end = codes "fsoe 1 image" ∷ codes "size 11 7" ∷ codes "slot 1 0 0" ∷ codes "lengths 4 2" ∷ end ∷ []

-- where a header is after these lines
abbrev pub stage_after : List (List ℕ) → Result Stage LineCause
stage_after texts = map_ok (λ h. h.stage) (after_lines (Ok image_heading_new) texts)

-- what a line says to images of 14 bytes with one slave of two and two bytes
abbrev pub one_said : List ℕ → Result ImageLine LineCause
one_said text = image_line 14 (record { sends = 2; profile = profile.One } ∷ []) text
