-- What a line says, in room that is kept, and why it says nothing that is written.
use Rattle.std.specs.Prelude.{ℕ, List, [], ◌∷◌, Result, Ok, Err}
use Rattle.schedule_file.specs.Fields.{number_16}
use Rattle.schedule_file.specs.declared.line_cause.LineCause.{LineCause}
use Rattle.schedule_file.specs.declared.line_cause.LineCause.TheVariants as cause
use Rattle.image_file.specs.declared.event.ImageEvent.{ImageEvent}
use Rattle.image_file.specs.declared.event.ImageEvent.TheVariants as image_event
use Rattle.image_file.specs.declared.event.ImageLine.{ImageLine}
use Rattle.image_file.specs.declared.event.ImageLine.TheVariants as image_says
use Rattle.image_file.specs.declared.said.Kind.{Kind}
use Rattle.image_file.specs.declared.said.Kind.TheVariants as kind

-- what was said last, where a write stands in a place of its own
abbrev pub said_in : Kind → ImageEvent → ImageEvent → ImageLine
said_in kind.Write write other = image_says.Step write
said_in kind.Other write other = image_says.Step other
said_in kind.End write other = image_says.End

-- bytes are written
abbrev pub IsWrite : ImageEvent → Type 0
IsWrite (image_event.Write at bytes) = Unit {0}
IsWrite other = ⊥

-- a cause, or the one for want of a value that comes before it
abbrev pub cause_or : {A : Type 0} → LineCause → Result A LineCause → LineCause
cause_or cause (Ok x) = cause
cause_or cause (Err e) = e

-- why a place says nothing that is written with these fields behind it, of which none is bytes: there isn't one, the
-- place is no number, or there are no bytes
abbrev pub not_written : List ℕ → List (List ℕ) → LineCause
not_written place [] = cause.Fields
not_written place (digits ∷ []) = cause_or cause.Hex (number_16 place)
not_written place (digits ∷ next ∷ more) = cause.Fields
