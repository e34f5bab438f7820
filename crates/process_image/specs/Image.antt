-- Bytes of an image, and the input image by looking back over calls, newest first.
use Rattle.std.specs.Prelude.{ℕ, ◌+◌, List, [], ◌∷◌, ◌++◌, length, take, drop, replicate, slice_range}
use Rattle.image_file.specs.declared.event.ImageEvent.{ImageEvent}
use Rattle.image_file.specs.declared.event.ImageEvent.TheVariants as image_event

-- so many bytes of an image from a place on
abbrev pub bytes_at : ℕ → ℕ → List ℕ → List ℕ
bytes_at at len image = slice_range image at (at + len)

-- an image with these bytes from a place on, in place of its own
abbrev pub with_bytes : ℕ → List ℕ → List ℕ → List ℕ
with_bytes at bytes image = take at image ++ bytes ++ drop (at + length bytes) image

-- the input image of this size after these calls: what was written last, and zeros where nothing was
abbrev pub input : ℕ → List ImageEvent → List ℕ
input size [] = replicate size 0
input size (image_event.Write at bytes ∷ calls) = with_bytes at bytes (input size calls)
input size (_ ∷ calls) = input size calls

-- the input image as it was sampled last: zeros before the first sample
abbrev pub sampled : ℕ → List ImageEvent → List ℕ
sampled size [] = replicate size 0
sampled size (image_event.Sample ∷ calls) = input size calls
sampled size (_ ∷ calls) = sampled size calls
