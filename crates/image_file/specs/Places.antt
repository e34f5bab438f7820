-- Where the frames of slots stand in the two images.
use Rattle.std.specs.Prelude.{ℕ, suc, ◌+◌, ◌&&◌, ◌||◌, nat_le, nat_lt, Bool, List, [], ◌∷◌, Option, None, zero, slice_get, ◌≡◌}
use Rattle.fsoe_base.specs.Lengths.{frame_len}
use Rattle.end_model.specs.Setup.{Setup, sends, receives}
use Rattle.image_file.specs.declared.spans.Spans.{Spans}

-- the most slots
abbrev pub most_slots : ℕ
most_slots = 64

-- whether the bytes that the frames of a slot take lie inside images of these sizes
abbrev pub lie_inside : ℕ → ℕ → Spans → Bool
lie_inside size_in size_out s = nat_le (s.at_in + s.len_in) size_in && nat_le (s.at_out + s.len_out) size_out

-- whether so many bytes from one place on and so many from another share a byte
abbrev pub share : ℕ → ℕ → ℕ → ℕ → Bool
share at len other more = nat_lt at (other + more) && nat_lt other (at + len)

-- whether two slots share a byte of one image
abbrev pub overlap : Spans → Spans → Bool
overlap s t = share s.at_in s.len_in t.at_in t.len_in || share s.at_out s.len_out t.at_out t.len_out

-- a slot as it was made: its number, where its frames begin, and what its end is set to
pub record Place : Type 0 where
  pub number : ℕ
  pub at_in : ℕ
  pub at_out : ℕ
  pub setup : Setup

-- the bytes that its frames take
abbrev pub spans_of : Place → Spans
spans_of p = record { at_in = p.at_in; len_in = frame_len (receives p.setup); at_out = p.at_out; len_out = frame_len (sends p.setup) }

-- what images were made with: their sizes, and the slots in their order
pub record Plan : Type 0 where
  pub size_in : ℕ
  pub size_out : ℕ
  pub places : List Place

-- the slot of this number, from 1
abbrev pub slot_numbered : {X : Type 0} → ℕ → List X → Option X
slot_numbered zero xs = None
slot_numbered (suc before) xs = slice_get xs before

-- slots are numbered in their order, from n on
abbrev pub AreNumbered : ℕ → List Place → Type 0
AreNumbered n [] = Unit {0}
AreNumbered n (p ∷ places) = (p.number ≡ n) × AreNumbered (suc n) places
