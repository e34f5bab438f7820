-- The text of an event in a schedule of both ends.
use Rattle.std.specs.Prelude.{ℕ, ◌<◌, ◌++◌, List, [], ◌∷◌, Bool, true, false, codes, decimal}
use Rattle.std.specs.List.{join_with_byte}
use Rattle.hex.specs.Hex.{encode_lower, IsBytes}
use Rattle.schedule_file.specs.declared.event.Event.{Event}
use Rattle.schedule_file.specs.declared.event.Event.TheVariants as event
use Rattle.schedule_file.specs.PairEvent.{end_letter}

-- off or on
abbrev pub switch_text : Bool → List ℕ
switch_text false = codes "0"
switch_text true = codes "1"

-- so many frames back
abbrev pub reference_text : ℕ → List ℕ
reference_text back = codes "-" ++ decimal back

-- the fields of an event: its word, which names the end, and what it needs besides
abbrev pub event_fields : Event → List (List ℕ)
event_fields (event.Deliver to back) = (codes "d" ++ end_letter to) ∷ reference_text back ∷ []
event_fields (event.Altered to back pos mask) = (codes "a" ++ end_letter to) ∷ reference_text back ∷ decimal pos ∷ encode_lower (mask ∷ []) ∷ []
event_fields (event.Raw to frame) = (codes "r" ++ end_letter to) ∷ encode_lower frame ∷ []
event_fields (event.Tick at) = (codes "t" ++ end_letter at) ∷ []
event_fields (event.Put at load) = (codes "p" ++ end_letter at) ∷ encode_lower load ∷ []
event_fields (event.Hold at failsafe) = (codes "h" ++ end_letter at) ∷ switch_text failsafe ∷ []
event_fields (event.Nonce at id) = (codes "n" ++ end_letter at) ∷ decimal id ∷ []
event_fields (event.Local at) = (codes "z" ++ end_letter at) ∷ []

-- the line of an event, without its newline: its fields with one space between each two
abbrev pub event_text : Event → List ℕ
event_text event = join_with_byte 32 (event_fields event)

-- the numbers of an event are those that their types have: bytes, and a session id of 32 bits
abbrev pub IsOfTypes : Event → Type 0
IsOfTypes (event.Deliver to back) = back < 256
IsOfTypes (event.Altered to back pos mask) = (back < 256) × (pos < 256) × (mask < 256)
IsOfTypes (event.Raw to frame) = IsBytes frame
IsOfTypes (event.Put at load) = IsBytes load
IsOfTypes (event.Nonce at id) = id < 4294967296
IsOfTypes other = Unit {0}
