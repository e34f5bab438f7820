-- When a run is fair: an end takes data that its peer put into the awaited answer, under equal terms and once, and all
-- other outputs are fail-safe. The word is this profile's own.
use Rattle.std.specs.Prelude.{ℕ, ◌≡◌, nat_eq, nat_lt, List, [], ◌∷◌, replicate, Bool, false, ◌&&◌, Option, Some, None, is_some, IsSome, if◌then◌else◌}
use Rattle.std.specs.List.{IsDistinct}
use Rattle.fsoe_base.specs.declared.command.End.{End}
use Rattle.fsoe_base.specs.declared.command.End.TheVariants as side
use Rattle.fsoe_base.specs.declared.command.Command.{Command}
use Rattle.fsoe_base.specs.declared.command.Command.TheVariants as command
use Rattle.fsoe_base.specs.declared.did.Took.{Took}
use Rattle.fsoe_base.specs.Data.{is_data}
use Rattle.fsoe_base.specs.declared.lengths.Lengths.{Lengths}
use Rattle.fsoe_base.specs.LengthsOf.{length_of}
use Rattle.fsoe_base.specs.Image.{bit_of}
use Rattle.param_load.specs.declared.terms.Terms.{Terms}
use Rattle.param_load.specs.declared.entry.Entry.{Entry}
use Rattle.end_model.specs.Deed.{ticked}
use Rattle.exchange_model.specs.Ends.{same_end, peer, of_end}
use Rattle.exchange_model.specs.Items.{Offered, FailSafe, Values, Unset, Item, items, awaited}

-- the number of safe data bytes that an end receives
abbrev pub received_len : Lengths → End → ℕ
received_len lengths which = length_of lengths (peer which)

-- the data frame that was taken, if one was
abbrev pub data_taken : Option Took → Option Took
data_taken None = None
data_taken (Some t) = if is_data t.command then Some t else None

-- the frame with l bytes of safe data that an offer makes: FailSafeData with zeros, or ProcessData with the bytes that
-- were put, zeros where none were
abbrev pub frame_with : ℕ → Offered → Took
frame_with l FailSafe = record { command = command.FailSafeData; load = replicate l 0 }
frame_with l (Values bytes) = record { command = command.ProcessData; load = bytes }
frame_with l Unset = record { command = command.ProcessData; load = replicate l 0 }

-- the frame that an item makes, if it offers something
abbrev pub frame_if : ℕ → Option Offered → Option Took
frame_if l None = None
frame_if l (Some offered) = Some (frame_with l offered)

-- a data frame that was taken is what an item was to carry, and the terms told when the item was sent are those told
-- after it was taken
pub record IsFromItem (l : ℕ) (t : Took) (told : Option Terms) (i : Item) : Type 0 where
  pub same_load : frame_if l i.offered ≡ Some t
  pub some_terms : IsSome i.terms
  pub equal_terms : i.terms ≡ told

-- a data frame is taken from an item alone
abbrev pub IsTakenFrom : ℕ → Option Took → Option Terms → Option Item → Type 0
IsTakenFrom l None told i = Unit {0}
IsTakenFrom l (Some t) told None = ⊥
IsTakenFrom l (Some t) told (Some i) = IsFromItem l t told i

-- each data frame that an end takes is from the item that it awaited before
abbrev pub TakesAwaited : Lengths → List Entry → Type 0
TakesAwaited lengths [] = Unit {0}
TakesAwaited lengths (x ∷ w) =
    IsTakenFrom (received_len lengths x.end) (data_taken x.did.took) x.terms (awaited (items w) x.end) × TakesAwaited lengths w

-- the number of an item, if there is one, before others
abbrev pub with_number : Option Item → List ℕ → List ℕ
with_number None numbers = numbers
with_number (Some i) numbers = i.number ∷ numbers

-- whether an end takes a data frame in an entry
abbrev pub takes_data : End → Entry → Bool
takes_data which x = same_end which x.end && is_some (data_taken x.did.took)

-- the numbers of the items that an end awaited where it took data frames
abbrev pub numbers_taken : End → List Entry → List ℕ
numbers_taken which [] = []
numbers_taken which (x ∷ w) = if takes_data which x then with_number (awaited (items w) which) (numbers_taken which w) else numbers_taken which w

-- whether fewer ticks came than the watchdog of these terms
abbrev pub in_time : ℕ → Option Terms → Bool
in_time n None = false
in_time n (Some terms) = nat_lt n terms.watchdog

-- the outputs by a frame that was taken n ticks ago, under the terms told then
abbrev pub outputs_by : List ℕ → ℕ → Option Terms → Command → List ℕ → List ℕ
outputs_by zeros n told command.ProcessData load = if in_time n told then load else zeros
outputs_by zeros n told _ load = zeros

-- the outputs after an entry: by the frame that it took; where it took none, what the entries before it give
abbrev pub outputs_at : List ℕ → ℕ → Option Terms → Option Took → List ℕ → List ℕ
outputs_at zeros n told None before = before
outputs_at zeros n told (Some t) before = outputs_by zeros n told t.command t.load

-- the outputs that looking back over an end's own entries gives, n ticks later
abbrev pub outputs_after : List ℕ → ℕ → List Entry → List ℕ
outputs_after zeros n [] = zeros
outputs_after zeros n (x ∷ e) =
    if is_some x.did.reset then zeros
    else outputs_at zeros n x.terms x.did.took (outputs_after zeros (ticked x.what n) e)

-- the outputs that looking back gives: the load of the frame that was taken last where it was ProcessData, no reset
-- came after it and fewer ticks than the watchdog of the terms told then; else zeros
abbrev pub outputs_due : ℕ → List Entry → List ℕ
outputs_due l e = outputs_after (replicate l 0) 0 e

-- after each entry the outputs are those that looking back gives
abbrev pub OutputsAreDue : Lengths → List Entry → Type 0
OutputsAreDue lengths [] = Unit {0}
OutputsAreDue lengths (x ∷ w) = (x.outputs ≡ outputs_due (received_len lengths x.end) (x ∷ of_end x.end w)) × OutputsAreDue lengths w

-- a run is fair, where both ends have these lengths
pub record Fair (lengths : Lengths) (w : List Entry) : Type 0 where
  pub from_awaited : TakesAwaited lengths w
  pub master_once : IsDistinct nat_eq (numbers_taken side.Master w)
  pub slave_once : IsDistinct nat_eq (numbers_taken side.Slave w)
  pub outputs : OutputsAreDue lengths w

-- whether an offer has this bit as 1: an end that is held offers zeros, and so does one that put nothing yet
abbrev pub offers_bit : ℕ → Offered → Bool
offers_bit bit FailSafe = false
offers_bit bit (Values bytes) = bit_of bytes bit
offers_bit bit Unset = false
