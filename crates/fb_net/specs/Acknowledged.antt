-- An emergency stop whose acknowledgement comes as two bits: the net of examples/emergency_stop.toml, and when its
-- drive is on.
use Rattle.std.specs.Prelude.{◌≡◌, ℕ, ◌-◌, Bool, true, false, not, ◌&&◌, ◌||◌, List, [], ◌∷◌, map, replicate, reverse, codes, if◌then◌else◌}
use Rattle.std.specs.List.{list_all}
use Rattle.failsafe_io.specs.declared.bit.Bit.{Bit}
use Rattle.failsafe_io.specs.Bits.{at_number, bit_at}
use Rattle.fb_lib.specs.declared.kind.BlockKind.{BlockKind}
use Rattle.fb_lib.specs.declared.kind.BlockKind.TheVariants as kind
use Rattle.fb_lib.specs.LookBack.{is_now, run_until_now}
use Rattle.fb_net.specs.declared.spec.Drive.{Drive}
use Rattle.fb_net.specs.declared.wire.Wire.{Wire}
use Rattle.fb_net.specs.declared.wire.Wire.TheVariants as wire
use Rattle.fb_net.specs.Guarded.{is_output_guarded}
use Rattle.fb_net.specs.Values.{NetCycle, NetBlock, block_values}

-- a block of two inputs
abbrev pub of_two : BlockKind → Wire → Wire → NetBlock
of_two k a b = record { kind = k; n = 0; ins = a ∷ b ∷ [] }

-- the blocks, by four bits: 1 while the stop is released, while the drive is there, while the acknowledgement is
-- pressed, and while that is released
abbrev pub stop_blocks : Bit → Bit → Bit → Bit → List NetBlock
stop_blocks stop there pressed released =
    of_two kind.And (wire.Input stop) (wire.Input there)
    ∷ of_two kind.Latch (wire.Input released) (wire.Block 1)
    ∷ of_two kind.And (wire.Block 2) (wire.Input pressed)
    ∷ of_two kind.Latch (wire.Block 3) (wire.Block 1)
    ∷ of_two kind.And (wire.Block 4) (wire.Input released)
    ∷ of_two kind.Estop (wire.Block 1) (wire.Block 5)
    ∷ []

abbrev pub stop_drives : Bit → List Drive
stop_drives drive = record { out = drive; from = wire.Block 6 } ∷ []

-- an input bit is 1 in a cycle
abbrev pub is_on : Bit → NetCycle → Bool
is_on bit c = bit_at c.inputs bit

-- the stop is released, and the drive is there
abbrev pub may_run : Bit → Bit → NetCycle → Bool
may_run stop there c = list_all (λ bit. is_on bit c) (stop ∷ there ∷ [])

-- these were seen in this order, each where the one before it was, or later; the newest stands first in both lists
abbrev pub in_order : List (NetCycle → Bool) → List NetCycle → Bool
in_order [] e = true
in_order (p ∷ ps) [] = false
in_order (p ∷ ps) (c ∷ e) = (p c && in_order ps (c ∷ e)) || in_order (p ∷ ps) e

-- since the stop was last pressed or the drive last lost, or since the first cycle, the acknowledgement was seen
-- released, then pressed, then released again
abbrev pub is_acknowledged : Bit → Bit → Bit → Bit → List NetCycle → Bool
is_acknowledged stop there pressed released e =
    in_order (is_on released ∷ is_on pressed ∷ is_on released ∷ []) (run_until_now (may_run stop there) e)

-- the acknowledgement is released now, and wasn't in the cycle before, or is pressed as well
abbrev pub is_let_go : Bit → Bit → List NetCycle → Bool
is_let_go pressed released [] = false
is_let_go pressed released (c ∷ e) = is_on released c && (is_on pressed c || not (is_now (is_on released) e))

-- the cycles that two texts list, the oldest first: each digit is the input byte of the stop's connection, or the
-- drive's
abbrev pub cycles : List ℕ → List ℕ → List NetCycle
cycles (s ∷ stops) (d ∷ drives) = record { ticked = true; inputs = ((s - 48) ∷ []) ∷ ((d - 48) ∷ []) ∷ [] } ∷ cycles stops drives
cycles [] drives = []
cycles (s ∷ stops) [] = []

-- a bit of a connection
abbrev pub worked_bit : ℕ → ℕ → Bit
worked_bit link b = record { link = link; bit = b }

-- the blocks, where bit 0 is the stop, or the drive's, and bits 1 and 2 the acknowledgement
abbrev pub worked_blocks : List NetBlock
worked_blocks = stop_blocks (worked_bit 1 0) (worked_bit 2 0) (worked_bit 1 1) (worked_bit 1 2)

-- the value of the last of them in each cycle
abbrev pub last_values : List NetCycle → List ℕ
last_values [] = []
last_values (c ∷ e) = (if at_number (block_values worked_blocks (c ∷ e)) 6 false then 49 else 48) ∷ last_values e

-- on at the release; after a press of the stop a stuck acknowledgement that comes loose isn't enough, and a press and a
-- release are; so it is after a loss of the drive
unfoldable pub StopRow : Type 0
StopRow = reverse (last_values (reverse (cycles (codes "5535350335355535") (codes "1111111111110111")))) ≡ codes "0001110000010001"

-- by which of these bits an output bit is guarded: the stop, the drive's, the acknowledgement
abbrev pub guarded_by : Bit → List Bool
guarded_by out =
    map (is_output_guarded worked_blocks (stop_drives (worked_bit 2 0)) out) (worked_bit 1 0 ∷ worked_bit 2 0 ∷ worked_bit 1 1 ∷ worked_bit 1 2 ∷ [])

-- the drive is off with the stop and with its own bit; a bit that isn't driven is off in any case
unfoldable pub GuardRow : Type 0
GuardRow = (guarded_by (worked_bit 2 0) ≡ true ∷ true ∷ false ∷ false ∷ []) × (guarded_by (worked_bit 2 1) ≡ replicate 4 true)
