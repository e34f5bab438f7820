-- The chain of an end's CRCs by looking back: which frames belong to the session, their numbers, and the frames that
-- follow. The parts that a CRC covers, the numbers and their start values are this profile's own. The words after
-- `since` are asked of the deeds of one session, which `since` gives; `own` serves whole runs too.
use Rattle.std.specs.Prelude.{ℕ, List, [], ◌∷◌, Bool, Option, Some, None, is_some, if◌then◌else◌}
use Rattle.fsoe_base.specs.declared.command.Command.{Command}
use Rattle.fsoe_base.specs.declared.command.Command.TheVariants as command
use Rattle.fsoe_base.specs.Command.{command_byte}
use Rattle.fsoe_frame.specs.Parts.{Frame, frame_of, bytes_of}
use Rattle.seq_chain.specs.declared.link.Link.{Link}
use Rattle.seq_chain.specs.Cover.{first_of}
use Rattle.seq_chain.specs.Sealing as sealing
use Rattle.end_model.specs.Setup.{Setup, sends, receives}
use Rattle.end_model.specs.Phases.{has_command}
use Rattle.end_model.specs.Deed.{Deed, delivered, is_empty, of_session}

-- the deeds after the last one that sent a Reset frame, all where none did: the session
abbrev pub since : List Deed → List Deed
since [] = []
since (x ∷ e) = if has_command command.Reset x.sent then [] else x ∷ since e

-- the frames that were sent
abbrev pub own : List Deed → List (List ℕ)
own [] = []
own (x ∷ e) = if is_empty x.sent then own e else x.sent ∷ own e

-- the frames that were taken, without Reset frames
abbrev pub taken : List Deed → List (List ℕ)
taken [] = []
taken (x ∷ e) = if is_some (of_session x.did.took) then delivered x.what ∷ taken e else taken e

-- the frame that was taken last, a Reset frame too: the same bytes again are a repeat
abbrev pub kept : List Deed → Option (List ℕ)
kept [] = None
kept (x ∷ e) = if is_some x.did.took then Some (delivered x.what) else kept e

-- the CRC_0 of the newest of these frames, 0 where there is none
abbrev pub newest_crc : ℕ → List (List ℕ) → ℕ
newest_crc l [] = 0
newest_crc l (f ∷ frames) = first_of (frame_of l f).crcs

-- the number and the CRC_0 of the frame that was sent last: its CRCs cover the CRC_0 of the frame that was taken last,
-- also in its own step
abbrev pub own_link : Setup → List Deed → Option Link
own_link s [] = None
own_link s (x ∷ e) =
    if is_empty x.sent then own_link s e
    else Some (sealing.noted (newest_crc (receives s) (taken (x ∷ e))) (own_link s e) (frame_of (sends s) x.sent))

-- the number and the CRC_0 of the frame that was taken last: its CRCs cover the CRC_0 of the frame that was sent last
-- before it came
abbrev pub taken_link : Setup → List Deed → Option Link
taken_link s [] = None
taken_link s (x ∷ e) =
    if is_some (of_session x.did.took)
    then Some (sealing.noted (newest_crc (sends s) (own e)) (taken_link s e) (frame_of (receives s) (delivered x.what)))
    else taken_link s e

-- whether all CRCs of a frame that came are those of the peer's next frame
abbrev pub fits_session : Setup → List Deed → Frame → Bool
fits_session s e f = sealing.fits (newest_crc (sends s) (own e)) (taken_link s e) f

-- the next frame of the session; a frame that was taken in the same step is the newest of those taken
abbrev pub seal : Setup → List Deed → ℕ → Command → List ℕ → List ℕ
seal s e conn c load = bytes_of (sealing.sealed (newest_crc (receives s) (taken e)) (own_link s e) conn (command_byte c) load)
