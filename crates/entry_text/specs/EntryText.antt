-- What a report writes of one entry, after its number, and in a report of both ends after the letter of its end.
use Rattle.std.specs.Prelude.{ℕ, Bool, true, false, List, [], ◌∷◌, ◌++◌, Option, Some, None, codes}
use Rattle.hex.specs.Hex.{encode_lower}
use Rattle.fsoe_base.specs.Command.{command_name, state_name}
use Rattle.fsoe_base.specs.declared.command.Code.{Code}
use Rattle.fsoe_base.specs.declared.command.State.{State}
use Rattle.fsoe_base.specs.declared.did.Cause.{Cause}
use Rattle.fsoe_base.specs.declared.did.Cause.TheVariants as reset_cause
use Rattle.fsoe_base.specs.declared.did.Did.{Did}
use Rattle.fsoe_base.specs.declared.did.Dropped.{Dropped}
use Rattle.fsoe_base.specs.declared.did.Dropped.TheVariants as dropped
use Rattle.fsoe_base.specs.declared.did.Took.{Took}

-- a code is two hexadecimal digits
abbrev pub code_text : Code → List ℕ
code_text code = encode_lower (code.0 ∷ [])

-- why an end went to state Reset, with the code that its peer sent or that it found
abbrev pub cause_text : Cause → List ℕ
cause_text reset_cause.Local = codes "reset own"
cause_text (reset_cause.Peer code) = codes "reset peer " ++ code_text code
cause_text (reset_cause.Found code) = codes "reset found " ++ code_text code

-- why a frame was dropped
abbrev pub dropped_text : Dropped → List ℕ
dropped_text dropped.Length = codes "drop Length"
dropped_text dropped.Repeat = codes "drop Repeat"
dropped_text dropped.InReset = codes "drop InReset"

-- what a step did: the drop, the reset or the frame taken; where there is none of these, whether a frame was sent
abbrev pub step_text : Option Dropped → Option Cause → Option Took → Bool → List ℕ
step_text (Some why) reset took sent = dropped_text why
step_text None (Some why) took sent = cause_text why
step_text None None (Some took) sent = codes "took " ++ command_name took.command
step_text None None None true = codes "again"
step_text None None None false = codes "quiet"

-- what an entry did, as its line says it
abbrev pub did_text : Did → List ℕ
did_text did = step_text did.dropped did.reset did.took did.sent

-- the frame that was sent, if one was
abbrev pub sent_text : List ℕ → List ℕ
sent_text [] = []
sent_text (b ∷ bytes) = codes " > " ++ encode_lower (b ∷ bytes)

-- what an entry did, the state and the outputs after it, and the frame that it sent
abbrev pub entry_text : Did → State → List ℕ → List ℕ → List ℕ
entry_text did state outputs sent = did_text did ++ codes " " ++ state_name state ++ codes " " ++ encode_lower outputs ++ sent_text sent
