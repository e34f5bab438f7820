-- What a line of several pairs says to one of them fits it, and so do the events of an input of several pairs.
use Rattle.schedule_file.proofs.Common.{End, IfOk, IfOk-at_ok, IfSome, Ok, PairsHeading, PairsLine, PairsLineFits, Profile, Some, bytes_eq, codes, common_line, fields_of, header_read, heading_profile, is_digits, line_of_event, no_field, numbered_line, own_length, pairs_of, pairs_said}
use Rattle.schedule_file.specs.declared.pairs_line.PairsEvent.{PairsEvent}
use Rattle.schedule_file.specs.PairsLine.{pairs_event_of}
use Rattle.std.proofs.Common.{◌≡◌, ℕ, List, All, map, arith}
use Rattle.schedule_file.specs.PairsInput.{pairs_format, pairs_input, pairs_said_after}
use Rattle.schedule_file.specs.declared.line_cause.LineCause.TheVariants as cause
use Rattle.schedule_file.proofs.Fitting.{input_is}
use Rattle.schedule_file.proofs.Pairs.{numbered_fits}
use Rattle.schedule_file.proofs.Sound.{IfOk-every, IfOk-map, worded}
use Rattle.schedule_file.proofs.Headed.{either}

common_fits : (sends : List (End → ℕ)) (profiles : List (End → Profile)) (first : List ℕ) (fields : List (List ℕ)) → IfOk (common_line first fields) (PairsLineFits sends profiles)
common_fits sends profiles first fields =
    either (bytes_eq first (codes "t")) _ _ (PairsLineFits sends profiles) (IfOk-map (no_field fields) _ _ (IfOk-every (no_field fields) _ (λ none. tt)))
    (either (bytes_eq first (codes "end")) _ _ (PairsLineFits sends profiles) (IfOk-map (no_field fields) _ _ (IfOk-every (no_field fields) _ (λ none. tt))) tt)

-- the event of a line is its line again
in_line : (P : PairsLine → Type 0) (line : PairsLine) (x : PairsEvent) → pairs_event_of line ≡ Some x → P line → P (line_of_event x)
in_line P line x h k = grind arith

pub pairs_event_fits : (h : PairsHeading) (text : List ℕ) (line : PairsLine) (event : PairsEvent) → pairs_said_after h text ≡ Ok line → pairs_event_of line ≡ Some event
    → PairsLineFits (map own_length (pairs_of h)) (map heading_profile (pairs_of h)) (line_of_event event)
pairs_event_fits h text line event says e =
    let sends : List (End → ℕ) = map own_length (pairs_of h) in
    let profiles : List (End → Profile) = map heading_profile (pairs_of h) in
    let Fits : PairsLine → Type 0 = PairsLineFits sends profiles in
    in_line Fits line event e (IfOk-at_ok Fits says (worded cause.Word (pairs_said sends profiles) Fits
    (λ first fields. either (is_digits first) (numbered_line sends profiles first fields) (common_line first fields) Fits (numbered_fits sends profiles first fields) (common_fits sends profiles first fields)) (fields_of text)))

pub pairs_events_fit : (bytes : List ℕ) → IfSome (pairs_input bytes).heading (λ h. All (λ event. PairsLineFits (map own_length (pairs_of h)) (map heading_profile (pairs_of h)) (line_of_event event)) (pairs_input bytes).events)
pairs_events_fit bytes = input_is pairs_format (λ h event. PairsLineFits (map own_length (pairs_of h)) (map heading_profile (pairs_of h)) (line_of_event event)) pairs_event_fits (header_read pairs_format bytes)
