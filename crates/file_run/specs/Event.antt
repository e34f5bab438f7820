-- The events of an input, and what their lines say.
use Rattle.std.specs.Prelude.{◌≡◌, ℕ, Bool, List, [], ◌∷◌, ◌++◌, codes, Option, None, Result, Ok, Err, IfSome, if◌then◌else◌}
use Rattle.std.specs.Io.KnownBytes.{Consumes}
use Rattle.std.specs.Str.{bytes_eq}
use Rattle.fsoe_io.specs.Line.{IsLine}
use Rattle.schedule_file.specs.Input.{InputCause, lines_of}
use Rattle.schedule_file.specs.declared.line_cause.LineCause.{LineCause}
use Rattle.file_run.specs.Refusal.{input_cause}
use Rattle.file_run.specs.ByTitle.{first_line}
use Rattle.file_run.specs.declared.refusal.Refusal.{Refusal}
use Rattle.file_run.specs.declared.refusal.Refusal.TheVariants as refusal
use Rattle.file_run.specs.declared.halt.Halt.{Halt}
use Rattle.file_run.specs.declared.halt.Halt.TheVariants as halt

-- the event of a line; where the line is refused, the cause lies in the line by itself
abbrev pub by_itself : {L E : Type 0} → (L → Option E) → Result L LineCause → Result (Option E) Refusal
by_itself event (Ok line) = Ok (event line)
by_itself event (Err why) = Err (refusal.Line why)

-- the event of what was read, or why nothing was
abbrev pub what_event : {L E C : Type 0} → (L → Option E) → Result (Unit {0}) C → L → Result (Option E) C
what_event event (Ok read) said = Ok (event said)
what_event event (Err why) said = Err why

-- where no event may come, only the very line `end` may
abbrev pub says_full : {E : Type 0} → List ℕ → Result (Option E) Refusal
says_full text = if bytes_eq text (codes "end") then Ok None else Err refusal.TooMany

-- the event of a line, where lines say this and there may be no event more, or may be; `end` has none
abbrev pub says_after : {L E : Type 0} → (L → Option E) → (List ℕ → Result L LineCause) → Bool → List ℕ → Result (Option E) Refusal
says_after event says full text = if full then says_full text else by_itself event (says text)

-- why an input goes no further where a line is refused
abbrev pub in_input : {X : Type 0} → Result X Refusal → Result X InputCause
in_input (Ok said) = Ok said
in_input (Err why) = Err (input_cause why)

-- the event of this line, where there is one
abbrev pub says_by : {L E : Type 0} → (L → Option E) → (List ℕ → Result L LineCause) → Bool → Result (List ℕ) InputCause → Result (Option E) InputCause
says_by event says full (Ok text) = in_input (says_after event says full text)
says_by event says full (Err why) = Err why

-- the next line has this event, or none; or it is refused for this cause
abbrev pub FindsEvent : {L E : Type 0} → (L → Option E) → (List ℕ → Result L LineCause) → Bool → Result (Option E) Halt → Option (List ℕ) → Option (List ℕ) → Type 0
FindsEvent event says full (Ok said) old new = (text : List ℕ) × IsLine text × Consumes old new (text ++ 10 ∷ []) × (says_after event says full text ≡ Ok said)
FindsEvent event says full (Err (halt.Read lines)) old new = Unit {0}
FindsEvent event says full (Err halt.Memory) old new = ⊥
FindsEvent event says full (Err (halt.Refused number why)) old new = IfSome old (λ input. says_by event says full (first_line (lines_of input)) ≡ Err (input_cause why))
