-- What a new header has, and each line keeps, a header that is done has.
use Rattle.schedule_file.proofs.Common.{Err, IfOk, IfSome, InputCause, InputFormat, LineCause, Ok, Result, Stop, WholeHeaderOf, header_in, header_read, header_step, input_by, input_read, lines_of}
use Rattle.std.proofs.Common.{ℕ, ◌+◌, Bool, true, false, List, ◌∷◌}
use Rattle.std.specs.Prelude.{if◌then◌else◌}

pub either : {A E : Type 0} (b : Bool) (r t : Result A E) (P : A → Type 0) → IfOk r P → IfOk t P → IfOk (if b then r else t) P
either true r t P h i = h
either false r t P h i = i

step : {H : Type 0} (is_whole : H → Bool) (P : H → Type 0) (number : ℕ) (rest : List (Result (List ℕ) InputCause)) (go_on : H → Result (WholeHeaderOf H) Stop) (r : Result H LineCause) → IfOk r P
    → ((h : H) → P h → IfOk (go_on h) (λ whole. P whole.heading)) → IfOk (header_step is_whole number rest go_on r) (λ whole. P whole.heading)
step is_whole P number rest go_on (Ok h) s next = either (is_whole h) (Ok (record { heading = h; lines = number; rest = rest })) (go_on h) (λ whole. P whole.heading) s (next h s)
step is_whole P number rest go_on (Err cause) s next = tt

lines : {H L E : Type 0} (f : InputFormat H L E) (P : H → Type 0) → ((h : H) (text : List ℕ) → P h → IfOk (f.header_line h text) P) → (number : ℕ) (h : H) (texts : List (Result (List ℕ) InputCause)) → P h
    → IfOk (header_in f number h texts) (λ whole. P whole.heading)
lines f P keeps number h (Ok text ∷ rest) s =
    step f.is_whole P number rest (λ next. header_in f (number + 1) next rest) (f.header_line h text) (keeps h text s) (λ next sound. lines f P keeps (number + 1) next rest sound)
lines f P keeps number h _ s = tt

input : {H L E : Type 0} (f : InputFormat H L E) (P : H → Type 0) (r : Result (WholeHeaderOf H) Stop) → IfOk r (λ whole. P whole.heading) → IfSome (input_by f r).heading P
input f P (Ok whole) s = s
input f P (Err stop) s = tt

pub headed : {H L E : Type 0} (f : InputFormat H L E) (P : H → Type 0) → P f.start → ((h : H) (text : List ℕ) → P h → IfOk (f.header_line h text) P) → (bytes : List ℕ) → IfSome (input_read f bytes).heading P
headed f P new keeps bytes = input f P (header_read f bytes) (lines f P keeps 1 f.start (lines_of bytes) new)
