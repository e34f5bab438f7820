-- The events of an input that were read.
use Rattle.file_run.proofs.Common.{AtEnd, Consumes, Err, InputCause, InputFormat, IsLine, IsWholeHeader, LineCause, Lines, None, Ok, Option, Refused, Result, Seen, Some, append-nil, common_steps, consumes_then, first_line, input_by, input_on, input_read, lines_of, says_after, says_by}
use Rattle.std.proofs.Common.{◌≡◌, ℕ, ◌+◌, Bool, false, List, [], ◌∷◌, ◌++◌, length, ap, ◌∙◌, subst, append_assoc, arith, rules}
use Rattle.file_run.proofs.Lines.{lines_whole}

-- after a header no event was read
pub seen_none : {H L E : Type 0} (f : InputFormat H L E) (h : H) (n : ℕ) (old new : Option (List ℕ)) → IsWholeHeader f h n old new → Seen f h n old new []
seen_none f h n old new headers = record { taken = headers.taken; goes = headers.goes; says = λ more. ap (input_by f) (headers.says more) }

pub input_more : {H L E : Type 0} (f : InputFormat H L E) (h : H) (n : ℕ) (log : List E) (line : L) (event : E) (text : List ℕ) (rest : Lines) → f.is_full h log ≡ false → f.line h text ≡ Ok line → f.event line ≡ Some event
    → input_on f h n log (Ok text ∷ rest) ≡ input_on f h n (log ++ event ∷ []) rest
input_more f h n log line event text rest k l m = grind (arith, common_steps)

pub seen_more : {H L E : Type 0} (f : InputFormat H L E) (h : H) (n : ℕ) (a b c : Option (List ℕ)) (log : List E) (line : L) (event : E) (text : List ℕ) → Seen f h n a b log → IsLine text → Consumes b c (text ++ 10 ∷ [])
    → f.is_full h log ≡ false → f.line h text ≡ Ok line → f.event line ≡ Some event → Seen f h n a c (log ++ event ∷ [])
seen_more f h n a b c log line event text seen is goes room says said = record {
  taken = seen.taken ++ (text ++ 10 ∷ []);
  goes = consumes_then a b c seen.taken (text ++ 10 ∷ []) seen.goes goes;
  says = λ more.
      ap (input_read f) (append_assoc seen.taken (text ++ 10 ∷ []) more ∙ ap (λ (z : List ℕ). seen.taken ++ z) (append_assoc text (10 ∷ []) more))
      ∙ seen.says (text ++ 10 ∷ more)
      ∙ ap (input_on f h n log) (lines_whole text more is)
      ∙ input_more f h n log line event text (lines_of more) room says said;
}

-- what is held and what is left change, and not what is to come
pub seen_same : {H L E : Type 0} (f : InputFormat H L E) (h : H) (n : ℕ) (a b c : Option (List ℕ)) (log : List E) → Seen f h n a b log → Consumes b c [] → Seen f h n a c log
seen_same f h n a b c log seen same = record {
  taken = seen.taken;
  goes = subst (Consumes a c) (append-nil seen.taken) (consumes_then a b c seen.taken [] seen.goes same);
  says = seen.says;
}

-- a line that has an event
pub record HasEvent {L E : Type 0} (event : L → Option E) (full : Bool) (said : Result L LineCause) (this : E) : Type 0 where
  pub line : L
  pub room : full ≡ false
  pub says : said ≡ Ok line
  pub is : event line ≡ Some this

pub has_event : {L E : Type 0} (event : L → Option E) (says : List ℕ → Result L LineCause) (full : Bool) (text : List ℕ) (this : E) → says_after event says full text ≡ Ok (Some this) → HasEvent event full (says text) this
has_event event says full text this h = search rules

-- an input whose next line is refused
pub input_refused : {H L E : Type 0} (f : InputFormat H L E) (says : List ℕ → Result L LineCause) (full : Bool) (h : H) (n : ℕ) (log : List E) (rest : Lines) (why : InputCause)
    → ((text : List ℕ) → says text ≡ f.line h text) → full ≡ f.is_full h log → says_by f.event says full (first_line rest) ≡ Err why
    → input_on f h n log rest ≡ record { heading = Some h; lines = n; events = log; stop = Refused (n + length log + 1) why }
input_refused f says full h n log rest why k l m = search rules

-- an input whose next line is the last
pub input_ended : {H L E : Type 0} (f : InputFormat H L E) (says : List ℕ → Result L LineCause) (full : Bool) (h : H) (n : ℕ) (log : List E) (text : List ℕ) (rest : Lines)
    → ((text : List ℕ) → says text ≡ f.line h text) → full ≡ f.is_full h log → says_after f.event says full text ≡ Ok None
    → input_on f h n log (Ok text ∷ rest) ≡ record { heading = Some h; lines = n; events = log; stop = AtEnd }
input_ended f says full h n log text rest k l m = search rules
