-- Why there is no next line, or what is wrong with it.
use Rattle.file_run.proofs.Common.{Bool, Consumes, Err, FindsLine, Goes, IfSome, IsLine, LineCause, Long, NoNewline, Option, Reads, Refusal, Result, first_line, halt_of, in_input, input_cause, lines_of, says_after, says_by}
use Rattle.std.proofs.Common.{◌≡◌, ℕ, List, [], ◌∷◌, ◌++◌, refl, ap, arith}
use Rattle.fsoe_io.specs.declared.line.LineFault.{LineFault}
use Rattle.fsoe_io.specs.declared.line.LineFault.TheVariants as fault
use Rattle.file_run.proofs.Lines.{by_line, by_long, by_open}

-- there is no next line
pub no_line : (why : LineFault) (before : ℕ) (text : List ℕ) (old new : Option (List ℕ)) → Reads (Err why) old new → FindsLine (Err (halt_of why before)) text old new
no_line fault.Read before text old new r = tt
no_line fault.Long before text old new r = by_long old (λ lines. first_line lines ≡ Err Long) r.0 (λ rest. refl)
no_line fault.NoNewline before text old new r = by_open old (λ lines. first_line lines ≡ Err NoNewline) r.0 refl

-- and nothing is taken
pub none_goes : (why : LineFault) (first before lines : ℕ) (old new : Option (List ℕ)) → first ≡ before → Reads (Err why) old new → Goes {T = Unit {0}} (Err (halt_of why first)) before lines old new
none_goes why first before lines old new h k = grind arith

-- the next line of an event is refused
pub refused_event_line : {L E : Type 0} (event : L → Option E) (says : List ℕ → Result L LineCause) (full : Bool) (old new : Option (List ℕ)) (text : List ℕ) (why : Refusal) → IsLine text → Consumes old new (text ++ 10 ∷ []) → says_after event says full text ≡ Err why
    → IfSome old (λ input. says_by event says full (first_line (lines_of input)) ≡ Err (input_cause why))
refused_event_line event says full old new text why is goes e =
    by_line old new text (λ lines. says_by event says full (first_line lines) ≡ Err (input_cause why)) is goes (λ rest. ap in_input e)
