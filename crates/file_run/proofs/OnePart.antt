-- A machine of which nothing waits: all text comes in one part.
use Rattle.file_run.proofs.Common.{Ended, EndsReport, Reporting, TakesEvent, append-nil}
use Rattle.std.proofs.Common.{ℕ, List, [], ◌++◌, sym, subst}

pub takes_one : {H E : Type 0} (old new : H → List E → List ℕ → Type 0) (event : E) (number : ℕ) (text : List ℕ) → TakesEvent old new event number text → TakesEvent old new event number (text ++ [])
takes_one old new event number text takes = subst (TakesEvent old new event number) (sym (append-nil text)) takes

pub ends_one : {H L E : Type 0} (r : Reporting H L E) (h : H) (log : List E) (lines text : List ℕ) (ended : Ended) → EndsReport r h log (lines ++ text) ended → EndsReport r h log (lines ++ (text ++ [])) ended
ends_one r h log lines text ended ends = subst (λ (z : List ℕ). EndsReport r h log (lines ++ z) ended) (sym (append-nil text)) ends
