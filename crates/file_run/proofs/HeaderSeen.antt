-- The lines of a header that were read.
use Rattle.file_run.proofs.Common.{Consumes, Err, FindsLine, Goes, Halt, HaltsHeader, HeaderSays, Held, IfSome, InputCause, InputFormat, IsHeaderCutOff, IsLent, IsLine, NoLine, None, Ok, Option, Refused, Result, Some, Stop, TookLines, WholeHeaderOf, append-nil, common_steps, consumes_then, first_line, header_in, header_read, header_step, input_cause, lines_of, prepend_known}
use Rattle.std.proofs.Common.{◌≡◌, ℕ, ◌+◌, false, List, [], ◌∷◌, ◌++◌, refl, ap, ◌∙◌, sym, subst, arith}
use Rattle.file_run.specs.declared.halt.Halt.TheVariants as halt
use Rattle.file_run.proofs.Lines.{lines_whole}
use Rattle.file_run.proofs.Taken.{took_line, took_none}

-- the bytes taken are so many lines of a header, whatever comes after them
abbrev pub HeaderSeen : {H L E : Type 0} → InputFormat H L E → H → ℕ → Option (List ℕ) → Option (List ℕ) → Type 0
HeaderSeen f h lines old new = HeaderSays f (λ more. header_in f (lines + 1) h (lines_of more)) old new

-- a reader lends the line after so many lines of a header
pub record Reading {H L E : Type 0} (f : InputFormat H L E) (h : H) (reader : Held) (input left : Option (List ℕ)) : Type 0 where
  pub lines : ℕ
  pub rest : Option (List ℕ)
  pub seen : HeaderSeen f h lines input rest
  pub took : TookLines lines input rest
  pub lent : IsLent rest reader left
  pub number : reader.lines ≡ lines + 1

header_none : {H L E : Type 0} (f : InputFormat H L E) (h : H) (left : Option (List ℕ)) → h ≡ f.start → HeaderSeen f h 0 left left
header_none f h left k = grind arith

pub reading_first : {H L E : Type 0} (f : InputFormat H L E) (h : H) (reader : Held) (input left : Option (List ℕ)) → h ≡ f.start → reader.lines ≡ 1 → IsLent input reader left → Reading f h reader input left
reading_first f h reader input left start one lent = record { lines = 0; rest = input; seen = header_none f h input start; took = took_none input; lent = lent; number = one }

-- what is read where a line more is taken
line_said : {H L E : Type 0} (f : InputFormat H L E) (h : H) (lines number : ℕ) (taken text more : List ℕ) → ((more : List ℕ) → header_read f (taken ++ more) ≡ header_in f (lines + 1) h (lines_of more)) → IsLine text → number ≡ lines + 1
    → header_read f ((taken ++ (text ++ 10 ∷ [])) ++ more) ≡ header_step f.is_whole number (lines_of more) (λ next. header_in f (number + 1) next (lines_of more)) (f.header_line h text)
line_said f h lines number taken text more k is count = grind (arith, common_steps, lines_whole)

-- after the line that is lent
pub header_next : {H L E : Type 0} (f : InputFormat H L E) (h : H) (reader : Held) (input left : Option (List ℕ)) (said : List ℕ → Result (WholeHeaderOf H) Stop) → Reading f h reader input left → IsLine reader.line
    → ((more : List ℕ) → header_step f.is_whole reader.lines (lines_of more) (λ next. header_in f (reader.lines + 1) next (lines_of more)) (f.header_line h reader.line) ≡ said more)
    → HeaderSays f said input (prepend_known reader.bytes left) × TookLines reader.lines input (prepend_known reader.bytes left)
header_next f h reader input left said at is says = (
  record {
    taken = at.seen.taken ++ (reader.line ++ 10 ∷ []);
    goes = consumes_then input at.rest (prepend_known reader.bytes left) at.seen.taken (reader.line ++ 10 ∷ []) at.seen.goes at.lent;
    says = λ more. line_said f h at.lines reader.lines at.seen.taken reader.line more at.seen.says is at.number ∙ says more;
  },
  took_line at.lines reader.lines input at.rest (prepend_known reader.bytes left) reader.line at.took is at.lent at.number,
)

-- and the header goes on
pub header_goes_on : {H L E : Type 0} (f : InputFormat H L E) (h next : H) (reader : Held) (input left : Option (List ℕ)) → Reading f h reader input left → IsLine reader.line → f.header_line h reader.line ≡ Ok next → f.is_whole next ≡ false
    → HeaderSeen f next reader.lines input (prepend_known reader.bytes left) × TookLines reader.lines input (prepend_known reader.bytes left)
header_goes_on f h next reader input left at is line open_ = header_next f h reader input left (λ more. header_in f (reader.lines + 1) next (lines_of more)) at is (λ more. rw (line, open_) refl)

-- whatever comes after them, the header goes no further
pub header_stopped : {H L E : Type 0} (f : InputFormat H L E) (stop : Stop) (old new : Option (List ℕ)) → HeaderSays f (λ more. Err stop) old new → IfSome old (λ input. header_read f input ≡ Err stop)
header_stopped f stop None new seen = tt
header_stopped f stop (Some xs) None seen = absurd seen.goes
header_stopped f stop (Some xs) (Some ys) seen = ap (header_read f) seen.goes ∙ seen.says ys

-- the next line is none
header_refused : {H L E : Type 0} (f : InputFormat H L E) (h : H) (lines number : ℕ) (a b : Option (List ℕ)) (why : InputCause) → HeaderSeen f h lines a b
    → IfSome b (λ input. first_line (lines_of input) ≡ Err why) → number ≡ lines + 1 → IfSome a (λ input. header_read f input ≡ Err (Refused number why))
header_refused f h lines number a b why k l m = grind arith

-- a read failed in the header
header_cut_off : {H L E : Type 0} (f : InputFormat H L E) (h : H) (lines count : ℕ) (a b c : Option (List ℕ)) → HeaderSeen f h lines a b → Consumes b c [] → count ≡ lines → IsHeaderCutOff f count a c
header_cut_off f h lines count a b c seen same is = record {
  taken = seen.taken;
  goes = subst (Consumes a c) (append-nil seen.taken) (consumes_then a b c seen.taken [] seen.goes same);
  says =
      ap (header_read f) (sym (append-nil seen.taken)) ∙ seen.says []
      ∙ ap (λ (k : ℕ). Err (Refused (k + 1) NoLine)) (sym is);
}

-- there is no next line
pub header_halts : {H L E : Type 0} (f : InputFormat H L E) (wants : Type 0) (h : H) (lines now : ℕ) (text : List ℕ) (a b c : Option (List ℕ)) (why : Halt) → HeaderSeen f h lines a b → FindsLine (Err why) text b c
    → Goes {T = Unit {0}} (Err why) lines now b c → HaltsHeader f wants why a c
header_halts f wants h lines now text a b c (halt.Read count) seen finds goes = header_cut_off f h lines count a b c seen goes.1 goes.0
header_halts f wants h lines now text a b c halt.Memory seen finds goes = absurd finds
header_halts f wants h lines now text a b c (halt.Refused number why) seen finds goes = header_refused f h lines number a b (input_cause why) seen finds goes.0
