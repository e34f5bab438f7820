-- Whole lines that are taken one after another.
use Rattle.file_run.proofs.Common.{Bool, Consumes, Err, Goes, Halt, Halts, Held, IsLent, IsLine, Option, Stalls, TookLines, TookOneAtMost, append-nil, consumes_then, with_newlines, length-append, length_push, most_held, prepend_known}
use Rattle.std.proofs.Common.{◌≡◌, ℕ, ◌+◌, List, [], ◌∷◌, ◌++◌, ◌≤◌, length, refl, ap, arith, ◌∙◌, sym, subst, append_assoc, rules}
use Rattle.std.proofs.lemmas.List.Elements.{All-append, All-push}
use Rattle.file_run.specs.declared.halt.Halt.TheVariants as halt

pub joined-append : (xs ys : List (List ℕ)) → with_newlines (xs ++ ys) ≡ with_newlines xs ++ with_newlines ys
joined-append [] ys = refl
joined-append (line ∷ xs) ys =
    ap (λ (z : List ℕ). (line ++ 10 ∷ []) ++ z) (joined-append xs ys) ∙ sym (append_assoc (line ++ 10 ∷ []) (with_newlines xs) (with_newlines ys))

-- before the first line
pub took_none : (left : Option (List ℕ)) → TookLines 0 left left
took_none left = grind arith

-- the line that a reader lends was taken from it and what is to come now
pub is_lent : (reader : Held) (left : Option (List ℕ)) → IsLent (prepend_known (reader.line ++ 10 ∷ []) (prepend_known reader.bytes left)) reader left
is_lent reader left = grind arith

-- a line more
pub took_line : (k lines : ℕ) (a b c : Option (List ℕ)) (line : List ℕ) → TookLines k a b → IsLine line → Consumes b c (line ++ 10 ∷ []) → lines ≡ k + 1 → TookLines lines a c
took_line k lines a b c line took is goes next =
    let whole : with_newlines took.lines ++ (line ++ 10 ∷ []) ≡ with_newlines (took.lines ++ line ∷ []) = search (rules, with_newlines, joined-append) in
    record {
      lines = took.lines ++ line ∷ [];
      each = All-push IsLine took.lines line took.each is;
      counts = length_push took.lines line ∙ ap (λ (n : ℕ). n + 1) took.counts ∙ sym next;
      taken = subst (Consumes a c) whole (consumes_then a b c (with_newlines took.lines) (line ++ 10 ∷ []) took.taken goes);
    }

pub took_one : (a b : Option (List ℕ)) (line : List ℕ) → IsLine line → Consumes a b (line ++ 10 ∷ []) → TookOneAtMost a b
took_one a b line is goes = (1, omega arith, took_line 0 1 a a b line (took_none a) is goes refl)

-- lines after others
pub took_then : (k m : ℕ) (a b c : Option (List ℕ)) → TookLines k a b → TookLines m b c → TookLines (k + m) a c
took_then k m a b c first then = record {
  lines = first.lines ++ then.lines;
  each = All-append IsLine first.lines then.lines first.each then.each;
  counts = omega (arith, first.counts, then.counts, length-append first.lines then.lines);
  taken = subst (Consumes a c) (sym (joined-append first.lines then.lines)) (consumes_then a b c (with_newlines first.lines) (with_newlines then.lines) first.taken then.taken);
}

-- a read that failed takes nothing
pub took_still : (k : ℕ) (a b c : Option (List ℕ)) → TookLines k a b → Consumes b c [] → TookLines k a c
took_still k a b c took goes = record {
  lines = took.lines;
  each = took.each;
  counts = took.counts;
  taken = subst (Consumes a c) (append-nil (with_newlines took.lines)) (consumes_then a b c (with_newlines took.lines) [] took.taken goes);
}

-- why an input goes no further, after these whole lines
pub halts_after : (left0 left1 left2 : Option (List ℕ)) (held : List ℕ) (before lines : ℕ) (why : Halt) → TookLines before left0 left1 → Goes {T = Bool} (Err why) before lines left1 (prepend_known held left2)
    → Stalls {T = Bool} (Err why) held → length held ≤ most_held → Halts {T = Unit {0}} (Err why) left0 left2
halts_after left0 left1 left2 held before lines (halt.Read count) took goes stalls most =
    (held, stalls, subst (λ (n : ℕ). TookLines n left0 (prepend_known held left2)) (sym goes.0) (took_still before left0 left1 (prepend_known held left2) took goes.1))
halts_after left0 left1 left2 held before lines halt.Memory took goes stalls most = tt
halts_after left0 left1 left2 held before lines (halt.Refused line cause) took goes stalls most =
    let one = goes.1 in (
      (before, left1, goes.0, took),
      (before + one.0, omega (arith, goes.0, one.1), omega (arith, goes.0, one.1), record { held = held; most = most; took = took_then before one.0 left0 left1 (prepend_known held left2) took one.2 }),
    )
