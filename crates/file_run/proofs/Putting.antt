-- Texts that go through a buffer part by part.
use Rattle.file_run.proofs.Common.{Ended, Err, Loses, Ok, Option, OutputView, Passes, Puts, Result, Rose, Writes, append-nil, common_steps, grew_then, length-append, passes_none}
use Rattle.std.proofs.Common.{◌≡◌, ℕ, true, false, List, [], ◌∷◌, ◌++◌, length, refl, arith, ap, ◌∙◌, sym, append_assoc, inl, inr}
use Rattle.std.specs.Prelude.{◌==◌, ◌≢◌}
use Rattle.std.proofs.lemmas.Bool.{eqb-true}
use Rattle.fsoe_io.specs.declared.status.Status.TheVariants as status
use Rattle.file_run.proofs.Sending.{rose_since}

-- a piece after another
pub passes_both : (old mid new : OutputView) (w0 w1 w2 : Option (List ℕ)) (first then rest : List ℕ) → Passes old mid w0 w1 first mid.bytes → Passes mid new w1 w2 then rest → Passes old new w0 w2 (first ++ then) rest
passes_both old mid new w0 w1 w2 first then rest p q = record {
  part = p.part ++ q.part;
  grew = grew_then w0 w1 w2 p.part q.part p.grew q.grew;
  whole =
      sym (append_assoc old.bytes first then) ∙ ap (λ (z : List ℕ). z ++ then) p.whole ∙ append_assoc p.part mid.bytes then
      ∙ ap (λ (z : List ℕ). p.part ++ z) q.whole
      ∙ sym (append_assoc p.part q.part rest);
  sent = omega (arith, p.sent, q.sent, length-append p.part q.part);
}

-- what comes after a piece that was lost is lost too
loses_more : (old new : OutputView) (w0 w : Option (List ℕ)) (piece later rest : List ℕ) → Loses old new w0 w piece rest → Loses old new w0 w (piece ++ later) (rest ++ later)
loses_more old new w0 w piece later rest h = grind (arith, common_steps)

pub puts_lost : {E : Type 0} (e : E) (old new : OutputView) (w0 w : Option (List ℕ)) (piece later : List ℕ) → Puts {T = Unit {0}} (Err e) old new w0 w piece → Puts {T = Unit {0}} (Err e) old new w0 w (piece ++ later)
puts_lost e old new w0 w piece later p = (p.0 ++ later, loses_more old new w0 w piece later p.0 p.1)

pub puts_both : {T E : Type 0} (r : Result T E) (old mid new : OutputView) (w0 w1 w2 : Option (List ℕ)) (first then : List ℕ) → Passes old mid w0 w1 first mid.bytes → Puts r mid new w1 w2 then → Puts r old new w0 w2 (first ++ then)
puts_both (Ok x) old mid new w0 w1 w2 first then p q = passes_both old mid new w0 w1 w2 first then new.bytes p q
puts_both (Err e) old mid new w0 w1 w2 first then p q = (q.0, record { passes = passes_both old mid new w0 w1 w2 first then q.0 p q.1.passes; more = q.1.more })

pub not_none : (ys xs : List ℕ) → xs ≡ ys → false ≡ length xs == 0 → ys ≢ []
not_none ys xs h k = grind arith

pub is_none : (ys xs : List ℕ) → xs ≡ ys → true ≡ length xs == 0 → ys ≡ []
is_none [] xs h k = refl
is_none (y ∷ ys) xs h k = absurd (omega (arith, eqb-true (length xs) 0 (sym k), ap (length {A = ℕ}) h))

-- of a whole text some parts were put, and this is left
pub record Putting (old now : OutputView) (w0 w : Option (List ℕ)) (whole left : List ℕ) : Type 0 where
  pub done : List ℕ
  pub passes : Passes old now w0 w done now.bytes
  pub is : whole ≡ done ++ left

pub putting_none : (old : OutputView) (w : Option (List ℕ)) (whole : List ℕ) → Putting old old w w whole whole
putting_none old w whole = record { done = []; passes = passes_none old w; is = refl }

split_whole : (whole done left part later : List ℕ) → whole ≡ done ++ left → left ≡ part ++ later → whole ≡ (done ++ part) ++ later
split_whole whole done left part later e f = e ∙ ap (λ (z : List ℕ). done ++ z) f ∙ sym (append_assoc done part later)

-- a part more
pub putting_more : (old now new : OutputView) (w0 w1 w2 : Option (List ℕ)) (whole left part later : List ℕ) → Putting old now w0 w1 whole left → left ≡ part ++ later → Passes now new w1 w2 part new.bytes
    → Putting old new w0 w2 whole later
putting_more old now new w0 w1 w2 whole left part later k e p = record {
  done = k.done ++ part;
  passes = passes_both old now new w0 w1 w2 k.done part new.bytes k.passes p;
  is = split_whole whole k.done left part later k.is e;
}

-- a part is lost
pub putting_lost : {E : Type 0} (error : E) (old now new : OutputView) (w0 w1 w2 : Option (List ℕ)) (whole left part later : List ℕ) → Putting old now w0 w1 whole left → left ≡ part ++ later → Puts {T = Unit {0}} (Err error) now new w1 w2 part
    → Puts {T = Unit {0}} (Err error) old new w0 w2 whole
putting_lost error old now new w0 w1 w2 whole left part later k e p =
    rw (split_whole whole k.done left part later k.is e) (puts_lost error old new w0 w2 (k.done ++ part) later (puts_both {T = Unit {0}} (Err error) old now new w0 w1 w2 k.done part k.passes p))

-- all is put
pub putting_all : (old now : OutputView) (w0 w : Option (List ℕ)) (whole left : List ℕ) → Putting old now w0 w whole left → left ≡ [] → Passes old now w0 w whole now.bytes
putting_all old now w0 w whole left h k = grind (arith, common_steps)

-- after a text was put, what is written last is written after it
pub writes_after : (old mid : OutputView) (w0 w1 w2 : Option (List ℕ)) (faults between after : ℕ) (text : List ℕ) (ended result : Ended) → Passes old mid w0 w1 text mid.bytes → between ≡ faults
    → Writes mid.sent (mid.bytes ++ []) ended result (record { before = w1; after = w2; faults_before = between; faults_after = after })
    → Writes old.sent (old.bytes ++ text) ended result (record { before = w0; after = w2; faults_before = faults; faults_after = after })
writes_after old mid w0 w1 w2 faults between after text ended result p stayed writes =
    elim writes [
      | inl whole ↦ inl (whole.0, rw (p.whole, ← append-nil mid.bytes) (grew_then w0 w1 w2 p.part (mid.bytes ++ []) p.grew whole.1), whole.2 ∙ stayed)
      | inr cut ↦
          inr (record {
            part = p.part ++ cut.part;
            grew = grew_then w0 w1 w2 p.part cut.part p.grew cut.grew;
            begins = (
              cut.begins.0,
              p.whole ∙ ap (λ (z : List ℕ). p.part ++ z) (sym (append-nil mid.bytes) ∙ cut.begins.1) ∙ sym (append_assoc p.part cut.part cut.begins.0),
            );
            less = omega (arith, cut.less, ap (length {A = ℕ}) p.whole, length-append p.part cut.part, length-append p.part mid.bytes, length-append mid.bytes []);
            status_is = cut.status_is;
            place_is = omega (arith, cut.place_is, p.sent, length-append p.part cut.part);
            cause = rose_since faults between after stayed cut.cause;
          })
    ]

-- or it was cut off
pub writes_cut : {E : Type 0} (error : E) (old new : OutputView) (w0 w : Option (List ℕ)) (faults after : ℕ) (text : List ℕ) (ended result : Ended) → Puts {T = Unit {0}} (Err error) old new w0 w text → Rose faults after
    → result.status ≡ status.Write → result.place ≡ new.sent → Writes old.sent (old.bytes ++ text) ended result (record { before = w0; after = w; faults_before = faults; faults_after = after })
writes_cut error old new w0 w faults after text ended result h k l m = grind (arith, common_steps)
