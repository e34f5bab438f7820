use Rattle.multi_master.proofs.Common.{All-nil, IsNumber, MasterView, due_in, own_len, settings_in, slice_get-get_or, slice_get_read, take_more_set}
use Rattle.std.proofs.Common.{◌≡◌, ◌<◌, ◌+◌, ◌++◌, ◌∷◌, [], ℕ, List, Some, length, slice_get, slice_index_or, sym, ap, ◌∙◌, arith, if◌then◌else◌, refl, rules}
use Rattle.std.proofs.lemmas.List.{length-take-le, take_all}
use Rattle.multi_master.proofs.Keeping.{same_lens}
use Rattle.multi_master.proofs.Looping.{next_taken, number_told, untouched_more}
use Rattle.multi_master.proofs.Places.{map_set, same_at, same_length}
use Rattle.multi_master.proofs.Putting.{puts_more}
use Rattle.multi_master.proofs.cycle.put_answers.Goals as goal

pub put_answer-requires : goal.put_answer-requires
put_answer-requires c =
    let fits = c.requires.fits ∙ sym (same_lens c.loop-i.masters _ c.loop-i.invariant.settings) in
    search (rules, same_length, slice_get_read, same_at)

pub loop-i-init : goal.loop-i-init
loop-i-init c = rw c.clear.ensures (record { numbers = record { few = omega arith; each = All-nil (IsNumber 0) }; settings = refl; due = refl; untouched = λ k late. refl; put = refl })

pub loop-i-preserved : goal.loop-i-preserved
loop-i-preserved c =
    let i : ℕ = c.loop-i.i in
    let before : List MasterView = c.args.masters.now in
    let m : MasterView = slice_index_or c.loop-i.masters i c.index-masters-i.result in
    let m' : MasterView = c.put_answer.new.master in
    let len = same_length length own_len c.args.answers.now before c.requires.fits in
    let within : i < length c.loop-i.masters = omega arith in
    let at : slice_get c.loop-i.masters i ≡ Some m = slice_get-get_or c.loop-i.masters i c.index-masters-i.result within in
    let was : slice_get before i ≡ Some m = sym (c.loop-i.invariant.untouched i (omega arith)) ∙ at in
    let is : slice_get c.args.answers.now i ≡ Some c.bytes.result.now = slice_get_read c.args.answers.now _ i _ refl (omega arith) c.index-answers-i.is ∙ ap (λ (xs : List ℕ). Some xs) (sym c.bytes.ensures.value) in
    let told : c.if-put_answer.changed.items ≡ c.loop-i.changed.items ++ (if c.put_answer.result then (i + 1) ∷ [] else []) = search rules in
    record {
      numbers = number_told c.put_answer.result i c.loop-i.changed.items _ told c.loop-i.invariant.numbers;
      settings = map_set settings_in c.loop-i.masters i m m' at c.put_answer.ensures.settings ∙ c.loop-i.invariant.settings;
      due = map_set due_in c.loop-i.masters i m m' at c.put_answer.ensures.due ∙ c.loop-i.invariant.due;
      untouched = untouched_more i _ c.loop-i.masters _ m' c.loop-i.invariant.untouched refl;
      put = rw (next_taken before i m was, next_taken c.args.answers.now i _ is, take_more_set c.loop-i.masters i m' within, told)
          (puts_more 1 (i + 1) _ _ _ _ m _ m' c.put_answer.result c.loop-i.invariant.put c.put_answer.ensures (omega (arith, length-take-le i before)));
    }

pub returns-clause-puts : goal.returns-clause-puts
returns-clause-puts c =
    let i : ℕ = c.loop-i.i in
    let long = same_length length own_len c.args.answers.now c.args.masters.now c.requires.fits in
    rw (take_all i c.args.masters.now (omega arith), take_all i c.args.answers.now (omega arith), take_all i c.loop-i.masters (omega arith)) at c.loop-i.invariant.put
