use Rattle.duo_run.proofs.Common.{DuoView, Some, WaitingText, length-append, slice_get-get_or}
use Rattle.std.proofs.Common.{◌≡◌, ◌+◌, ◌++◌, ℕ, length, slice_get, slice_index_or, refl, ap, arith, rules}
use Rattle.duo_run.proofs.Pairs.Ticking.{next_ticks, ticked_all, ticked_more, ticked_none}
use Rattle.duo_run.proofs.Numbers.Summarizing.{never_err}
use Rattle.duo_run.proofs.telling.tick_all.Goals as goal

pub loop-i-init : goal.loop-i-init
loop-i-init c = record { so_far = ticked_none c.args.at c.args.number c.args.duos.now c.args.telling.now.waiting.text; room = omega arith }

pub tell-requires-clause-fewer : goal.tell-requires-clause-fewer
tell-requires-clause-fewer c = (next_ticks _ _ c.loop-i.i _ _ c.loop-i.duos _ _ c.requires.stand c.loop-i.invariant.so_far (slice_get-get_or c.loop-i.duos c.loop-i.i c.index-duos-i.result (omega arith))).0

pub unwrap-requires : goal.unwrap-requires
unwrap-requires c =
    never_err _ c.tell.result c.tell.ensures.misses (next_ticks _ _ c.loop-i.i _ _ c.loop-i.duos _ _ c.requires.stand c.loop-i.invariant.so_far (slice_get-get_or c.loop-i.duos c.loop-i.i c.index-duos-i.result (omega arith))).1

pub loop-i-preserved : goal.loop-i-preserved
loop-i-preserved c =
    let i : ℕ = c.loop-i.i in
    let v : DuoView = slice_index_or c.loop-i.duos i c.index-duos-i.result in
    let v-at : slice_get c.loop-i.duos i ≡ Some v = slice_get-get_or c.loop-i.duos i c.index-duos-i.result (omega arith) in
    let tells = rw c.unwrap.ensures at c.tell.ensures.tells in
    let longer : c.push.new.self.text ≡ c.loop-i.waiting.text ++ c.tell.new.line = search rules in
    record {
      so_far = ticked_more _ _ i (i + 1) _ _ c.loop-i.duos _ c.loop-i.waiting.text _ c.tell.new.line v c.tell.new.duo refl c.loop-i.invariant.so_far v-at tells refl longer;
      room =
          let grown = ap (length {A = ℕ}) (ap (λ (w : WaitingText). w.text) c.push.ensures) in
          omega (arith, grown, length-append c.loop-i.waiting.text c.bytes.result.now, c.bytes.ensures.most, c.loop-i.invariant.room);
    }

pub returns-clause-ticks : goal.returns-clause-ticks
returns-clause-ticks c = ticked_all _ _ c.loop-i.i c.args.duos.now _ c.loop-i.duos _ (omega arith) c.loop-i.invariant.so_far
