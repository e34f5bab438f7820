use Rattle.duo_run.proofs.Common.{None, Option, WaitingText, closing_line, length-append, slice_get-get_or}
use Rattle.std.proofs.Common.{◌≡◌, ◌+◌, ◌++◌, ℕ, List, length, slice_index_or, refl, sym, ap, ◌∙◌, arith, rules}
use Rattle.duo_run.proofs.pairs_run.push_closing.Goals as goal
use Rattle.duo_run.proofs.Pairs.Ticking.{each_more}

pub loop-i-preserved : goal.loop-i-preserved
loop-i-preserved c =
    let i : ℕ = c.loop-i.i in
    let other : Option ℕ = slice_index_or c.args.others.now i None in
    let line : c.bytes.result.now ≡ closing_line (i + 1) other = search rules in
    let longer : c.push-in-loop-i-2.new.self.text ≡ c.loop-i.waiting.text ++ c.bytes.result.now = ap (λ (w : WaitingText). w.text) c.push-in-loop-i-2.ensures in
    record {
      lines = longer ∙ ap (λ (z : List ℕ). c.loop-i.waiting.text ++ z) line ∙ ap (λ (z : List ℕ). z ++ closing_line (i + 1) other) c.loop-i.invariant.lines
          ∙ sym (each_more closing_line c.args.others.now i (i + 1) other refl (slice_get-get_or c.args.others.now i None (omega arith)));
      room =
          let grown = ap (length {A = ℕ}) longer in
          omega (arith, grown, length-append c.loop-i.waiting.text c.bytes.result.now, c.bytes.ensures.most, c.loop-i.invariant.room);
    }
