-- Pieces that go through a buffer.
use Rattle.std.proofs.Common.{◌≡◌, ℕ, ◌+◌, ◌<◌, List, [], ◌++◌, length, take, drop, arith, ap, sym, ◌∙◌, append_assoc}
use Rattle.std.specs.Prelude.{Result, Ok, Err}
use Rattle.std.specs.declared.option.Option.{Option}
use Rattle.std.proofs.lemmas.List.{append-nil, length-append, length-drop}
use Rattle.fsoe_io.specs.Sink.{Grew}
use Rattle.fsoe_io.proofs.Grown.{grew_then}
use Rattle.fsoe_io.specs.Output.{OutputView, Loses, Passes, Puts}
use Rattle.std.proofs.lemmas.Grind.{common_steps}

pub grew_none : (known : Option (List ℕ)) → Grew known known []
grew_none known = grind (arith, common_steps)

-- a flush that failed sent a part
pub loses_part : (old new : OutputView) (before now : Option (List ℕ)) (done : ℕ) → done < length old.bytes → new.sent ≡ old.sent + done → Grew before now (take done old.bytes)
    → (rest : List ℕ) × Loses old new before now [] rest
loses_part old new before now done lt count grew = (
  drop done old.bytes,
  record {
    passes = record { part = take done old.bytes; grew = grew; whole = grind (arith, common_steps); sent = grind (arith, common_steps) };
    more = omega (arith, length-drop done old.bytes);
  },
)

-- a piece that comes after what was lost is lost, too
pub loses_piece : (old new : OutputView) (before now : Option (List ℕ)) (piece rest : List ℕ) → Loses old new before now [] rest → Loses old new before now piece (rest ++ piece)
loses_piece old new before now piece rest l = record {
  passes = record {
    part = l.passes.part;
    grew = l.passes.grew;
    whole = rw (← append-nil old.bytes, l.passes.whole) (append_assoc l.passes.part rest piece);
    sent = l.passes.sent;
  };
  more = omega (arith, l.more, length-append rest piece);
}

-- nothing is sent
pub passes_none : (old : OutputView) (known : Option (List ℕ)) → Passes old old known known [] old.bytes
passes_none old known = record { part = []; grew = grew_none known; whole = append-nil old.bytes; sent = omega arith }

-- a second call after a first
pub passes_then : (old mid new : OutputView) (before between now : Option (List ℕ)) (piece rest : List ℕ) → Passes old mid before between piece mid.bytes → Passes mid new between now [] rest
    → Passes old new before now piece rest
passes_then old mid new before between now piece rest p q = record {
  part = p.part ++ q.part;
  grew = grew_then before between now p.part q.part p.grew q.grew;
  whole = p.whole ∙ ap (λ (z : List ℕ). p.part ++ z) (sym (append-nil mid.bytes) ∙ q.whole) ∙ sym (append_assoc p.part q.part rest);
  sent = omega (arith, p.sent, q.sent, length-append p.part q.part);
}

pub puts_then : {T E : Type 0} (r : Result T E) (old mid new : OutputView) (before between now : Option (List ℕ)) (piece : List ℕ) → Passes old mid before between piece mid.bytes
    → Puts r mid new between now [] → Puts r old new before now piece
puts_then (Ok x) old mid new before between now piece p q = passes_then old mid new before between now piece new.bytes p q
puts_then (Err e) old mid new before between now piece p q = (q.0, record { passes = passes_then old mid new before between now piece q.0 p q.1.passes; more = q.1.more })
