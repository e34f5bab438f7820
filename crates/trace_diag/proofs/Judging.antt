-- The judge of a trace stands for the frames that were noted, and its verdict is that on them.
use Rattle.trace_diag.proofs.Common.{All-cons, AreBytes, Before, Difference, DiffersFirst, End, Field, IsConforming, KnowsUnless, Lengths, Noted, NotesFrame, TraceStands, TraceView, before, field_by, field_of, first_difference, first_of_both, frame_of, kept_from, length_of, trace_piece_len, settings_by, turn}
use Rattle.std.proofs.Common.{◌≡◌, ℕ, ◌+◌, List, [], ◌∷◌, length, take, Option, Some, None, is_some, false, refl, sym, ap, ap₂, subst, ◌∙◌, arith, rules}
use Rattle.trace_diag.specs.declared.verdict.ReadOff.{ReadOff}
use Rattle.trace_diag.proofs.Keeping.{kept_goes}
use Rattle.trace_diag.proofs.NoField.{IsInTurn}
use Rattle.trace_diag.proofs.PayloadRows.{same_end_is}
use Rattle.trace_diag.proofs.RowsHold.{all_in_turn, in_turn}
use Rattle.trace_diag.proofs.Theorem.{conforms_where_none, differs_first}

-- no frame was noted
pub none_noted : (lengths : Lengths) (known : Before) → known ≡ before lengths [] → TraceStands lengths [] (record { lengths = lengths; frames = 0; differs = None; known = known })
none_noted lengths known is = record { lengths_are = refl; count = refl; bytes = λ i d h. absurd (omega (arith, h)); first = refl; knows = is }

pub none_where : (o : Option Difference) → is_some o ≡ false → o ≡ None
none_where o h = grind arith

field-is : (old : TraceView) (x : Noted) (lengths : Lengths) (t : List Noted) (field : Option Field) → old.lengths ≡ lengths → old.known ≡ before lengths t → field_by old.lengths old.known x ≡ field → field_of lengths t x ≡ field
field-is old x lengths t field same known is = ap₂ (λ (l : Lengths) (k : Before). field_by l k x) (sym same) (sym known) ∙ is

known-is : (old : TraceView) (lengths : Lengths) (t : List Noted) → old.differs ≡ None → TraceStands lengths t old → old.known ≡ before lengths t
known-is old lengths t differs s = subst (λ (o : Option Difference). KnowsUnless o lengths t old.known) differs s.knows

-- a frame that is as it must be
pub noted_right : (old : TraceView) (x : Noted) (known : Before) → AreBytes x.frame → old.differs ≡ None → field_by old.lengths old.known x ≡ None
    → known ≡ kept_from (trace_piece_len old.lengths) old.known x.from (frame_of (length_of old.lengths x.from) x.frame) → NotesFrame old x (record { lengths = old.lengths; frames = old.frames + 1; differs = old.differs; known = known })
noted_right old x known are differs field goes = record {
  stands = λ lengths t s.
      let k : old.known ≡ before lengths t = known-is old lengths t differs s in
      let none : first_difference lengths t ≡ None = sym s.first ∙ differs in
      let here : field_of lengths t x ≡ None = field-is old x lengths t None s.lengths_are k field in
      let h : IsInTurn lengths (before lengths t) x = in_turn lengths t x here in
      record {
        lengths_are = s.lengths_are;
        count = ap (λ (n : ℕ). n + 1) s.count ∙ omega arith;
        bytes = All-cons (λ x. AreBytes x.frame) x t are s.bytes;
        first = differs ∙ ap₂ (λ (o : Option Difference) (field : Option Field). first_of_both o field (length t + 1)) (sym none) (sym here);
        knows = subst (λ (o : Option Difference). KnowsUnless o lengths (x ∷ t) known) (sym differs)
            (goes
            ∙ (ap₂ (λ (l : Lengths) (k : Before). kept_from (trace_piece_len l) k x.from (frame_of (length_of l x.from) x.frame)) s.lengths_are k
            ∙ (ap (λ (e : End). kept_from (trace_piece_len lengths) (before lengths t) e (frame_of (length_of lengths e) x.frame)) (sym (same_end_is x.from (turn t) h.turn))
            ∙ sym (kept_goes lengths x t h (all_in_turn lengths t none)))));
      };
}

told-same : (c p : List ℕ) → settings_by (take 4 c) (take 6 p) ≡ settings_by c p
told-same c p = search rules

-- no frame differs
pub verdict_conforms : (lengths : Lengths) (t : List Noted) (v : TraceView) (read : ReadOff) → v.differs ≡ None → read ≡ settings_by v.known.connection v.known.parameters → TraceStands lengths t v → IsConforming lengths t read
verdict_conforms lengths t v read differs is s =
    let k : v.known ≡ before lengths t = known-is v lengths t differs s in
    assumption (conforms_where_none lengths t s.bytes (sym s.first ∙ differs), is ∙ (ap (λ (k : Before). settings_by k.connection k.parameters) k ∙ told-same _ _))

-- a frame differs
pub verdict_differs : (lengths : Lengths) (t : List Noted) (v : TraceView) (d : Difference) → v.differs ≡ Some d → TraceStands lengths t v → DiffersFirst lengths t d.number d.field
verdict_differs lengths t v d differs s = differs_first lengths t d s.bytes (sym s.first ∙ differs)
