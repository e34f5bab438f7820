-- In each world the outputs are those that looking back over the entries gives.
use Rattle.exchange_model.proofs.Common.{Answers, Deed, Did, End, Entry, IsRun, IsWorld, MasterSettings, Move, OutputsAreDue, Reaction, SameLengths, Setup, SlaveSettings, Took, data_after, deed_in, deeds, entries, entry_of, is_data, looking_back, of_end, out, out_after, outputs_after, outputs_due, reacted, received_len, receives, setup_of, state_of, ticked, zeros}
use Rattle.std.proofs.Common.{◌≡◌, ℕ, List, [], ◌∷◌, Option, Some, None, refl, ap, sym, ◌∙◌, arith}
use Rattle.fsoe_base.specs.declared.command.State.TheVariants as state
use Rattle.fsoe_base.specs.declared.command.Command.TheVariants as command
use Rattle.exchange_model.proofs.Worlds.Projection.{next_told, next_run, told}

-- where ProcessData was taken, the state is Data
abbrev IsInData : Setup → List Deed → Option Took → Type 0
IsInData s e None = Unit {0}
IsInData s e (Some t) = t.command ≡ command.ProcessData → state_of s e ≡ state.Data

in-data : (s : Setup) (e : List Deed) (m : Move) (d : Did) (f : List ℕ) → Reaction s e m d f → IsInData s (record { what = m; did = d; sent = f } ∷ e) d.took
in-data s e m d f (Answers bytes load c answer taking) = λ h. data_after e bytes load s c answer taking (ap is_data h)
in-data s e m d f _ = tt

due-after : (s : Setup) (e : List Deed) (n : ℕ) → IsRun s e → outputs_after (zeros s) n (entries s e) ≡ out_after s n e
due-after s [] n h = refl
due-after s (x ∷ e) n h = grind (arith, in-data s e x.what x.did x.sent (reacted s x e h), due-after s e (ticked x.what n) h.1)

-- looking back over what is told of an end's deeds is looking back over the deeds
pub due_is_out : (s : Setup) (e : List Deed) → IsRun s e → outputs_due (receives s) (entries s e) ≡ out s e
due_is_out s e h = due-after s e 0 h

pub receives_is : (ms : MasterSettings) (ss : SlaveSettings) (which : End) → SameLengths ms ss → received_len ms.lengths which ≡ receives (setup_of ms ss which)
receives_is ms ss which h = grind arith

-- after each entry of a world the outputs are those that looking back gives
pub outputs_are_due : (ms : MasterSettings) (ss : SlaveSettings) (w : List Entry) → SameLengths ms ss → IsWorld ms ss w → OutputsAreDue ms.lengths w
outputs_are_due ms ss [] h so_far = tt
outputs_are_due ms ss (x ∷ w) h so_far =
    let s : Setup = setup_of ms ss x.end in
    let e : List Deed = deeds x.end w in
    let run : IsRun s (deed_in x ∷ e) = next_run ms ss x w so_far in
    let head : x ≡ entry_of s e (deed_in x) = next_told s x e so_far.0 in
    let whole : x ∷ of_end x.end w ≡ entries s (deed_in x ∷ e) =
    ap (λ (first : Entry). first ∷ of_end x.end w) head ∙ ap (λ (rest : List Entry). entry_of s e (deed_in x) ∷ rest) (told ms ss x.end w so_far.1) in (
      ap (λ (y : Entry). y.outputs) head
          ∙ (looking_back s (deed_in x ∷ e) run
          ∙ (sym (due_is_out s (deed_in x ∷ e) run)
          ∙ (ap (outputs_due (receives s)) (sym whole)
          ∙ ap (λ (l : ℕ). outputs_due l (x ∷ of_end x.end w)) (sym (receives_is ms ss x.end h))))),
      outputs_are_due ms ss w h so_far.1,
    )
