-- A deed tells what it did.
use Rattle.end_model.proofs.Common.{Answers, Deed, Did, IsProper, IsRun, Move, Reaction, Setup, at_most_one, is_empty, step}
use Rattle.std.proofs.Common.{◌≡◌, ℕ, List, true, not, refl, rules}
use Rattle.end_model.proofs.SoundRuns.{reacts, answer_sent}

tells-sent : (s : Setup) (e : List Deed) (m : Move) (d : Did) (f : List ℕ) → Reaction s e m d f → d.sent ≡ not (is_empty f)
tells-sent s e m d f h = search (rules, answer_sent)

tells-one : (s : Setup) (e : List Deed) (m : Move) (d : Did) (f : List ℕ) → Reaction s e m d f → at_most_one d ≡ true
tells-one s e m d f (Answers bytes load c answer taken) = refl
tells-one s e m d f _ = refl

-- that a frame was sent
pub told_sent : (s : Setup) (e : List Deed) (event : Move) → IsRun s e → IsProper s event → (step s e event).did.sent ≡ not (is_empty (step s e event).sent)
told_sent s e event r proper = tells-sent s e event (step s e event).did (step s e event).sent (reacts s e event r proper)

-- one of three things at most
pub told_one : (s : Setup) (e : List Deed) (event : Move) → IsRun s e → IsProper s event → at_most_one (step s e event).did ≡ true
told_one s e event r proper = tells-one s e event (step s e event).did (step s e event).sent (reacts s e event r proper)
