-- Runs of an end.
use Rattle.end_model.proofs.Common.{Deed, Did, IsProper, IsRun, IsSetting, Move, Setup, begun, continued, events_of, nothing, run, step}
use Rattle.std.proofs.Common.{◌≡◌, ℕ, List, [], ◌∷◌, ◌++◌, refl, sym, ap, ◌∙◌, All, arith}
use Rattle.std.proofs.lemmas.List.Elements.{All-head, All-tail}

abbrev pub deed : Move → Did → List ℕ → Deed
deed what did sent = record { what = what; did = did; sent = sent }

pub same_deed : (what : Move) (did did' : Did) (sent sent' : List ℕ) → did ≡ did' → sent ≡ sent' → deed what did sent ≡ deed what did' sent'
same_deed what did did' sent sent' h i = rw (h, i) refl

-- a put, a hold and a nonce are noted alone: nothing is done, and no frame is sent
pub set_deed : (s : Setup) (e : List Deed) (m : Move) → IsSetting m → begun m nothing ≡ step s e m
set_deed s e m h = grind arith

continued_append : (s : Setup) (front rest : List Move) (e : List Deed) → continued s e (front ++ rest) ≡ continued s (continued s e front) rest
continued_append s [] rest e = refl
continued_append s (what ∷ front) rest e = continued_append s front rest (step s e what ∷ e)

pub run_append : (s : Setup) (front rest : List Move) → run s (front ++ rest) ≡ continued s (run s front) rest
run_append s front rest = continued_append s front rest []

continued_is_run : (s : Setup) (moves : List Move) (e : List Deed) → All (IsProper s) moves → IsRun s e → IsRun s (continued s e moves)
continued_is_run s [] e proper so_far = so_far
continued_is_run s (what ∷ moves) e proper so_far =
    continued_is_run s moves (step s e what ∷ e) (All-tail (IsProper s) what moves proper) (record { proper = All-head (IsProper s) what moves proper; stepped = refl }, so_far)

pub run_is_run : (s : Setup) (moves : List Move) → All (IsProper s) moves → IsRun s (run s moves)
run_is_run s moves proper = continued_is_run s moves [] proper tt

-- a run is that of its events
pub run_of_events : (s : Setup) (e : List Deed) → IsRun s e → e ≡ run s (events_of e)
run_of_events s [] r = refl
run_of_events s (x ∷ e) r =
    ap (λ (y : Deed). y ∷ e) r.0.stepped
    ∙ ap (λ (e : List Deed). step s e x.what ∷ e) (run_of_events s e r.1)
    ∙ sym (run_append s (events_of e) (x.what ∷ []))
