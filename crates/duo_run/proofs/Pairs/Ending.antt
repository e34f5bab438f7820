-- A run of several pairs to the end of its input names an event from 1 on, where it names one.
use Rattle.duo_run.proofs.Common.{DuoView, Ended, EndsWhole, IfSome, None, Option, Pair, PairsEvent, PairsHeading, PairsStand, Some, ended_with, first_of_both, first_other, is_some, least, less_of, other_event, other_events, world_of}
use Rattle.file_run.proofs.EndedWith.{ended_whole}
use Rattle.std.proofs.Common.{◌≡◌, ◌<◌, ℕ, suc, Bool, true, false, List, [], ◌∷◌, length, arith, ap, sym, subst, ◌∙◌}

abbrev IsNumber : ℕ → Type 0
IsNumber n = 0 < n

first_numbered : (before : Option ℕ) (now : Bool) (number : ℕ) → IfSome before IsNumber → 0 < number → IfSome (first_of_both before now number) IsNumber
first_numbered (Some first) now number was is = was
first_numbered None true number was is = is
first_numbered None false number was is = tt

event_numbered : (k : ℕ) (p : Pair) (past : List PairsEvent) → IfSome (other_event k p past) IsNumber
event_numbered k p [] = tt
event_numbered k p (event ∷ past) =
    first_numbered (other_event k p past) (is_some (first_other (world_of k p (event ∷ past)))) (suc (length past)) (event_numbered k p past) (omega arith)

less_numbered : (a b : Option ℕ) → IfSome a IsNumber → IfSome b IsNumber → IfSome (less_of a b) IsNumber
less_numbered None b is other = other
less_numbered (Some n) None is other = is
less_numbered (Some n) (Some m) is other = omega (arith, is, other)

least_numbered : (k : ℕ) (pairs : List Pair) (past : List PairsEvent) → IfSome (least (other_events k pairs past)) IsNumber
least_numbered k [] past = tt
least_numbered k (p ∷ pairs) past = less_numbered (other_event k p past) (least (other_events (suc k) pairs past)) (event_numbered k p past) (least_numbered (suc k) pairs past)

pub pairs_end_whole : (duos : List DuoView) (others : List (Option ℕ)) (made : ℕ) (h : PairsHeading) (log : List PairsEvent) (text : List ℕ) (number : Option ℕ) (ended : Ended) → PairsStand duos others made h log text → number ≡ least others
    → ended ≡ ended_with number → EndsWhole true ended.status ended.place
pairs_end_whole duos others made h log text number ended k is e =
    let numbered : IfSome number IsNumber = subst (λ (o : Option ℕ). IfSome o IsNumber) (sym (is ∙ ap least k.others_are)) (least_numbered 1 k.pairs k.past) in
    subst (λ (x : Ended). EndsWhole true x.status x.place) (sym e) (ended_whole number (λ n at. subst (λ (o : Option ℕ). IfSome o IsNumber) at numbered))
