-- An input has one report of several pairs: its header says all that the ends of each are set to.
use Rattle.duo_run.proofs.Common.{AllZip, ArePairs, Heading, IsPairOf, MasterSettings, Option, Pair, PairsHeading, SlaveSettings, one_master, one_slave}
use Rattle.std.proofs.Common.{◌≡◌, List, [], ◌∷◌, refl, ap, ◌∙◌, rules}

one_pair : (h : Heading) (p q : Pair) → IsPairOf h p → IsPairOf h q → p ≡ q
one_pair h p q x y =
    ap (λ (ms : MasterSettings). record { master = ms; slave = p.slave }) (one_master h p.master q.master x.0 y.0)
    ∙ ap (λ (ss : SlaveSettings). record { master = q.master; slave = ss }) (one_slave h p.slave q.slave x.1 y.1)

same_pairs : (hs : List Heading) (a b : List Pair) → AllZip IsPairOf hs a → AllZip IsPairOf hs b → a ≡ b
same_pairs [] [] [] x y = refl
same_pairs [] (p ∷ a) b x y = absurd x
same_pairs (h ∷ hs) [] b x y = absurd x
same_pairs (h ∷ hs) (p ∷ a) (q ∷ b) x y = ap (λ (p : Pair). p ∷ a) (one_pair h p q x.0 y.0) ∙ ap (λ (rest : List Pair). q ∷ rest) (same_pairs hs a b x.1 y.1)
same_pairs _ _ _ x y = absurd y

pub one_list : (heading : Option PairsHeading) (a b : List Pair) → ArePairs heading a → ArePairs heading b → a ≡ b
one_list heading a b h k = search (rules, same_pairs)
