use Rattle.seq_chain.proofs.Common.{reset_load, take-replicate}
use Rattle.std.proofs.Common.{◌≡◌, ◌≤◌, ◌∷◌, ℕ, zero, suc, List, take, replicate, ap, refl, arith, rules}
use Rattle.seq_chain.proofs.reset.reset_frame.Goals as goal

load-is : (code l : ℕ) → l ≤ 126 → take l (code ∷ replicate 125 0) ≡ reset_load code l
load-is code zero h = refl
load-is code (suc n) h = ap (λ (rest : List ℕ). code ∷ rest) (take-replicate n 125 0 (omega (arith, h)))

pub returns : goal.returns
returns c = search (rules, load-is)
