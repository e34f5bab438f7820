-- The Reset frame with code 0 passes all of its tests.
use Rattle.exchange_model.proofs.Common.{Code, Deed, Frame, IsResetFrame, Setup, all_zero, bytes_decides, bytes_of, code, common_steps, count_crcs, count_groups, frame_len, frame_of, groups, halves, is_length, kept, length-replicate, parts_made, receives, reset_crcs, reset_frame, since}
use Rattle.std.proofs.Common.{◌≡◌, ℕ, zero, suc, ◌-◌, ◌<◌, List, ◌∷◌, length, replicate, Bool, true, not, None, Ok, Err, IsTrue, if◌then◌else◌, refl, sym, ap, subst, ◌∙◌, arith, rules}
use Rattle.exchange_model.proofs.Honest.OnItsWay.{groups_long}

pub zeros_all : (n : ℕ) → all_zero (replicate n 0) ≡ true
zeros_all zero = refl
zeros_all (suc n) = zeros_all n

-- the data of a Reset frame with code 0
abbrev pub zero_load : ℕ → List ℕ
zero_load l = 0 ∷ replicate (l - 1) 0

pub some_bytes : (l : ℕ) → IsTrue (is_length l) → 0 < l
some_bytes l h = grind arith

load-long : (l : ℕ) → 0 < l → length (zero_load l) ≡ l
load-long l h = ap suc (length-replicate (l - 1) 0) ∙ omega arith

-- the parts of a Reset frame
abbrev zero_frame : ℕ → Frame
zero_frame l = record { cmd = 0x2A; load = zero_load l; crcs = reset_crcs (zero_load l); conn = 0 }

count-of : (load : List ℕ) → length (reset_crcs load) ≡ length (groups load)
count-of load = count_crcs 0 0 1 0x2A 0 (groups load)

frame-is : (l : ℕ) → 0 < l → reset_frame 0 l ≡ bytes_of (zero_frame l)
frame-is l h = search (rules, bytes_of)

parts-are : (l : ℕ) → IsTrue (is_length l) → frame_of l (reset_frame 0 l) ≡ zero_frame l
parts-are l h =
    let n : 0 < l = some_bytes l h in
    let e : length (zero_load l) ≡ l = load-long l n in
    let valid : IsTrue (is_length (length (zero_load l))) = subst (λ (l : ℕ). IsTrue (is_length l)) (sym e) h in
    ap (frame_of l) (frame-is l n)
    ∙ (ap (λ k. frame_of k (bytes_of (zero_frame l))) (sym e)
    ∙ parts_made (zero_frame l) valid (count-of (zero_load l) ∙ (count_groups (zero_load l) ∙ halves (length (zero_load l)) valid)))

pub reset_long : (l : ℕ) → IsTrue (is_length l) → length (reset_frame 0 l) ≡ frame_len l
reset_long l h = grind (arith, common_steps, groups_long, count-of, count_groups)

tested : (a b k : Bool) (x y z o : Code) → a ≡ true → b ≡ true → k ≡ true → (if not a then Err x else if not b then Err y else if not k then Err z else Ok o) ≡ Ok o
tested a b k x y z o h l m = grind arith

pub is_reset_frame : (s : Setup) (e : List Deed) → IsTrue (is_length (receives s)) → kept (since e) ≡ None → IsResetFrame s e (reset_frame 0 (receives s)) (zero_load (receives s))
is_reset_frame s e h k = search (rules, reset_long, parts-are, tested, code, bytes_decides, zeros_all)
