-- The first piece of a session id, as a frame carries it.
use Rattle.end_model.proofs.Common.{AreBytes, NotByStep, Profile, Setup, first_number, id_front, is_length, nat_tests, padded, piece, piece_len, sends, session_payload}
use Rattle.std.proofs.Common.{◌≡◌, ℕ, zero, suc, ◌+◌, ◌-◌, ◌*◌, ◌%◌, ◌==◌, ◌<◌, List, ◌∷◌, ◌++◌, length, take, drop, replicate, false, if◌then◌else◌, IsTrue, sym, ap, arith, rules}
use Rattle.end_model.proofs.SealedFrames.{padded_len, taken_len}
use Rattle.std.proofs.lemmas.Grind.{common_steps}

-- the load with the first piece of a session id
abbrev pub first_load : Setup → Profile → ℕ → List ℕ
first_load s p id = padded (take (piece_len s) (session_payload id p)) (sends s)

pub first_piece : (payload : List ℕ) (c : ℕ) → piece payload c 1 ≡ take c payload
first_piece payload c = let none : 0 * c ≡ 0 = omega arith in ap (λ n. take c (drop n payload)) none

-- bytes of a payload
byte_first : (d : ℕ) (bytes : List ℕ) → d < 256 → AreBytes bytes → AreBytes (d ∷ bytes)
byte_first d bytes h k = grind arith

zeros : (n : ℕ) → AreBytes (replicate n 0)
zeros n = grind (arith, common_steps)

padded_bytes : (n l : ℕ) (bytes : List ℕ) → AreBytes bytes → AreBytes (take n bytes ++ replicate l 0)
padded_bytes (suc n) l (d ∷ bytes) h = byte_first d (take n bytes ++ replicate l 0) (h 0) (padded_bytes n l bytes (λ i. h (suc i)))
padded_bytes _ l _ h = zeros l

pub load_bytes : (s : Setup) (p : Profile) (id : ℕ) → AreBytes (first_load s p id)
load_bytes s p id = search (rules, padded_bytes)

pub load_len : (s : Setup) (p : Profile) (id : ℕ) → length (first_load s p id) ≡ sends s
load_len s p id = search (rules, taken_len, padded_len)

-- a byte and zeros after it
lone : (d n : ℕ) → first_number (d ∷ replicate n 0) ≡ d
lone d n = grind arith

front_by : (c l d b : ℕ) (rest : List ℕ) → 0 < c → first_number (padded (take c (d ∷ b ∷ rest)) l) ≡ if c == 1 then d else d + 256 * b
front_by zero l d b rest some = absurd (omega arith)
front_by (suc zero) l d b rest some = lone d (l - 1)
front_by (suc (suc n)) l d b rest some =
    let more : (suc (suc n) == 1) ≡ false = grind (arith, nat_tests) in
    ap (λ one. if one then d else d + 256 * b) (sym more)

pub positive : (l : ℕ) → IsTrue (is_length l) → 0 < l
positive l h = grind arith

-- its first group carries the front of the id
pub front_is : (s : Setup) (p : Profile) (id : ℕ) → first_number (first_load s p id) ≡ id_front s id
front_is s p id = search (rules, front_by, positive)

-- ids that are both even or both odd differ by an even number
pub even_not_by_step : (s : Setup) (id id' : ℕ) → id % 2 ≡ id' % 2 → NotByStep s id id'
even_not_by_step s id id' h = grind (arith, common_steps)

-- ids differ by less than 256 where a piece has one byte
pub byte_not_by_step : (s : Setup) (id id' : ℕ) → piece_len s ≡ 1 → NotByStep s id id'
byte_not_by_step s id id' h = grind (arith, common_steps)
