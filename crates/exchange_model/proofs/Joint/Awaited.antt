-- The item that an end awaits, found among those of its peer.
use Rattle.exchange_model.proofs.Common.{Item, State, answer_among, answers_to, eq-eqb, has_command, newest, newest_answer, number_if, phase_of_frame, phase_sent}
use Rattle.std.proofs.Common.{◌≡◌, ℕ, suc, ◌≤◌, List, [], ◌∷◌, length, Bool, Some, not, ◌&&◌, ◌==◌, if◌then◌else◌, refl, arith, rules}
use Rattle.fsoe_base.specs.declared.command.Command.TheVariants as command
use Rattle.exchange_model.proofs.Worlds.Frames.{bytes_in}
use Rattle.exchange_model.proofs.Worlds.Numbered.{Numbered}

-- the items of an end up to the one with this number
abbrev pub up_to : ℕ → List Item → List Item
up_to n [] = []
up_to n (i ∷ found) = if n == suc (length found) then i ∷ found else up_to n found

pub up_to_all : (found : List Item) → up_to (length found) found ≡ found
up_to_all [] = refl
up_to_all (i ∷ found) = simp (eq-eqb (length (i ∷ found)) (suc (length found)) (omega arith))

-- the phase of the newest item
abbrev pub newest_phase : List Item → State
newest_phase found = phase_sent (bytes_in found)

-- an item that answers another one, with those that its end had sent before
pub record Found (n : ℕ) (theirs : List Item) (j : Item) : Type 0 where
  pub rest : List Item
  pub is : up_to j.number theirs ≡ j ∷ rest
  pub before : up_to (length rest) theirs ≡ rest
  pub number_is : j.number ≡ suc (length rest)
  pub within : j.number ≤ length theirs
  pub answers : j.answers ≡ Some n

found-here : (n : ℕ) (i : Item) (theirs : List Item) → i.number ≡ suc (length theirs) → i.answers ≡ Some n → Found n (i ∷ theirs) i
found-here n i theirs h k = search (rules, up_to_all)

found-head : (n : ℕ) (i : Item) (theirs : List Item) (j : Item) (b : Bool) → Numbered (i ∷ theirs) → (not (has_command command.Reset i.bytes) && answers_to n i.answers) ≡ b
    → (newest_answer n theirs ≡ Some j → Found n theirs j) → (if b then Some i else newest_answer n theirs) ≡ Some j → Found n (i ∷ theirs) j
found-head n i theirs j b h k l m = search (rules, found-here)

pub found : (n : ℕ) (theirs : List Item) (j : Item) → Numbered theirs → newest_answer n theirs ≡ Some j → Found n theirs j
found n [] j num h = cc
found n (i ∷ theirs) j num h = found-head n i theirs j (not (has_command command.Reset i.bytes) && answers_to n i.answers) num refl (λ k. found n theirs j num.1 k) h

-- an awaited item answers the newest item of the end that awaits it
pub awaited_found : (mine theirs : List Item) (j : Item) → Numbered mine → Numbered theirs → answer_among theirs (newest mine) ≡ Some j → Found (length mine) theirs j
awaited_found mine theirs j h k l = search (rules, found)

-- the newest item, where it has these bytes
pub record IsNewest (n : ℕ) (bytes : List ℕ) (found : List Item) : Type 0 where
  pub number_is : n ≡ length found
  pub phase_is : newest_phase found ≡ phase_of_frame bytes

pub newest_is : (n : ℕ) (bytes : List ℕ) (found : List Item) → Numbered found → number_if bytes (newest found) ≡ Some n → IsNewest n bytes found
newest_is n bytes found h k = search rules
