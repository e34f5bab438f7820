-- What the CRC tells apart of what it covers.
use Rattle.seq_chain.proofs.Common.{AreBytes, DifferAt, common, cover, covered, crc_0, crcs_from, first_of, groups, low_high, place, rem, rem-adjacent, rem-one}
use Rattle.std.proofs.Common.{◌≡◌, ◌≢◌, ℕ, zero, suc, ◌/◌, ◌%◌, ◌<◌, ◌≤◌, List, [], ◌∷◌, ◌++◌, length, refl, ap, arith, append_assoc, rules}

-- a number of 16 bits is two adjacent bytes
pub word_told : (before after : List ℕ) (m n : ℕ) → m < 65536 → n < 65536 → rem (before ++ m % 256 ∷ m / 256 ∷ after) ≡ rem (before ++ n % 256 ∷ n / 256 ∷ after) → m ≡ n
word_told before after m n h k l = search (rules, rem-adjacent)

-- what comes after the common part
abbrev after_common : ℕ → List ℕ → List ℕ
after_common i group = place i ++ group ++ 0 ∷ 0 ∷ 0 ∷ []

pub last_told : (last last' conn n cmd i : ℕ) (group : List ℕ) → last < 65536 → last' < 65536 → last ≢ last' → rem (cover last conn n cmd i group) ≢ rem (cover last' conn n cmd i group)
last_told last last' conn n cmd i group h h' other e = other (word_told [] (low_high conn ++ low_high n ++ cmd ∷ after_common i group) last last' h h' e)

pub connection_told : (last conn conn' n cmd i : ℕ) (group : List ℕ) → conn < 65536 → conn' < 65536 → conn ≢ conn' → rem (cover last conn n cmd i group) ≢ rem (cover last conn' n cmd i group)
connection_told last conn conn' n cmd i group h h' other e = other (word_told (low_high last) (low_high n ++ cmd ∷ after_common i group) conn conn' h h' e)

pub number_told : (last conn n n' cmd i : ℕ) (group : List ℕ) → n < 65536 → n' < 65536 → n ≢ n' → rem (cover last conn n cmd i group) ≢ rem (cover last conn n' cmd i group)
number_told last conn n n' cmd i group h h' other e = other (word_told (low_high last ++ low_high conn) (cmd ∷ after_common i group) n n' h h' e)

pub command_told : (last conn n cmd cmd' i : ℕ) (group : List ℕ) → cmd < 256 → cmd' < 256 → cmd ≢ cmd' → rem (cover last conn n cmd i group) ≢ rem (cover last conn n cmd' i group)
command_told last conn n cmd cmd' i group h h' other e = other (rem-one (low_high last ++ low_high conn ++ low_high n) (after_common i group) cmd cmd' h h' e)

-- the zeros at the end come after the data
pub zeros_last : (first : List ℕ) (i : ℕ) (group : List ℕ) → rem (covered first i group) ≡ rem ((first ++ place i) ++ (group ++ 0 ∷ 0 ∷ 0 ∷ []))
zeros_last first i group = ap rem (append_assoc (first ++ place i) group (0 ∷ 0 ∷ 0 ∷ []))

pub one_told : (first : List ℕ) (i d d' : ℕ) → d < 256 → d' < 256 → rem (covered first i (d ∷ [])) ≡ rem (covered first i (d' ∷ [])) → (d ∷ []) ≡ (d' ∷ [])
one_told first i d d' h k l = search (rules, rem-one, zeros_last)

pub pair_told : (first : List ℕ) (i d b d' b' : ℕ) → d < 256 → b < 256 → d' < 256 → b' < 256 → rem (covered first i (d ∷ b ∷ [])) ≡ rem (covered first i (d' ∷ b' ∷ [])) → (d ∷ b ∷ []) ≡ (d' ∷ b' ∷ [])
pair_told first i d b d' b' h k l m n = search (rules, rem-adjacent, zeros_last)

pub data_told : (last conn n cmd i : ℕ) (group group' : List ℕ) → length group ≤ 2 → length group ≡ length group' → AreBytes group → AreBytes group' → group ≢ group' → rem (cover last conn n cmd i group) ≢ rem (cover last conn n cmd i group')
data_told last conn n cmd i [] [] most same h h' other e = other refl
data_told last conn n cmd i (d ∷ []) (d' ∷ []) most same h h' other e = other (one_told (common last conn n cmd) i d d' (h 0) (h' 0) e)
data_told last conn n cmd i (d ∷ b ∷ []) (d' ∷ b' ∷ []) most same h h' other e = other (pair_told (common last conn n cmd) i d b d' b' (h 0) (h 1) (h' 0) (h' 1) e)
data_told last conn n cmd i group group' most same h h' other e = absurd (omega arith)

no_place : (k : ℕ) → DifferAt {A = List ℕ} k [] [] → ⊥
no_place k h = grind arith

after_first : List ℕ → List ℕ
after_first [] = []
after_first (crc ∷ more) = more

-- loads that differ in one group have different CRCs
pub groups_told : (last conn n cmd i k : ℕ) (load load' : List ℕ) → length load ≡ length load' → AreBytes load → AreBytes load' → DifferAt k (groups load) (groups load')
    → crcs_from last conn n cmd i (groups load) ≢ crcs_from last conn n cmd i (groups load')
unfolding after_first
groups_told last conn n cmd i zero (d ∷ []) (d' ∷ []) same h h' other e = other.0 (one_told (common last conn n cmd) i d d' (h 0) (h' 0) (ap first_of e))
groups_told last conn n cmd i zero (d ∷ b ∷ load) (d' ∷ b' ∷ load') same h h' other e = other.0 (pair_told (common last conn n cmd) i d b d' b' (h 0) (h 1) (h' 0) (h' 1) (ap first_of e))
groups_told last conn n cmd i (suc k) (d ∷ []) (d' ∷ []) same h h' other e = no_place k other.1
groups_told last conn n cmd i (suc k) (d ∷ b ∷ load) (d' ∷ b' ∷ load') same h h' other e =
    groups_told last conn n cmd (suc i) k load load' (omega arith) (λ j. h (suc (suc j))) (λ j. h' (suc (suc j))) other.1 (ap after_first e)
groups_told last conn n cmd i zero [] [] same h h' other e = other
groups_told last conn n cmd i (suc k) [] [] same h h' other e = other
groups_told last conn n cmd i k load load' same h h' other e = absurd (omega arith)

abbrev pub first_group : List ℕ → List ℕ
first_group [] = []
first_group (d ∷ []) = d ∷ []
first_group (d ∷ b ∷ load) = d ∷ b ∷ []

-- the CRC_0 of a load is that of its first group
pub first_alike : (last last' conn conn' n n' cmd cmd' : ℕ) (load : List ℕ) → 0 < length load → crc_0 last conn n cmd load ≡ crc_0 last' conn' n' cmd' load
    → rem (cover last conn n cmd 0 (first_group load)) ≡ rem (cover last' conn' n' cmd' 0 (first_group load))
first_alike last last' conn conn' n n' cmd cmd' load h e = grind arith
