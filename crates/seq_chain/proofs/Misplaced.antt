-- A frame at another time than its own: after another CRC_0 taken last, and under another number.
use Rattle.seq_chain.proofs.Common.{CancelsOut, DifferEverywhere, Frame, Link, bytes_decides, cases_eq, common, cover, crcs, crcs_from, fed_bits-injective, fed_bytes-append, fed_bytes-below, fed_bytes-injective, first_of, fits, groups, low_high, number_of, place, rem-xored, sealed, sixteen_zeros, sixteen_zeros-are_bits, xor_lt, xor_mod, xor_self, xor_shr}
use Rattle.std.proofs.Common.{◌≡◌, ◌≢◌, ℕ, suc, ◌/◌, ◌%◌, ◌⊎◌, inl, inr, List, [], ◌∷◌, ◌++◌, bit_xor, Option, IsTrue, refl, sym, ap, ◌∙◌, lit<, subst, rules}
use Rattle.fsoe_crc.proofs.Backwards.{word_before}
use Rattle.fsoe_crc.proofs.Xor.{xor_zero_eq}
use Rattle.fsoe_crc.specs.Remainder.{fed_bits, fed_bytes, rem}
use Rattle.seq_chain.proofs.ToldApart.{first_alike, first_group, word_told}

-- where two lists with one end have one CRC, what comes before the end has one too
pub before_end : (xs ys end : List ℕ) → rem (xs ++ end) ≡ rem (ys ++ end) → rem xs ≡ rem ys
unfolding rem
before_end xs ys end h = search (rules, fed_bits-injective, fed_bytes-below, sixteen_zeros-are_bits, fed_bytes-injective, fed_bytes-append)

after_end : (xs ys end : List ℕ) → rem xs ≡ rem ys → rem (xs ++ end) ≡ rem (ys ++ end)
unfolding rem
after_end xs ys end h =
    let same : fed_bytes 0 xs ≡ fed_bytes 0 ys = fed_bits-injective _ _ sixteen_zeros (fed_bytes-below 0 xs (lit< tt)) (fed_bytes-below 0 ys (lit< tt)) sixteen_zeros-are_bits h in
    ap (λ v. fed_bits v sixteen_zeros) (fed_bytes-append 0 xs end ∙ ap (λ v. fed_bytes v end) same ∙ sym (fed_bytes-append 0 ys end))

-- the CRC of what all groups cover first decides for each group
all_same : (last last' conn conn' n n' cmd cmd' i : ℕ) (groups : List (List ℕ)) → rem (common last conn n cmd) ≡ rem (common last' conn' n' cmd') → crcs_from last conn n cmd i groups ≡ crcs_from last' conn' n' cmd' i groups
all_same last last' conn conn' n n' cmd cmd' i [] e = refl
all_same last last' conn conn' n n' cmd cmd' i (group ∷ more) e =
    (λ j. after_end (common last conn n cmd) (common last' conn' n' cmd') (place i ++ group ++ 0 ∷ 0 ∷ 0 ∷ []) e j ∷ all_same last last' conn conn' n n' cmd cmd' (suc i) more e j)

none_same : (last last' conn conn' n n' cmd cmd' i : ℕ) (groups : List (List ℕ)) → rem (common last conn n cmd) ≢ rem (common last' conn' n' cmd') → DifferEverywhere (crcs_from last conn n cmd i groups) (crcs_from last' conn' n' cmd' i groups)
none_same last last' conn conn' n n' cmd cmd' i [] other = tt
none_same last last' conn conn' n n' cmd cmd' i (group ∷ more) other =
    ((λ e. other (before_end (common last conn n cmd) (common last' conn' n' cmd') (place i ++ group ++ 0 ∷ 0 ∷ 0 ∷ []) e)), none_same last last' conn conn' n n' cmd cmd' (suc i) more other)

pub every_or_none : (last last' : ℕ) (before before' : Option Link) (f : Frame) → IsTrue (fits last before f) → IsTrue (fits last' before' f) ⊎ DifferEverywhere f.crcs (sealed last' before' f.conn f.cmd f.load).crcs
every_or_none last last' before before' f right =
    let n : ℕ = number_of last before f.conn f.cmd f.load in
    let n' : ℕ = number_of last' before' f.conn f.cmd f.load in
    let there : List ℕ = crcs last' f.conn n' f.cmd f.load in
    let here : f.crcs ≡ crcs last f.conn n f.cmd f.load = (bytes_decides f.crcs (crcs last f.conn n f.cmd f.load)).0 right in
    elim (cases_eq (rem (common last f.conn n f.cmd)) (rem (common last' f.conn n' f.cmd))) [
      | inl same ↦ inl ((bytes_decides f.crcs there).1 (here ∙ all_same last last' f.conn f.conn n n' f.cmd f.cmd 0 (groups f.load) same))
      | inr other ↦ inr (subst (λ crcs. DifferEverywhere crcs there) (sym here) (none_same last last' f.conn f.conn n n' f.cmd f.cmd 0 (groups f.load) other))
    ]

-- what all groups cover up to the number
begun : ℕ → ℕ → ℕ → List ℕ
begun last conn n = low_high last ++ low_high conn ++ low_high n

begun_xored : (last last' conn n n' : ℕ) → bit_xor (rem (begun last conn n)) (rem (begun last' conn n')) ≡ rem (low_high (bit_xor last last') ++ 0 ∷ 0 ∷ low_high (bit_xor n n'))
unfolding begun
begun_xored last last' conn n n' =
    rem-xored [] (begun last conn n) (begun last' conn n') refl
    ∙ (λ j. rem (sym (xor_mod last last' 8) j ∷ sym (xor_shr last last' 8) j ∷ xor_self (conn % 256) j ∷ xor_self (conn / 256) j ∷ sym (xor_mod n n' 8) j ∷ sym (xor_shr n n' 8) j ∷ []))

-- where a CRC is the same under two numbers, the differences cancel out
pub cancel : (last last' conn n n' cmd i : ℕ) (group : List ℕ) → rem (cover last conn n cmd i group) ≡ rem (cover last' conn n' cmd i group) → rem (low_high (bit_xor last last') ++ 0 ∷ 0 ∷ low_high (bit_xor n n')) ≡ 0
unfolding begun
cancel last last' conn n n' cmd i group e =
    let same : rem (begun last conn n) ≡ rem (begun last' conn n') = before_end (begun last conn n) (begun last' conn n') (cmd ∷ place i ++ group ++ 0 ∷ 0 ∷ 0 ∷ []) e in
    sym (begun_xored last last' conn n n') ∙ ap (λ r. bit_xor r (rem (begun last' conn n'))) same ∙ xor_self (rem (begun last' conn n'))

pub one_cancels : (number number' : ℕ) → (change : ℕ) × CancelsOut change number number'
unfolding begun
one_cancels n n' =
    let found = word_before (0 ∷ 0 ∷ low_high (bit_xor n n')) in (
      found.0,
      record {
        within = found.1;
        same = λ last last' conn cmd load h h' e.
            let none : bit_xor (rem (begun last conn n)) (rem (begun last' conn n')) ≡ 0 = begun_xored last last' conn n n' ∙ ap (λ x. rem (low_high x ++ 0 ∷ 0 ∷ low_high (bit_xor n n'))) e ∙ found.2 in
            all_same last last' conn conn n n' cmd cmd 0 (groups load) (after_end (begun last conn n) (begun last' conn n') (cmd ∷ []) (xor_zero_eq _ _ none));
        alone = λ last last' conn cmd load h h' some e.
            word_told [] (0 ∷ 0 ∷ low_high (bit_xor n n')) (bit_xor last last') found.0 (xor_lt 16 last last' h h') found.1
            (cancel last last' conn n n' cmd 0 (first_group load) (first_alike last last' conn conn n n' cmd cmd load some (ap first_of e)) ∙ sym found.2);
      },
    )
