-- A frame that differs in one thing from a frame that fits.
use Rattle.seq_chain.proofs.Common.{AreBytes, DifferAt, DifferInCommand, DifferInConnection, DifferInCrc, DifferInGroup, Frame, Link, SteppedAlike, crc_0, crcs, first_of, fits, groups, repeats_crc, steps_again}
use Rattle.std.proofs.Common.{◌≡◌, ◌≢◌, ℕ, zero, suc, ◌<◌, List, ◌∷◌, length, false, Option, IsTrue, sym, ap, ◌∙◌, arith, rules}
use Rattle.seq_chain.proofs.ToldApart.{command_told, connection_told, groups_told, first_group, first_alike}

-- a frame with the same CRC fields that would have other CRCs under each number, where the second step comes for both
-- or for neither
pub unlike_refused : (last last' : ℕ) (before : Option Link) (f g : Frame) → IsTrue (fits last before f) → steps_again last before f ≡ steps_again last' before g → f.crcs ≡ g.crcs
    → ((n : ℕ) → crcs last f.conn n f.cmd f.load ≢ crcs last' g.conn n g.cmd g.load) → fits last' before g ≡ false
unlike_refused last last' before f g right steps same other = search rules

pub command_refused : (last : ℕ) (before : Option Link) (f g : Frame) → f.cmd < 256 → g.cmd < 256 → 0 < length f.load → IsTrue (fits last before f) → DifferInCommand f g → SteppedAlike last before f g → fits last before g ≡ false
command_refused last before f g h h' some right d steps =
    unlike_refused last last before f g right steps (λ i. (sym d.alone i).crcs) (λ n e. command_told last f.conn n f.cmd g.cmd 0 (first_group f.load) h h' d.command
    (first_alike last last f.conn f.conn n n f.cmd g.cmd f.load some (ap first_of e ∙ (λ i. crc_0 last (d.alone i).conn n g.cmd (d.alone i).load))))

pub connection_refused : (last : ℕ) (before : Option Link) (f g : Frame) → f.conn < 65536 → g.conn < 65536 → 0 < length f.load → IsTrue (fits last before f) → DifferInConnection f g → SteppedAlike last before f g → fits last before g ≡ false
connection_refused last before f g h h' some right d steps =
    unlike_refused last last before f g right steps (λ i. (sym d.alone i).crcs) (λ n e. connection_told last f.conn g.conn n f.cmd 0 (first_group f.load) h h' d.connection
    (first_alike last last f.conn g.conn n n f.cmd f.cmd f.load some (ap first_of e ∙ (λ i. crc_0 last g.conn n (d.alone i).cmd (d.alone i).load))))

-- the data of one group, where the second step comes for both or for neither
group_refused : (last : ℕ) (before : Option Link) (f g : Frame) (k : ℕ) → AreBytes f.load → AreBytes g.load → IsTrue (fits last before f) → DifferInGroup k f g
    → SteppedAlike last before f g → fits last before g ≡ false
group_refused last before f g k h l m n o = search (rules, unlike_refused, groups_told)

pub first_data_refused : (last : ℕ) (before : Option Link) (f g : Frame) → AreBytes f.load → AreBytes g.load → IsTrue (fits last before f) → DifferInGroup 0 f g → SteppedAlike last before f g → fits last before g ≡ false
first_data_refused last before f g h h' right d steps = group_refused last before f g 0 h h' right d steps

same_step : (last conn cmd k : ℕ) (before : Option Link) (load load' : List ℕ) → DifferAt (suc k) (groups load) (groups load')
    → repeats_crc (λ n. crc_0 last conn n cmd load) before ≡ repeats_crc (λ n. crc_0 last conn n cmd load') before
same_step last conn cmd k before load load' h = grind arith

pub later_data_refused : (last : ℕ) (before : Option Link) (f g : Frame) (k : ℕ) → 0 < k → AreBytes f.load → AreBytes g.load → IsTrue (fits last before f) → DifferInGroup k f g → fits last before g ≡ false
later_data_refused last before f g zero later h h' right d = absurd (omega arith)
later_data_refused last before f g (suc k) later h h' right d =
    group_refused last before f g (suc k) h h' right d (same_step last f.conn f.cmd k before f.load g.load d.group ∙ (λ i. steps_again last before (sym d.alone i)))

differ_not_equal : (k : ℕ) (xs ys : List ℕ) → DifferAt k xs ys → xs ≢ ys
differ_not_equal zero (x ∷ xs) (y ∷ ys) d e = d.0 (cc)
differ_not_equal (suc k) (x ∷ xs) (y ∷ ys) d e = differ_not_equal k xs ys d.1 (cc)
differ_not_equal _ _ _ d e = d

pub crc_refused : (last : ℕ) (before : Option Link) (f g : Frame) (k : ℕ) → IsTrue (fits last before f) → DifferInCrc k f g → fits last before g ≡ false
crc_refused last before f g k h l = search (rules, differ_not_equal)
