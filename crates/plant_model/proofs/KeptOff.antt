-- The bits of a bound at the master of many connections and in the pairs: what the application reads is what the master
-- of a pair has, and what it answers is what that master offers. Acts and entries are listed newest first.
use Rattle.plant_model.proofs.Common.{Act, Beginning, Bit, Connection, End, Entry, FailSafe, IsWorld, LinkConf, MasterSettings, OfMaster, SameLengths, Setup, SlaveSettings, bit_at, bit_of, deeds, journal, link_at, masters, next_offered, of_end, offer_at, offered_put, offers_after, offers_bit, out, option_map, outputs_due, pair, received_len, sends, setup_of}
use Rattle.end_model.specs.Readiness.{held, offer}
use Rattle.std.proofs.Common.{◌≡◌, ℕ, zero, suc, Bool, false, ◌&&◌, not, List, [], ◌∷◌, map, Option, Some, None, if◌then◌else◌, refl, sym, ap, ap₂, ◌∙◌, rules}
use Rattle.std.proofs.lemmas.Bool.{and_right}
use Rattle.std.proofs.lemmas.Option.{get_or_from_slice_get, slice_get-map}
use Rattle.fsoe_base.specs.declared.command.End.TheVariants as side
use Rattle.fb_net.proofs.Bits.{zero_bit}
use Rattle.exchange_model.proofs.Alone.Loads.{held-is, offer_by, put-is}
use Rattle.exchange_model.proofs.Fairness.Shown.{due_is_out, receives_is}
use Rattle.exchange_model.proofs.Worlds.Projection.{told, deeds_are_run}
use Rattle.plant_model.proofs.Masters.{master_with, mastered}

bit_by : (s : Setup) (bit : ℕ) (now : Bool) (o : Option (List ℕ)) → offers_bit bit (if now then FailSafe else offered_put o) ≡ (not now && bit_of (offer_by (sends s) o) bit)
bit_by s bit false None = sym (zero_bit (sends s ∷ []) (record { link = 1; bit = bit }))
bit_by s bit _ _ = refl

-- whether an end offers a bit as 1, by its deeds
pub offers_is : (s : Setup) (which : End) (bit : ℕ) (w : List Entry) → offers_bit bit (next_offered (of_end which w)) ≡ (not (held (deeds which w)) && bit_of (offer s (deeds which w)) bit)
offers_is s which bit w = search (rules, bit_by, held-is, put-is)

-- the outputs of an end, by its entries
pub out_due : (ms : MasterSettings) (ss : SlaveSettings) (which : End) (w : List Entry) → SameLengths ms ss → IsWorld ms ss w
    → out (setup_of ms ss which) (deeds which w) ≡ outputs_due (received_len ms.lengths which) (of_end which w)
out_due ms ss which w same h =
    let s : Setup = setup_of ms ss which in
    sym (due_is_out s (deeds which w) (deeds_are_run ms ss which w h))
    ∙ ap₂ outputs_due (sym (receives_is ms ss which same)) (sym (told ms ss which w h))

-- a bit of the master of many is one of the master in the pair: an input of the application is an output of that
pub bit_in : (f : Connection → List ℕ) (b : Beginning) (bit : ℕ) (acts : List Act) (k : ℕ) (link : LinkConf) → link_at b.links k ≡ Some link
    → bit_at (map f (masters b acts).connections) (record { link = k; bit = bit }) ≡ bit_of (f (master_with link (pair link k (journal b acts)))) bit
bit_in f b bit acts zero link e = absurd (cc e)
bit_in f b bit acts (suc place) link e =
    let cs : List Connection = (masters b acts).connections in
    ap (λ (image : List ℕ). bit_of image bit) (get_or_from_slice_get (map f cs) place _ [] (slice_get-map f cs place ∙ ap (option_map f) (mastered b acts place link e)))

-- where the offer of the master of many has a bit as 0, the master in the pair offers it as 0
pub offered_zero : (b : Beginning) (bit : Bit) (acts : List Act) (link : LinkConf) → link_at b.links bit.link ≡ Some link → bit_at (offers_after b acts) bit ≡ false
    → offers_bit bit.bit (next_offered (of_end side.Master (pair link bit.link (journal b acts)))) ≡ false
offered_zero b bit acts link e is_off =
    let w : List Entry = pair link bit.link (journal b acts) in
    offers_is (OfMaster link.master) side.Master bit.bit w
    ∙ ap (λ (z : Bool). not (held (deeds side.Master w)) && z) (sym (bit_in offer_at b bit.bit acts bit.link link e) ∙ is_off)
    ∙ and_right (not (held (deeds side.Master w))) false refl
