-- A header says all that an end is set to, so that an end has one setting by it.
use Rattle.schedule_file.proofs.Common.{Heading, IsMasterOf, IsSlaveOf, IsTrue, Lengths, MasterSettings, SlaveSettings, allows_id, is_acceptable, is_length}
use Rattle.std.proofs.Common.{◌≡◌, ◌<◌, ◌∙◌, sym}
use Rattle.std.proofs.Math.Bool.{Bool-set}
use Rattle.std.proofs.Math.Bridge.{le_prop}
use mathlib.Core.HLevel.{is_prop→PathP}

pub same_lengths : (a b : Lengths) → a.master ≡ b.master → a.slave ≡ b.slave → a ≡ b
same_lengths a b master slave = λ i. record {
  master = master i;
  slave = slave i;
  valid_master = is_prop→PathP (λ j. IsTrue (is_length (master j))) (λ j. Bool-set _ _) a.valid_master b.valid_master i;
  valid_slave = is_prop→PathP (λ j. IsTrue (is_length (slave j))) (λ j. Bool-set _ _) a.valid_slave b.valid_slave i;
}

pub same_slave : (a b : SlaveSettings) → a.lengths ≡ b.lengths → a.address ≡ b.address → a.hand ≡ b.hand → a.most ≡ b.most → a.rule ≡ b.rule → a.nonce ≡ b.nonce → a.profile ≡ b.profile → a ≡ b
same_slave a b lengths address hand most rule nonce profile = λ i. record {
  lengths = lengths i;
  address = address i;
  hand = hand i;
  most = most i;
  rule = rule i;
  nonce = nonce i;
  profile = profile i;
  some_hand = is_prop→PathP (λ j. 0 < hand j) (λ j. le_prop) a.some_hand b.some_hand i;
  some_most = is_prop→PathP (λ j. 0 < most j) (λ j. le_prop) a.some_most b.some_most i;
  acceptable = is_prop→PathP (λ j. IsTrue (is_acceptable (rule j))) (λ j. Bool-set _ _) a.acceptable b.acceptable i;
  allowed = is_prop→PathP (λ j. IsTrue (allows_id (profile j) (nonce j))) (λ j. Bool-set _ _) a.allowed b.allowed i;
}

same_master : (a b : MasterSettings) → a.lengths ≡ b.lengths → a.conn ≡ b.conn → a.address ≡ b.address → a.watchdog ≡ b.watchdog → a.app ≡ b.app → a.nonce ≡ b.nonce → a.profile ≡ b.profile → a ≡ b
same_master a b lengths conn address watchdog app nonce profile = λ i. record {
  lengths = lengths i;
  conn = conn i;
  address = address i;
  watchdog = watchdog i;
  app = app i;
  nonce = nonce i;
  profile = profile i;
  some_conn = is_prop→PathP (λ j. 0 < conn j) (λ j. le_prop) a.some_conn b.some_conn i;
  some_watchdog = is_prop→PathP (λ j. 0 < watchdog j) (λ j. le_prop) a.some_watchdog b.some_watchdog i;
  allowed = is_prop→PathP (λ j. IsTrue (allows_id (profile j) (nonce j))) (λ j. Bool-set _ _) a.allowed b.allowed i;
}

pub one_master : (h : Heading) (a b : MasterSettings) → IsMasterOf h a → IsMasterOf h b → a ≡ b
one_master h a b x y =
    same_master a b (same_lengths a.lengths b.lengths (x.0 ∙ sym y.0) (x.1 ∙ sym y.1)) (x.2.conn_is ∙ sym y.2.conn_is) (x.2.address_is ∙ sym y.2.address_is)
    (x.2.watchdog_is ∙ sym y.2.watchdog_is) (x.2.app_is ∙ sym y.2.app_is) (x.2.nonce_is ∙ sym y.2.nonce_is) (x.2.profile_is ∙ sym y.2.profile_is)

pub one_slave : (h : Heading) (a b : SlaveSettings) → IsSlaveOf h a → IsSlaveOf h b → a ≡ b
one_slave h a b x y =
    same_slave a b (same_lengths a.lengths b.lengths (x.0 ∙ sym y.0) (x.1 ∙ sym y.1)) (x.2.address_is ∙ sym y.2.address_is) (x.2.hand_is ∙ sym y.2.hand_is)
    (x.2.most_is ∙ sym y.2.most_is) (x.2.rule_is ∙ sym y.2.rule_is) (x.2.nonce_is ∙ sym y.2.nonce_is) (x.2.profile_is ∙ sym y.2.profile_is)
