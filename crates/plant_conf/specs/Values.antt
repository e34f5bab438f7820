-- What a connection says, as plain values: settings hold proofs that their numbers are allowed, which no text gives.
use Rattle.std.specs.Prelude.{ℕ}
use Rattle.param_load.specs.declared.profile.Profile.{Profile}
use Rattle.plant_conf.specs.declared.conf.LinkConf.{LinkConf}
use Rattle.plant_conf.specs.declared.tables.LinkKeys.{LinkKeys}
use Rattle.plant_conf.specs.declared.tables.SlaveKeys.{SlaveKeys}

-- what it has to say, what it may say of its slave, and what else the settings of its ends say. The first nonce and the
-- first profile are the master's, the second are the slave's. The slave has lengths of its own: that of the master's
-- data, and that of the slave's
pub record LinkValues : Type 0 where
  pub keys : LinkKeys
  pub slave : SlaveKeys
  pub nonces : ℕ × ℕ
  pub slave_lengths : ℕ × ℕ
  pub profiles : Profile × Profile

abbrev pub link_values : LinkConf → LinkValues
link_values link =
    let m = link.master in
    let s = link.slave in
    record {
      keys = record { id = m.conn; address = m.address; watchdog = m.watchdog; lengths = (m.lengths.master, m.lengths.slave); app = m.app };
      slave = record { rule = s.rule; address = s.address; hand = s.hand; most = s.most };
      nonces = (m.nonce, s.nonce);
      slave_lengths = (s.lengths.master, s.lengths.slave);
      profiles = (m.profile, s.profile);
    }
