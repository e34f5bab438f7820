-- What a slave has in every state: its settings, its offer, and its nonce.
use Rattle.std.specs.Prelude.{◌≡◌, ℕ, IsTrue, length}
use Rattle.param_load.specs.declared.slave_settings.SlaveSettings.{SlaveSettings}
use Rattle.param_load.specs.Profile.{allows_id}
use Rattle.failsafe_io.specs.Offer.{OfferView, first_offer}
use Rattle.end_model.specs.Setup.{OfSlave, sends}

-- what a slave has in every state: its settings, what it offers, and its nonce
pub record KitView : Type 0 where
  pub settings : SlaveSettings
  pub offer : OfferView
  pub nonce : ℕ

-- a new slave offers zeros, isn't held, and has the nonce of its settings
abbrev pub first_kit : SlaveSettings → KitView
first_kit settings = record { settings = settings; offer = first_offer (sends (OfSlave settings)); nonce = settings.nonce }

-- the offer has the length of the slave's frames, and the profile allows the nonce
pub record IsKit (k : KitView) : Type 0 where
  pub offer_len : length k.offer.load ≡ sends (OfSlave k.settings)
  pub nonce_allowed : IsTrue (allows_id k.settings.profile k.nonce)
