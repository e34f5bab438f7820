-- What a master has in every state: its settings, its offer, and its nonce.
use Rattle.std.specs.Prelude.{◌≡◌, ℕ, true, false, IsTrue, length}
use Rattle.param_load.specs.declared.master_settings.MasterSettings.{MasterSettings}
use Rattle.param_load.specs.Download.{download}
use Rattle.param_load.specs.DownloadView.{DownloadView}
use Rattle.param_load.specs.Payload.{session_payload, connection_payload, parameter_payload}
use Rattle.param_load.specs.Profile.{allows_id}
use Rattle.failsafe_io.specs.Offer.{OfferView, first_offer}
use Rattle.end_model.specs.Setup.{OfMaster, sends, piece_len}

-- what a master has in every state
pub record KitView : Type 0 where
  pub settings : MasterSettings
  pub offer : OfferView
  pub nonce : ℕ

-- a new master offers zeros, isn't held, and has the nonce of its settings
abbrev pub first_kit : MasterSettings → KitView
first_kit settings = record { settings = settings; offer = first_offer (sends (OfMaster settings)); nonce = settings.nonce }

-- the offer has the length of the master's frames, and the profile allows the nonce
pub record IsKit (k : KitView) : Type 0 where
  pub offer_len : length k.offer.load ≡ sends (OfMaster k.settings)
  pub nonce_allowed : IsTrue (allows_id k.settings.profile k.nonce)

-- what a master downloads first is its session id, which no answer repeats
abbrev pub session_download : KitView → DownloadView
session_download k = download (session_payload k.nonce k.settings.profile) (piece_len (OfMaster k.settings)) false

-- what it downloads then are the connection id and the address, which each answer repeats
abbrev pub connection_download : MasterSettings → DownloadView
connection_download settings = download (connection_payload settings.conn settings.address) (piece_len (OfMaster settings)) true

-- what it downloads last are the parameters, which each answer repeats
abbrev pub parameter_download : MasterSettings → DownloadView
parameter_download settings = download (parameter_payload settings.watchdog settings.profile settings.app) (piece_len (OfMaster settings)) true
