-- How a download goes on by the answers to its pieces. It is this profile's own.
use Rattle.std.specs.Prelude.{ℕ, ◌+◌, nat_le, Bool, List, length, Result, Ok, Err, if◌then◌else◌}
use Rattle.fsoe_base.specs.declared.command.Code.{Code}
use Rattle.fsoe_base.specs.Codes.{wrong_data}
use Rattle.param_load.specs.declared.upload.Progress.{Progress}
use Rattle.param_load.specs.declared.upload.Progress.TheVariants as progress
use Rattle.param_load.specs.DownloadView.{DownloadView}
use Rattle.param_load.specs.Payload.{piece_from, is_padded, is_echo}
use Rattle.param_load.specs.declared.master_settings.MasterSettings.{MasterSettings}
use Rattle.param_load.specs.declared.terms.Terms.{Terms}

-- a download of which no piece was answered
abbrev pub download : List ℕ → ℕ → Bool → DownloadView
download payload piece echo = record { payload = payload; piece = piece; echo = echo; from = 0 }

-- the piece in turn
abbrev pub piece_in_turn : DownloadView → List ℕ
piece_in_turn v = piece_from v.payload v.from v.piece

-- a download is whole where all pieces of its payload were answered
abbrev pub is_whole : DownloadView → Bool
is_whole v = nat_le (length v.payload) v.from

-- whether these bytes answer the piece in turn
abbrev pub is_answer : DownloadView → List ℕ → Bool
is_answer v bytes = if v.echo then is_echo (piece_in_turn v) bytes else is_padded (piece_in_turn v) bytes

-- a download whose piece in turn was answered
abbrev pub advanced : DownloadView → DownloadView
advanced v = record v { from = v.from + v.piece }

-- code 7 where the bytes don't answer the piece in turn, else whether the download is whole with it
abbrev pub outcome : DownloadView → List ℕ → Result Progress Code
outcome v bytes =
    if is_answer v bytes then Ok (if is_whole (advanced v) then progress.Whole else progress.More)
    else Err wrong_data

-- the terms of a master are its settings
abbrev pub terms_of : MasterSettings → Terms
terms_of settings = record {
  conn = settings.conn;
  address = settings.address;
  watchdog = settings.watchdog;
  app = settings.app;
  profile = settings.profile;
}
