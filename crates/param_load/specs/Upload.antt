-- How an upload goes on by the data of a frame. It is this profile's own.
use Rattle.std.specs.Prelude.{ℕ, ◌+◌, ◌-◌, ◌*◌, nat_le, Bool, List, [], ◌++◌, length, take, drop, Option, Some, None, Result, Ok, Err, if◌then◌else◌, true, false, IsTrue, ◌≤◌, ◌<◌}
use Rattle.fsoe_base.specs.declared.command.Code.{Code}
use Rattle.fsoe_base.specs.Lengths.{most_data}
use Rattle.param_load.specs.declared.app_rule.AppRule.{AppRule}
use Rattle.param_load.specs.declared.contents.Expected.{Expected}
use Rattle.param_load.specs.declared.contents.Expected.TheVariants as expected
use Rattle.param_load.specs.declared.profile.Profile.{Profile}
use Rattle.param_load.specs.declared.profile.Profile.TheVariants as profile
use Rattle.param_load.specs.declared.upload.Progress.{Progress}
use Rattle.param_load.specs.declared.upload.Progress.TheVariants as progress
use Rattle.param_load.specs.AppRule.{rule_len}
use Rattle.param_load.specs.Contents.{expected_len}
use Rattle.param_load.specs.Payload.{number_at}
use Rattle.param_load.specs.UploadView.{UploadView, upload_fault}

-- uploads of which nothing has come
abbrev pub session_upload : ℕ → Profile → UploadView
session_upload piece profile = record { expected = expected.Session profile; piece = piece; joined = [] }

abbrev pub connection_upload : ℕ → ℕ → ℕ → UploadView
connection_upload piece conn address = record { expected = expected.Connection conn address; piece = piece; joined = [] }

abbrev pub parameter_upload : ℕ → ℕ → AppRule → Profile → UploadView
parameter_upload piece most rule profile = record { expected = expected.Parameter most (rule_len rule) profile; piece = piece; joined = [] }

-- an upload is whole where all bytes of its payload have come
abbrev pub is_whole : UploadView → Bool
is_whole v = nat_le (expected_len v.expected) (length v.joined)

-- the session id of joined bytes, low byte first
abbrev pub id_in : Profile → List ℕ → ℕ
id_in profile.One u = number_at 0 u
id_in (profile.Two word) u = number_at 0 u + 65536 * number_at 2 u

abbrev pub id_of : Expected → List ℕ → ℕ
id_of (expected.Session profile) u = id_in profile u
id_of _ u = 0

-- an upload with the piece that a frame begins with
abbrev pub advanced : UploadView → List ℕ → UploadView
advanced v bytes = record v { joined = v.joined ++ take v.piece bytes }

-- the code of the first test that fails, else whether the upload is whole with the piece
abbrev pub outcome_by : Option Code → UploadView → Result Progress Code
outcome_by (Some code) v = Err code
outcome_by None v = Ok (if is_whole v then progress.Whole else progress.More)

abbrev pub outcome : UploadView → AppRule → List ℕ → Result Progress Code
outcome v rule bytes = outcome_by (upload_fault v rule bytes) (advanced v bytes)

-- the piece that came last
abbrev pub last_piece : UploadView → List ℕ
last_piece v = drop (length v.joined - v.piece) v.joined

-- expected application parameters are at most as many as settings may ask for
abbrev pub is_expectable : Expected → Bool
is_expectable (expected.Session profile) = true
is_expectable (expected.Connection conn address) = true
is_expectable (expected.Parameter most count profile) = nat_le count 512

-- what is expected
abbrev pub is_session : Expected → Bool
is_session (expected.Session profile) = true
is_session _ = false

abbrev pub is_parameter : Expected → Bool
is_parameter (expected.Parameter most count profile) = true
is_parameter _ = false

-- the watchdog of expected parameters isn't 0
abbrev pub HasWatchdog : Expected → List ℕ → Type 0
HasWatchdog (expected.Session profile) u = Unit {0}
HasWatchdog (expected.Connection conn address) u = Unit {0}
HasWatchdog (expected.Parameter most count profile) u = 4 ≤ length u → 0 < number_at 2 u

-- what holds of every upload
pub record IsUpload (v : UploadView) : Type 0 where
  pub piece_most : v.piece ≤ most_data
  pub expectable : IsTrue (is_expectable v.expected)
  pub has_watchdog : HasWatchdog v.expected v.joined
