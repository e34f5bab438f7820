-- The tests of the contents of the frames that a slave takes in a handshake. `before` is the number of bytes that were
-- joined before the frame, and `u` all joined bytes, the frame's among them. The codes are those of the public
-- standard; the tests and their order are this profile's own.
use Rattle.std.specs.Prelude.{ℕ, ◌+◌, ◌==◌, nat_le, nat_lt, Bool, true, ◌&&◌, not, List, [], length, take, drop, Option, Some, None, if◌then◌else◌}
use Rattle.std.specs.Option.{option_or}
use Rattle.fsoe_base.specs.declared.command.Code.{Code}
use Rattle.fsoe_base.specs.Bytes.{all_zero}
use Rattle.fsoe_base.specs.Codes.{wrong_connection, wrong_address, wrong_data, wrong_communication_length, wrong_communication, wrong_application_length, wrong_application}
use Rattle.param_load.specs.declared.app_rule.AppRule.{AppRule}
use Rattle.param_load.specs.declared.contents.Expected.{Expected}
use Rattle.param_load.specs.declared.contents.Expected.TheVariants as expected
use Rattle.param_load.specs.declared.profile.Profile.{Profile}
use Rattle.param_load.specs.declared.profile.Profile.TheVariants as profile
use Rattle.param_load.specs.AppRule.{allows}
use Rattle.param_load.specs.Payload.{number_at}
use Rattle.param_load.specs.Profile.{id_len}

-- the number of bytes of an expected payload
abbrev pub expected_len : Expected → ℕ
expected_len (expected.Session profile) = id_len profile
expected_len (expected.Connection conn address) = 4
expected_len (expected.Parameter most count profile) = id_len profile + 4 + count

-- the application parameters of a payload
abbrev pub app_part : Expected → List ℕ → List ℕ
app_part (expected.Session profile) u = []
app_part (expected.Connection conn address) u = []
app_part (expected.Parameter most count profile) u = take count (drop (id_len profile + 4) u)

-- a field is tested with the frame that brings its last byte, which stands at this place
abbrev pub fails : ℕ → List ℕ → ℕ → Bool → Bool
fails before u last holds = nat_le before last && nat_lt last (length u) && not holds

abbrev pub word_is : Profile → List ℕ → Bool
word_is profile.One u = true
word_is (profile.Two word) u = number_at 4 u == word

-- the connection id and the slave address
abbrev pub connection_fault : ℕ → ℕ → ℕ → List ℕ → Option Code
connection_fault conn address before u =
    if fails before u 1 (number_at 0 u == conn) then Some wrong_connection
    else if fails before u 3 (number_at 2 u == address) then Some wrong_address
    else None

-- the length of the communication parameters, the watchdog, the profile word, and the number of application parameters
abbrev pub communication_fault : ℕ → ℕ → Profile → ℕ → List ℕ → Option Code
communication_fault most count profile before u =
    if fails before u 1 (number_at 0 u == id_len profile) then Some wrong_communication_length
    else if fails before u 3 (nat_lt 0 (number_at 2 u) && nat_le (number_at 2 u) most) then Some wrong_communication
    else if fails before u (id_len profile + 1) (word_is profile u) then Some wrong_communication
    else if fails before u (id_len profile + 3) (number_at (id_len profile + 2) u == count) then Some wrong_application_length
    else None

-- the application parameters, when all have come
abbrev pub app_fault : AppRule → ℕ → ℕ → List ℕ → List ℕ → Option Code
app_fault rule last before u app = if fails before u last (allows rule app) then Some wrong_application else None

-- the first field that fails its test: application parameters follow the rule
abbrev pub field_fault : Expected → AppRule → ℕ → List ℕ → Option Code
field_fault (expected.Session profile) rule before u = None
field_fault (expected.Connection conn address) rule before u = connection_fault conn address before u
field_fault (expected.Parameter most count profile) rule before u =
    option_or (communication_fault most count profile before u)
    (app_fault rule (id_len profile + 3 + count) before u (app_part (expected.Parameter most count profile) u))

-- the padding: the joined bytes past the payload's end, and the data of the frame past its piece
abbrev pub padding_fault : Expected → List ℕ → List ℕ → Option Code
padding_fault e u rest = if all_zero (drop (expected_len e) u) && all_zero rest then None else Some wrong_data

-- the first test of the contents that fails: of the fields, then of the padding
abbrev pub contents_fault : Expected → AppRule → ℕ → List ℕ → List ℕ → Option Code
contents_fault e rule before u rest = option_or (field_fault e rule before u) (padding_fault e u rest)
