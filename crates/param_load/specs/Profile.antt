-- The two profiles of parameters. They are this project's own.
use Rattle.std.specs.Prelude.{ℕ, nat_le, Bool, true}
use Rattle.param_load.specs.declared.profile.Profile.{Profile}
use Rattle.param_load.specs.declared.profile.Profile.TheVariants as profile

-- the bytes of a session id, and of the communication parameters
abbrev pub id_len : Profile → ℕ
id_len profile.One = 2
id_len (profile.Two word) = 4

-- a session id of profile One has 16 bits
abbrev pub allows_id : Profile → ℕ → Bool
allows_id profile.One id = nat_le id 65535
allows_id (profile.Two word) id = true
