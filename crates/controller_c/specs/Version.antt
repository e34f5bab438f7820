-- The version of a controller's header and archive.
use Rattle.std.specs.Prelude.{ℕ}

-- one more with each change of a call, a number, a size or a struct of the header
abbrev pub version : ℕ
version = 1
