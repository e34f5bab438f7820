-- The limits of inputs. They are this profile's own.
use Rattle.std.specs.Prelude.{ℕ}

-- the most events
abbrev pub max_events : ℕ
max_events = 200000

-- how far back an event may name a frame
abbrev pub max_back : ℕ
max_back = 64

-- the most bytes of a line, without its newline
abbrev pub max_line : ℕ
max_line = 640

-- the most bytes of a hexadecimal field of a header
abbrev pub max_hex : ℕ
max_hex = 256

-- the most application bytes of a master, and the most bytes or ranges of a slave's rule
abbrev pub max_app : ℕ
max_app = 512

-- the most pairs
abbrev pub most_pairs : ℕ
most_pairs = 16
