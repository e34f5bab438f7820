-- When a frame of a master is due.
use Rattle.std.specs.Prelude.{is_some, ◌||◌, Bool}
use Rattle.fsoe_base.specs.declared.did.Did.{Did}

-- whether `accept` told that a frame is due then: something was taken, or a session ended
abbrev pub tells_due : Did → Bool
tells_due did = is_some did.took || is_some did.reset
