-- What an end sends in state Data.
use Rattle.std.specs.Prelude.{ℕ, Bool, false, List, length, replicate, if◌then◌else◌}
use Rattle.fsoe_base.specs.declared.command.Command.{Command}
use Rattle.fsoe_base.specs.declared.command.Command.TheVariants as command

-- the safe data that an end offers, and whether it is held
pub record OfferView : Type 0 where
  pub load : List ℕ
  pub held : Bool

-- an end that offers l zeros, and isn't held
abbrev pub first_offer : ℕ → OfferView
first_offer l = record { load = replicate l 0; held = false }

-- an end sends its offer, or zeros while it is held
abbrev pub data_command : OfferView → Command
data_command v = if v.held then command.FailSafeData else command.ProcessData

abbrev pub data_load : OfferView → List ℕ
data_load v = if v.held then replicate (length v.load) 0 else v.load
