-- The number of a frame that is sealed or tested, and what its CRCs are made of.
use Rattle.std.specs.Prelude.{◌≡◌, ℕ, List}
use Rattle.fsoe_crc.specs.Remainder.{rem}
use Rattle.seq_chain.specs.declared.link.Numbered.{Numbered}
use Rattle.seq_chain.specs.Cover.{common, crc_0}

-- under this number, with the CRC_0 that its sender took last, a connection id, a command byte and a load
pub record IsNumbered (frame : Numbered) (last conn cmd : ℕ) (load : List ℕ) : Type 0 where
  pub common_is : frame.common ≡ rem (common last conn frame.number cmd)
  pub first_is : frame.first ≡ crc_0 last conn frame.number cmd load
