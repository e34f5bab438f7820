-- The codes that an end sends. They are those of the public standard.
use Rattle.std.specs.Prelude.{◌≡◌, ◌≤◌, ℕ, List}
use Rattle.seq_chain.specs.Reset.{reset_frame}
use Rattle.end_model.specs.Setup.{Setup, sends}

-- a frame is the end's Reset frame with a code from 00h to 0Bh
pub record IsOwnReset (s : Setup) (f : List ℕ) : Type 0 where
  pub said : ℕ
  pub most : said ≤ 0x0B
  pub is : f ≡ reset_frame said (sends s)
