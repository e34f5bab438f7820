-- What contracts see of a download.
use Rattle.std.specs.Prelude.{ℕ, Bool, List}

-- the payload, the bytes of a piece, whether the answers repeat the pieces, and the place where the piece in turn
-- begins
pub record DownloadView : Type 0 where
  pub payload : List ℕ
  pub piece : ℕ
  pub echo : Bool
  pub from : ℕ
