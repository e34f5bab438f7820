-- A window hears the frame of a step, and none where none was sent.
use Rattle.duo_run.proofs.Common.{Hears, Pushes, WindowView}
use Rattle.std.proofs.Common.{◌≡◌, ◌==◌, ℕ, arith, List, length, true, false}

pub hears_frame : (old : WindowView) (frame : List ℕ) (new : WindowView) → (length frame == 0) ≡ false → Pushes old frame new → Hears old frame new
hears_frame old frame new h k = grind arith

pub hears_none : (old : WindowView) (frame : List ℕ) → (length frame == 0) ≡ true → Hears old frame old
hears_none old frame h = grind arith
