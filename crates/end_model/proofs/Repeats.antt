-- A frame that is kept as the one taken last is not taken again.
use Rattle.end_model.proofs.Common.{Deed, Setup, dropped, eq-eqb, frame_len, kept, receives, since, step}
use Rattle.std.proofs.Common.{◌≡◌, ℕ, List, length, Some, None, rules}
use Rattle.fsoe_base.specs.declared.did.Dropped.TheVariants as why
use Rattle.param_load.specs.declared.entry.Move.TheVariants as move

pub never_again : (s : Setup) (e : List Deed) (bytes : List ℕ) → kept (since e) ≡ Some bytes → (step s e (move.Deliver bytes)).did.took ≡ None
never_again s e bytes h = search rules

pub repeat_dropped : (s : Setup) (e : List Deed) (bytes : List ℕ) → length bytes ≡ frame_len (receives s) → kept (since e) ≡ Some bytes → (step s e (move.Deliver bytes)).did ≡ dropped why.Repeat
repeat_dropped s e bytes h k = search (rules, eq-eqb)
