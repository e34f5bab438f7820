-- Which blocks are false whenever some of their inputs are.
use Rattle.std.specs.Prelude.{Bool, true, false, ◌||◌, List, get_or}
use Rattle.std.specs.List.{list_all, list_any}
use Rattle.fb_lib.specs.declared.kind.BlockKind.{BlockKind}
use Rattle.fb_lib.specs.declared.kind.BlockKind.TheVariants as kind

-- whether a block of this kind is false whenever its guarded inputs are; the list says of each input whether it is
-- guarded
abbrev pub is_guarded : BlockKind → List Bool → Bool
is_guarded kind.Const0 gs = true
is_guarded kind.Const1 gs = false
is_guarded kind.And gs = list_any (λ g. g) gs
is_guarded kind.Or gs = list_all (λ g. g) gs
is_guarded kind.Latch gs = get_or gs 1 false
is_guarded kind.Estop gs = get_or gs 0 false
is_guarded kind.TwoHand gs = get_or gs 0 false || get_or gs 1 false
is_guarded kind.OnDelay gs = get_or gs 0 false
is_guarded kind.OffDelay gs = false
is_guarded kind.Feedback gs = get_or gs 0 false
