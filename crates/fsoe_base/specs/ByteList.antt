-- What a list of bytes ends as whose bytes are lent for writing.
use Rattle.std.specs.Prelude.{ℕ, List, length}
use Rattle.std.specs.List.{refill}
use Rattle.std.specs.Borrow.{Lends, RattleType, MutBor, Fml, Array, u8}
use Rattle.fsoe_base.specs.contracts.byte_list.ByteList.{the_row}

-- once the bytes are no longer lent, they are those that were written last, as many as before
abbrev pub lends_bytes : RattleType → MutBor (List ℕ) → MutBor (List ℕ) → Fml
lends_bytes MOST list bytes = Lends (the_row MOST) (Array u8 0) list bytes (λ written. refill (length list.now) list.now written)
