-- No row of the table applies to a frame exactly where its end has its turn, its length is right, its command is one of
-- the phase, its connection id holds, no data byte is wrong, and its CRCs are those that are due.
use Rattle.trace_diag.proofs.Common.{Before, End, Field, Frame, Lengths, Noted, command_of, conn_holds, crcs_due, eq-eqb, field_by, frame_field, frame_len, frame_of, is_of, length_of, trace_piece_len, same_end, wrong_byte}
use Rattle.std.proofs.Common.{◌≡◌, ℕ, length, Bool, true, not, Option, Some, None, if◌then◌else◌, arith, rules}
use Rattle.trace_diag.proofs.NoneApplies.{none_differs, same_none}

-- a frame is as it must be: the rows after Length
pub record IsRight (c : ℕ) (k : Before) (which : End) (f : Frame) : Type 0 where
  pub command : is_of k.due (command_of f.cmd) ≡ true
  pub conn : conn_holds k.due k.conn f.conn ≡ true
  pub bytes : wrong_byte c k which k.due f ≡ None
  pub crcs : f.crcs ≡ crcs_due k.due k.chain which f

-- and the first two
pub record IsInTurn (lengths : Lengths) (k : Before) (x : Noted) : Type 0 where
  pub turn : same_end x.from k.turn ≡ true
  pub long : length x.frame ≡ frame_len (length_of lengths x.from)
  pub right : IsRight (trace_piece_len lengths) k x.from (frame_of (length_of lengths x.from) x.frame)

no-some : (t : Bool) (which : Field) (rest : Option Field) → (if not t then Some which else rest) ≡ None → (t ≡ true) × (rest ≡ None)
no-some t which rest h = grind arith

-- as many CRCs are due as the frame has
pub none_right : (c : ℕ) (k : Before) (which : End) (f : Frame) → length f.crcs ≡ length (crcs_due k.due k.chain which f) → frame_field c k which f ≡ None → IsRight c k which f
none_right c k which f h l = grind (arith, no-some, none_differs)

pub none_in_turn : (lengths : Lengths) (k : Before) (x : Noted)
    → ((f : Frame) → f ≡ frame_of (length_of lengths x.from) x.frame → length x.frame ≡ frame_len (length_of lengths x.from) → length f.crcs ≡ length (crcs_due k.due k.chain x.from f))
    → field_by lengths k x ≡ None → IsInTurn lengths k x
none_in_turn lengths k x h l = search (rules, no-some, none_right)

pub in_turn_none : (lengths : Lengths) (k : Before) (x : Noted) → IsInTurn lengths k x → field_by lengths k x ≡ None
in_turn_none lengths k x h = search (rules, eq-eqb, same_none)
