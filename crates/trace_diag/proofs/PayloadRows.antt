-- Where no row of the table applies to the frames of a trace, each byte of its payloads may stand where it stands.
use Rattle.trace_diag.proofs.Common.{Before, Command, End, Frame, Lengths, Noted, State, before, cases_lt, command_in, command_of, first_failing, frame_at, frame_len, frame_of, get_or-append-add, get_or-take, get_or_append_left, is_length, is_of, length-append, length-take, length_of, parameter_holds, parameters_from, payload_from, payload_holds, phase_due, phase_of, phase_of_frame, piece_holds, trace_piece_len, piece_place, same_end, turn, wrong_byte, wrong_in_piece}
use Rattle.std.proofs.Common.{◌≡◌, ℕ, ◌+◌, ◌-◌, ◌<◌, ◌≤◌, List, ◌++◌, length, take, Bool, true, Option, Some, None, IsTrue, sym, ap, ap₂, ◌∙◌, arith, inl, inr, rules}
use Rattle.fsoe_base.specs.declared.command.End.TheVariants as end_name
use Rattle.trace_diag.proofs.NoField.{IsInTurn, IsRight}
use Rattle.trace_diag.proofs.NoneApplies.{at, none_fails}
use Rattle.trace_diag.proofs.SentRows.{CarriesOwn}

-- what the rows of the parameters look at: the bytes up to theirs, of the first six
pub parameter_same : (u v : List ℕ) (i b : ℕ) → ((k : ℕ) → k ≤ i → k < 6 → at u k ≡ at v k) → parameter_holds u i b ≡ parameter_holds v i b
parameter_same u v i b h = search rules

-- a byte of two lists
pub at_front : (u part : List ℕ) (i : ℕ) → i < length u → at (u ++ part) i ≡ at u i
at_front u part i h = get_or_append_left u part 0 i h

pub at_part : (u part : List ℕ) (i : ℕ) → length u ≤ i → at (u ++ part) i ≡ at part (i - length u)
at_part u part i h = let there : length u + (i - length u) ≡ i = omega (arith, h) in ap (at (u ++ part)) (sym there) ∙ get_or-append-add u part (i - length u) 0

-- bytes that hold where a frame brings c more of them, each of which holds
abbrev pub AllAt : (ℕ → ℕ → Bool) → List ℕ → Type 0
AllAt holds u = (i : ℕ) → i < length u → holds i (at u i) ≡ true

pub more_hold : (holds : ℕ → ℕ → Bool) (u load : List ℕ) (c : ℕ) → AllAt holds u → ((j : ℕ) → j < c → j < length load → holds (length u + j) (at load j) ≡ true) → AllAt holds (u ++ take c load)
more_hold holds u load c before part i h =
    elim (cases_lt i (length u)) [
      | inl within ↦ ap (holds i) (at_front u (take c load) i within) ∙ before i within
      | inr past ↦
          let j : ℕ = i - length u in
          let there : length u + j ≡ i = omega (arith, past) in
          let within : j < length (take c load) = omega (arith, h, past, length-append u (take c load)) in
          let in_piece : j < c = omega (arith, within, length-take c load) in
          ap (holds i) (at_part u (take c load) i past ∙ get_or-take c load j 0 in_piece)
          ∙ (ap (λ (n : ℕ). holds n (at load j)) (sym there) ∙ part j in_piece (omega (arith, within, length-take c load)))
    ]

-- what the rows say of a frame from this end
pub record IsFrom (lengths : Lengths) (t : List Noted) (which : End) (x : Noted) : Type 0 where
  pub turn_is : turn t ≡ which
  pub long : length x.frame ≡ frame_len (length_of lengths which)
  pub right : IsRight (trace_piece_len lengths) (before lengths t) which (frame_of (length_of lengths which) x.frame)

pub same_end_is : (a b : End) → same_end a b ≡ true → b ≡ a
same_end_is a b h = grind arith

pub is_from : (lengths : Lengths) (t : List Noted) (which : End) (x : Noted) → same_end which x.from ≡ true → IsInTurn lengths (before lengths t) x → IsFrom lengths t which x
is_from lengths t which x h k = search rules

-- the command of a frame by its first byte
pub command_read : (l : ℕ) (bytes : List ℕ) → IsTrue (is_length l) → length bytes ≡ frame_len l → command_in bytes ≡ command_of (frame_of l bytes).cmd
command_read l bytes h k = search (rules, frame_at)

-- a command of the phase that is due
pub record IsOfPhase (phase : State) (o : Option Command) : Type 0 where
  pub command : Command
  pub is : o ≡ Some command
  pub phase_is : phase ≡ phase_of command

pub of_phase_due : (phase : State) (o : Option Command) → is_of phase o ≡ true → IsOfPhase phase o
of_phase_due phase o h = grind arith

-- the phase of the frame is the one that is due
pub due_is : (lengths : Lengths) (t : List Noted) (which : End) (x : Noted) → IsFrom lengths t which x → phase_due lengths t ≡ phase_of_frame x.frame
due_is lengths t which x h = search (rules, command_read)

own-piece : (c : ℕ) (k : Before) (which : End) (phase : State) (f : Frame) → CarriesOwn which phase → wrong_byte c k which phase f ≡ wrong_in_piece c k phase f
own-piece c k which phase f h = grind arith

-- the bytes of a piece hold where they stand
in-piece : (c from : ℕ) (holds : ℕ → ℕ → Bool) (load : List ℕ) → first_failing (piece_holds c holds from) 0 load ≡ None → (j : ℕ) → j < c → j < length load → holds (from + j) (at load j) ≡ true
in-piece c from holds load none j within there = search (rules, none_fails)

pub own_bytes : (lengths : Lengths) (t : List Noted) (which : End) (phase : State) (x : Noted) → CarriesOwn which phase → IsFrom lengths t which x → phase_of_frame x.frame ≡ phase → (j : ℕ) → j < trace_piece_len lengths → j < length (frame_of (length_of lengths which) x.frame).load
    → payload_holds phase (frame_of (length_of lengths which) x.frame).conn (take 6 (parameters_from lengths t) ++ take (trace_piece_len lengths) (frame_of (length_of lengths which) x.frame).load) (piece_place lengths t phase which + j) (at (frame_of (length_of lengths which) x.frame).load j) ≡ true
own_bytes lengths t which phase x own h of-phase =
    let f : Frame = frame_of (length_of lengths which) x.frame in
    let holds : ℕ → ℕ → Bool = payload_holds phase f.conn (take 6 (parameters_from lengths t) ++ take (trace_piece_len lengths) f.load) in
    let due : phase_due lengths t ≡ phase = due_is lengths t which x h ∙ of-phase in
    in-piece (trace_piece_len lengths) (piece_place lengths t phase which) holds f.load
    (ap₂ (λ (p : State) (e : End). first_failing (piece_holds (trace_piece_len lengths) holds (piece_place lengths t p e)) 0 f.load) (sym due) (sym h.turn_is)
    ∙ (sym (own-piece (trace_piece_len lengths) (before lengths t) which phase f own) ∙ (ap (λ (p : State). wrong_byte (trace_piece_len lengths) (before lengths t) which p f) (sym due) ∙ h.right.bytes)))

-- the next piece of the master stands where those end that came
pub master_place : (lengths : Lengths) (t : List Noted) (phase : State) → CarriesOwn end_name.Master phase → piece_place lengths t phase end_name.Master ≡ length (payload_from lengths end_name.Master phase t)
master_place lengths t phase own = grind arith
