-- One slot at a sample and at a move.
use Rattle.process_image.proofs.Common.{Answers, Core, Did, Does, IsAtRest, IsSampleStep, IsSeatStep, IsSoundSeat, IsStepOf, Move, Seat, SeatStep, bytes_at, common_steps, slot_delivery, did_in, frame_len, nothing, pointwise, same_text, seat_contents, sends, setup_of, told_by, with_bytes, with_sent}
use Rattle.end_core.specs.Standing.{Follows}
use Rattle.std.proofs.Common.{◌≡◌, ℕ, ◌+◌, ◌==◌, ◌≤◌, List, [], length, Some, None, true, false, if◌then◌else◌, nat_eq, refl, sym, ap, ◌∙◌, arith, rules}
use Rattle.param_load.specs.declared.entry.Move.TheVariants as move

pub some_frame : (l : ℕ) → (0 == frame_len l) ≡ false
some_frame l = grind arith

pub stays : (size_in size_out : ℕ) (seat : Seat) (image : List ℕ) → IsSoundSeat size_in size_out seat → image ≡ with_sent seat [] image
stays size_in size_out seat image h = search (rules, with_bytes, some_frame, sends)

-- a slot of which a call is no move
abbrev pub still : Seat → SeatStep
still seat = record { old = seat; what = None; did = nothing; sent = []; new = seat }

pub still_step : (size_in size_out : ℕ) (seat : Seat) → IsSoundSeat size_in size_out seat → IsSeatStep (still seat)
still_step size_in size_out seat s = record { makes = (refl, refl); at_in_is = refl; at_out_is = refl; len_out_is = refl; seen_len = refl; setup = refl; rest = s.rest }

-- contents that were seen aren't delivered
pub samples_none : (size_in size_out : ℕ) (input : List ℕ) (seat : Seat) (now image : List ℕ) → IsSoundSeat size_in size_out seat → now ≡ seat_contents seat input → pointwise nat_eq seat.seen now ≡ true
    → Does (IsSampleStep input) told_by seat image seat image None
samples_none size_in size_out input seat now image s e h = record {
  step = still seat;
  is = record {
    is = still_step size_in size_out seat s;
    what_is = sym (ap (slot_delivery seat.seen) (sym e) ∙ ap (λ b. if b then None else Some (move.Deliver now)) h);
    seen_is = same_text seat.seen now (sym h) ∙ e;
  };
  old_is = refl;
  new_is = refl;
  told_is = refl;
  output_is = stays size_in size_out seat image s;
}

-- what a call made of the end of a slot
pub record Moved (what : Move) (old : Seat) (end : Core) (did : Did) (sent : List ℕ) : Type 0 where
  pub follows : Follows old.core what end
  pub answers : Answers old.core what did sent
  pub setup : setup_of end ≡ setup_of old.core
  pub rest : IsAtRest end

-- the step of the slot then, which saw this last
abbrev pub step_to : Move → Seat → Core → List ℕ → Did → List ℕ → SeatStep
step_to what old end seen did sent = record { old = old; what = Some what; did = did; sent = sent; new = record old { core = end; seen = seen } }

moved : (what : Move) (old : Seat) (end : Core) (seen : List ℕ) (did : Did) (sent : List ℕ) → Moved what old end did sent → length seen ≡ length old.seen → IsSeatStep (step_to what old end seen did sent)
moved what old end seen did sent m n = record { makes = (m.follows, m.answers); at_in_is = refl; at_out_is = refl; len_out_is = refl; seen_len = n; setup = m.setup; rest = m.rest }

pub named_step : (what : Move) (old : Seat) (end : Core) (did : Did) (sent : List ℕ) → Moved what old end did sent → IsStepOf what (step_to what old end old.seen did sent)
named_step what old end did sent m = record { is = moved what old end old.seen did sent m refl; what_is = refl; seen_is = refl }

-- the contents of a slot have the length of the frames that come
contents-long : (at len : ℕ) (input : List ℕ) → at + len ≤ length input → length (bytes_at at len input) ≡ len
contents-long at len input h = grind (arith, common_steps)

-- other contents are delivered
pub delivers : (size_out : ℕ) (input : List ℕ) (old : Seat) (before after : List ℕ) (end : Core) (did : Did) (sent seen now : List ℕ) → IsSoundSeat (length input) size_out old
    → now ≡ seat_contents old input → pointwise nat_eq old.seen now ≡ false → seen ≡ now → Moved (move.Deliver now) old end did sent → after ≡ with_sent old sent before
    → Does (IsSampleStep input) told_by old before (record old { core = end; seen = seen }) after (Some did)
delivers size_out input old before after end did sent seen now s e h same m out = record {
  step = step_to (move.Deliver now) old end seen did sent;
  is = record {
    is = moved (move.Deliver now) old end seen did sent m (ap length (same ∙ e) ∙ contents-long old.at_in (length old.seen) input s.inside_in);
    what_is = sym (ap (slot_delivery old.seen) (sym e) ∙ ap (λ b. if b then None else Some (move.Deliver now)) h);
    seen_is = same ∙ e;
  };
  old_is = refl;
  new_is = refl;
  told_is = refl;
  output_is = out;
}

-- a move at which nothing is sampled
pub moves : (what : Move) (old : Seat) (before after : List ℕ) (end : Core) (did : Did) (sent : List ℕ) → Moved what old end did sent → after ≡ with_sent old sent before
    → Does (IsStepOf what) did_in old before (record old { core = end }) after did
moves what old before after end did sent m out = record { step = step_to what old end old.seen did sent; is = named_step what old end did sent m; old_is = refl; new_is = refl; told_is = refl; output_is = out }
