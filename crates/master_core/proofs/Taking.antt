-- A frame of the slave's that comes and is taken, and the frame that follows it.
use Rattle.master_core.proofs.Common.{AreBytes, Chain, Command, Deed, Exchange, MasterSettings, MasterView, OfMaster, Outcome, after_taken, bytes_of, chain_sent, deed_of, frame_len, frame_sent, notes_of, piece_len, takes_frame, taking, view_of}
use Rattle.std.proofs.Common.{Bool, List, ap, arith, if◌then◌else◌, length, nat_le, nat_lt, not, refl, rules, subst, suc, suc-mul, sym, zero, ℕ, ◌*◌, ◌+◌, ◌-◌, ◌/◌, ◌<◌, ◌∙◌, ◌∷◌, ◌≡◌}
use Rattle.fsoe_frame.proofs.Places.{Whole, whole}
use Rattle.param_load.specs.declared.entry.Move.TheVariants as move
use Rattle.master_core.proofs.SameVerdict.{came}
use Rattle.std.proofs.Math.Nat.{zero-mul}
use Rattle.master_core.proofs.Sound.{Sound}
use Rattle.master_core.proofs.Agrees.{Agrees}

-- a frame of the slave's length
pub record Arrived (ms : MasterSettings) (bytes : List ℕ) : Type 0 where
  pub load_len : length (came ms bytes).load ≡ ms.lengths.slave
  pub back : AreBytes bytes → bytes_of (came ms bytes) ≡ bytes

pub arrived : (ms : MasterSettings) (bytes : List ℕ) → length bytes ≡ frame_len ms.lengths.slave → Arrived ms bytes
arrived ms bytes len =
    let w : Whole ms.lengths.slave bytes (came ms bytes) = whole ms.lengths.slave bytes ms.lengths.valid_slave len in
    record { load_len = w.load; back = w.back }

-- the frame that follows a frame that was taken, and the chain then
abbrev pub next_frame : MasterSettings → List Deed → List ℕ → ℕ → Command → List ℕ → List ℕ
next_frame ms e bytes conn c2 load = frame_sent (after_taken (notes_of ms e).chain (came ms bytes)) conn c2 load

abbrev pub next_chain : MasterSettings → List Deed → List ℕ → ℕ → Command → List ℕ → Chain
next_chain ms e bytes conn c2 load = chain_sent (after_taken (notes_of ms e).chain (came ms bytes)) conn c2 load

-- a piece has a byte
pub some_piece : (ms : MasterSettings) → 0 < piece_len (OfMaster ms)
some_piece ms = search rules

-- the place of the next piece
pub next_place : (k c : ℕ) → 0 < k → (k - 1) * c + c ≡ (suc k - 1) * c
next_place zero c h = absurd (omega arith)
next_place (suc j) c h =
    let z : suc j - 1 ≡ j = omega arith in
    let y : suc (suc j) - 1 ≡ suc j = omega arith in
    ap (λ (i : ℕ). i * c + c) z ∙ (sym (suc-mul j c) ∙ ap (λ (i : ℕ). i * c) (sym y))

-- after k pieces there are more exactly where the payload goes on after them
pub more_pieces : (l c k : ℕ) → 0 < c → nat_lt k ((l + c - 1) / c) ≡ not (nat_le l (k * c))
more_pieces l c k h = grind arith

-- what holds after a deed that took a frame and sent the next one
pub record After (ms : MasterSettings) (e : List Deed) (bytes : List ℕ) (c : Command) (sent : List ℕ) (v : MasterView) : Type 0 where
  pub view : AreBytes bytes → view_of ms (taking (OfMaster ms) bytes c sent ∷ e) ≡ v
  pub sound : Sound ms (taking (OfMaster ms) bytes c sent ∷ e)

-- such a deed is what the machine did
pub takes-agree : (ms : MasterSettings) (e : List Deed) (bytes : List ℕ) (c : Command) (o : Outcome) → After ms e bytes c o.sent o.master → takes_frame c (came ms bytes).load ≡ o.did
    → (deed_of (OfMaster ms) e (move.Deliver bytes) (takes_frame c (came ms bytes).load)).sent ≡ o.sent → Agrees ms e (move.Deliver bytes) (takes_frame c (came ms bytes).load) o
takes-agree ms e bytes c o done d i = record {
  view = λ r. ap (λ (f : List ℕ). view_of ms (taking (OfMaster ms) bytes c f ∷ e)) i ∙ done.view r;
  did = d;
  sent = i;
  sound = subst (λ (f : List ℕ). Sound ms (taking (OfMaster ms) bytes c f ∷ e)) (sym i) done.sound;
}

-- a phase by its parts
abbrev pub exchange_at : Chain → List ℕ → ℕ → Bool → ℕ → List ℕ → Exchange
exchange_at chain payload piece echo from last = record { session = record { chain = chain; last = last }; download = record { payload = payload; piece = piece; echo = echo; from = from } }

pub same_exchange : (c c' : Chain) (u u' : List ℕ) (k : ℕ) (b : Bool) (f f' : ℕ) (l l' : List ℕ) → c ≡ c' → u ≡ u' → f ≡ f' → l ≡ l' → exchange_at c u k b f l ≡ exchange_at c' u' k b f' l'
same_exchange c c' u u' k b f f' l l' h i j g = rw (h, i, j, g) refl

-- one of two
pub chosen : (b c : Bool) (x y : List ℕ) → b ≡ c → (if b then x else y) ≡ (if c then x else y)
chosen b c x y h = rw h refl

-- how many pieces were sent
pub positive : (k : ℕ) → 0 < suc k
positive k = omega arith

pub none_before : (k c : ℕ) → k ≡ 0 → (suc k - 1) * c ≡ 0
none_before k c h = let z : suc k - 1 ≡ 0 = omega arith in ap (λ (i : ℕ). i * c) z ∙ zero-mul c

-- there are more pieces exactly where the download isn't whole after the answer
pub more_to_come : (l c k : ℕ) (w : Bool) → 0 < c → 0 < k → nat_le l ((k - 1) * c + c) ≡ w → nat_lt k ((l + c - 1) / c) ≡ not w
more_to_come l c k w h m n = search (rules, more_pieces)
