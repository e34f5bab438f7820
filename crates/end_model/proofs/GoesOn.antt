-- How an end goes on, whichever it is: by a frame that it takes and the frame that it then sends, and by a tick.
use Rattle.end_model.proofs.Common.{Command, Deed, OfMaster, OfSlave, Setup, begun, command_byte, first_of, frame_of, is_empty, is_reset, option_or, own_link, padded, piece_len, receives, sends, taken_link, takes_frame}
use Rattle.std.proofs.Common.{◌≡◌, ℕ, suc, ◌+◌, ◌<◌, ◌≤◌, ◌==◌, nat_le, List, ◌∷◌, length, take, false, Option, Some, unwrap_or, refl, ap, arith}
use Rattle.fsoe_base.specs.declared.command.Command.TheVariants as command
use Rattle.seq_chain.specs.Chain.{after_taken}
use Rattle.seq_chain.specs.Sealing as sealing
use Rattle.seq_chain.specs.Session.{chain_sent, frame_sent}
use Rattle.seq_chain.specs.declared.chain.Chain.{Chain}
use Rattle.param_load.specs.declared.entry.Move.TheVariants as move
use Rattle.end_model.proofs.Links.{own_crc}
use Rattle.end_model.proofs.ReadBack.{read_back}
use Rattle.end_model.proofs.SealedFrames.{padded_len, taken_len}

-- the chain of these deeds
abbrev pub chain_at : Setup → List Deed → Chain
chain_at s e = record { own = own_link s e; taken = taken_link s e }

-- the deed that takes a frame and sends this
abbrev pub taking : Setup → List ℕ → Command → List ℕ → Deed
taking s bytes c sent = record { what = move.Deliver bytes; did = takes_frame c (frame_of (receives s) bytes).load; sent = sent }

chain_next : (s : Setup) (e : List Deed) (bytes sent : List ℕ) (c : Command) (conn : ℕ) (c2 : Command) (answer : List ℕ) → is_reset c ≡ false → is_empty sent ≡ false
    → frame_of (sends s) sent ≡ sealing.sealed (first_of (frame_of (receives s) bytes).crcs) (own_link s e) conn (command_byte c2) answer
    → chain_at s (taking s bytes c sent ∷ e) ≡ chain_sent (after_taken (chain_at s e) (frame_of (receives s) bytes)) conn c2 answer
chain_next s e bytes sent c conn c2 answer r some back = simp (r, some, back, own_crc)

-- the chain after that deed, where e are the deeds of the session
pub chain_after : (s : Setup) (e : List Deed) (bytes : List ℕ) (c : Command) (conn : ℕ) (c2 : Command) (load : List ℕ) → is_reset c ≡ false → length load ≡ sends s
    → chain_at s (taking s bytes c (frame_sent (after_taken (chain_at s e) (frame_of (receives s) bytes)) conn c2 load) ∷ e) ≡ chain_sent (after_taken (chain_at s e) (frame_of (receives s) bytes)) conn c2 load
chain_after s e bytes c conn c2 load r h =
    chain_next s e bytes (frame_sent (after_taken (chain_at s e) (frame_of (receives s) bytes)) conn c2 load) c conn c2 load r refl (read_back s (begun (move.Deliver bytes) (takes_frame command.Session (frame_of (receives s) bytes).load) ∷ e) conn c2 load h)

-- a piece is at most as long as a frame of the end, and with zeros it fills one
pub piece_own : (s : Setup) → piece_len s ≤ sends s
piece_own (OfMaster ms) = omega arith
piece_own (OfSlave ss) = omega arith

pub filled : (bytes : List ℕ) (c l : ℕ) → c ≤ l → length (padded (take c bytes) l) ≡ l
filled bytes c l h = padded_len (take c bytes) l (let p : length (take c bytes) ≤ c = taken_len c bytes in omega arith)

-- an id that is there, which is also the first of two
pub there : (o : Option ℕ) (k d : ℕ) → o ≡ Some k → unwrap_or o d ≡ k
there o k d h = rw h refl

pub is_there : (o : Option ℕ) (k : ℕ) → o ≡ Some k → o ≡ Some (unwrap_or o 0)
is_there o k h = rw h refl

pub keeps : (o next : Option ℕ) (k : ℕ) → o ≡ Some k → option_or o next ≡ Some k
keeps o next k h = ap (λ (o : Option ℕ). option_or o next) h

-- a tick
pub one_more : (a t : ℕ) → a ≡ t → suc t ≡ a + 1
one_more a t h = omega arith

pub meets : (a t l : ℕ) → a ≡ t → t < l → nat_le l (suc t) ≡ (a + 1 == l)
meets a t l h k = grind arith

pub later : (t l : ℕ) → nat_le l (suc t) ≡ false → suc t < l
later t l h = grind arith

-- a function of three values that are equal
pub ap₃ : {A B C D : Type 0} (f : A → B → C → D) {a a' : A} {b b' : B} {c c' : C} → a ≡ a' → b ≡ b' → c ≡ c' → f a b c ≡ f a' b' c'
ap₃ f p q r = λ i. f (p i) (q i) (r i)
