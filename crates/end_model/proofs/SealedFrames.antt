-- What an end sends in a session is sealed, with as many safe data bytes as it sends.
use Rattle.end_model.proofs.Common.{Command, Deed, IsProper, IsRun, MasterSettings, Move, OfMaster, OfSlave, Setup, SlaveSettings, after_phase, after_pieces, conn_id, count_in, download_frame, is_guarded_command, is_reset, length-append, length-replicate, length-take, master_answer, offer, offer_after, own, padded, pay, phase_of, piece_len, seal, sealed_next, sends, session_id, since, slave_answer, with_data, with_piece}
use Rattle.std.proofs.Common.{◌≡◌, ℕ, ◌-◌, ◌*◌, ◌≤◌, List, [], ◌∷◌, length, min, take, drop, Bool, true, false, if◌then◌else◌, refl, arith, rules}
use Rattle.fsoe_base.specs.declared.command.Command.TheVariants as command

-- a frame that is sealed over the deeds so far
pub record IsSealed (s : Setup) (e : List Deed) (f : List ℕ) : Type 0 where
  pub conn : ℕ
  pub command : Command
  pub load : List ℕ
  pub len : length load ≡ sends s
  pub is : f ≡ seal s (since e) conn command load

seals : (s : Setup) (e : List Deed) (c : Command) (load : List ℕ) → length load ≡ sends s → IsSealed s e (sealed_next s e c load)
seals s e c load h = record { conn = if is_guarded_command c then conn_id s e else 0; command = c; load = load; len = h; is = refl }

sealed-if : (s : Setup) (e : List Deed) (b : Bool) (f g : List ℕ) → IsSealed s e f → IsSealed s e g → IsSealed s e (if b then f else g)
sealed-if s e true f g h k = h
sealed-if s e false f g h k = k

pub padded_len : (bytes : List ℕ) (n : ℕ) → length bytes ≤ n → length (padded bytes n) ≡ n
padded_len bytes n h = simp (length-append, length-replicate) (omega arith)

min_left : (m n : ℕ) → min m n ≤ m
min_left m n = omega arith

pub taken_len : (n : ℕ) (xs : List ℕ) → length (take n xs) ≤ n
taken_len n xs = simp length-take (min_left n (length xs))

piece_sealed : (s : Setup) (e : List Deed) (c : Command) (xs : List ℕ) → IsSealed s e (with_piece s e c (take (piece_len s) xs))
piece_sealed s e c xs = search (rules, taken_len, padded_len)

data_sealed : (s : Setup) (e : List Deed) → length (offer s e) ≡ sends s → IsSealed s e (with_data s e)
data_sealed s e h = search (rules, sealed-if, seals, length-replicate)

download_sealed : (ms : MasterSettings) (e : List Deed) (c : Command) (k : ℕ) → IsSealed (OfMaster ms) e (download_frame ms e c k)
download_sealed ms e c k = piece_sealed (OfMaster ms) e c (drop ((k - 1) * piece_len (OfMaster ms)) (pay ms (session_id (OfMaster ms) e) (phase_of c)))

first_sealed : (ms : MasterSettings) (e : List Deed) (c : Command) → length (offer (OfMaster ms) e) ≡ sends (OfMaster ms) → IsSealed (OfMaster ms) e (after_phase ms e c)
first_sealed ms e command.Reset h = download_sealed ms e command.Session 1
first_sealed ms e command.Session h = download_sealed ms e command.Connection 1
first_sealed ms e command.Connection h = download_sealed ms e command.Parameter 1
first_sealed ms e _ h = data_sealed (OfMaster ms) e h

next_sealed : (ms : MasterSettings) (e : List Deed) (c : Command) (k : ℕ) → length (offer (OfMaster ms) e) ≡ sends (OfMaster ms) → IsSealed (OfMaster ms) e (after_pieces ms e c k)
next_sealed ms e c k h = search (rules, sealed-if, download_sealed, first_sealed)

pub master_sealed : (ms : MasterSettings) (e : List Deed) (c : Command) → length (offer (OfMaster ms) e) ≡ sends (OfMaster ms) → IsSealed (OfMaster ms) e (master_answer ms e c)
master_sealed ms e command.Reset h = first_sealed ms e command.Reset h
master_sealed ms e command.FailSafeData h = data_sealed (OfMaster ms) e h
master_sealed ms e command.ProcessData h = data_sealed (OfMaster ms) e h
master_sealed ms e c h = next_sealed ms e c (count_in (phase_of c) (own (since e))) h

pub slave_sealed : (ss : SlaveSettings) (e : List Deed) (c : Command) (load : List ℕ) → is_reset c ≡ false → length (offer (OfSlave ss) e) ≡ sends (OfSlave ss) → IsSealed (OfSlave ss) e (slave_answer ss e c load)
slave_sealed ss e command.Reset load other h = cc
slave_sealed ss e command.Session load other h = piece_sealed (OfSlave ss) e command.Session _
slave_sealed ss e command.FailSafeData load other h = data_sealed (OfSlave ss) e h
slave_sealed ss e command.ProcessData load other h = data_sealed (OfSlave ss) e h
slave_sealed ss e c load other h = piece_sealed (OfSlave ss) e c load

-- an end offers as many safe data bytes as it sends
offer_stays : (s : Setup) (m : Move) (before : List ℕ) → IsProper s m → length before ≡ sends s → length (offer_after m before) ≡ sends s
offer_stays s m before h k = grind arith

pub offer_len : (s : Setup) (e : List Deed) → IsRun s e → length (offer s e) ≡ sends s
offer_len s [] r = length-replicate (sends s) 0
offer_len s (x ∷ e) r = offer_stays s x.what (offer s e) r.0.proper (offer_len s e r.1)
