-- A frame that an end sends has as many bytes as its frames have.
use Rattle.process_image.proofs.Common.{Deed, Did, IsProper, IsRun, MasterSettings, Move, OfMaster, OfSlave, Setup, SlaveSettings, after_phase, common_steps, download_frame, frame_len, goes_on, held, is_empty, is_length, length-append, length-replicate, length-take, master_answer, nat_tests, offer, piece_len, sealed_next, sends, sent_on, slave_answer, step, with_data, with_piece}
use Rattle.end_model.proofs.ReadBack.{count_crcs, count_groups, valid_length}
use Rattle.std.proofs.Common.{◌≡◌, ℕ, suc, ◌+◌, ◌-◌, ◌*◌, ◌≤◌, List, [], ◌∷◌, ◌++◌, length, take, replicate, Bool, true, false, Option, IsTrue, if◌then◌else◌, refl, arith, rules}
use Rattle.fsoe_base.specs.declared.command.Command.{Command}
use Rattle.fsoe_base.specs.declared.command.Command.TheVariants as command
use Rattle.fsoe_base.specs.declared.did.Cause.{Cause}
use Rattle.fsoe_base.specs.declared.did.Took.{Took}
use Rattle.fsoe_base.specs.Bytes.{low_high}
use Rattle.fsoe_frame.specs.Layout.{groups, with_crcs}
use Rattle.seq_chain.specs.Reset.{reset_load, reset_frame}
use Rattle.param_load.specs.Payload.{padded}
use Rattle.end_model.specs.Phases.{is_guarded_command}
use Rattle.end_model.specs.Chain.{since, seal}
use Rattle.end_model.specs.Payloads.{conn_id}

-- the bytes of a frame
groups-long : (load crcs : List ℕ) → length crcs ≡ length (groups load) → length (with_crcs (groups load) crcs) ≡ length load + 2 * length (groups load)
groups-long [] crcs h = refl
groups-long (d ∷ []) (k ∷ []) h = refl
groups-long (d ∷ d' ∷ load) (k ∷ crcs) h = let e = groups-long load crcs (omega arith) in omega arith
groups-long (d ∷ _) _ h = absurd (omega arith)

frame-long : (l conn : ℕ) (load crcs : List ℕ) → IsTrue (is_length l) → length load ≡ l → length crcs ≡ length (groups load) → suc (length (with_crcs (groups load) crcs ++ low_high conn)) ≡ frame_len l
frame-long l conn load crcs h k m = grind (arith, common_steps, groups-long, count_groups)

seal-long : (s : Setup) (e : List Deed) (conn : ℕ) (c : Command) (load : List ℕ) → length load ≡ sends s → length (seal s e conn c load) ≡ frame_len (sends s)
seal-long s e conn c load h = search (rules, frame-long, count_crcs)

reset-load-long : (code l : ℕ) → length (reset_load code l) ≡ l
reset-load-long code l = search (rules, length-replicate)

reset-long : (s : Setup) (code : ℕ) → length (reset_frame code (sends s)) ≡ frame_len (sends s)
reset-long s code = search (rules, frame-long, valid_length, reset-load-long, count_crcs)

-- a piece with zeros after it
padded-long : (bytes : List ℕ) (l : ℕ) → length bytes ≤ l → length (padded bytes l) ≡ l
padded-long bytes l h =
    let e : length (padded bytes l) ≡ length bytes + length (replicate (l - length bytes) 0) = length-append bytes (replicate (l - length bytes) 0) in
    omega (arith, e, length-replicate {A = ℕ} (l - length bytes) 0)

piece-short : (s : Setup) → piece_len s ≤ sends s
piece-short s = grind arith

taken-short : (s : Setup) (bytes : List ℕ) → length (take (piece_len s) bytes) ≤ sends s
taken-short s bytes = let e = length-take (piece_len s) bytes in let h = piece-short s in grind (arith, nat_tests)

piece-long : (s : Setup) (e : List Deed) (c : Command) (bytes : List ℕ) → length (with_piece s e c (take (piece_len s) bytes)) ≡ frame_len (sends s)
piece-long s e c bytes = seal-long s (since e) (if is_guarded_command c then conn_id s e else 0) c (padded (take (piece_len s) bytes) (sends s)) (padded-long (take (piece_len s) bytes) (sends s) (taken-short s bytes))

-- data
-- each put has the end's own length
abbrev AreProper : Setup → List Deed → Type 0
AreProper s [] = Unit {0}
AreProper s (x ∷ e) = IsProper s x.what × AreProper s e

proper-run : (s : Setup) (e : List Deed) → IsRun s e → AreProper s e
proper-run s [] r = tt
proper-run s (x ∷ e) r = (r.0.proper, proper-run s e r.1)

offer-more : (s : Setup) (what : Move) (did : Did) (sent : List ℕ) (e : List Deed) → IsProper s what → length (offer s e) ≡ sends s → length (offer s (record { what = what; did = did; sent = sent } ∷ e)) ≡ sends s
offer-more s what did sent e h k = grind arith

offer-long : (s : Setup) (e : List Deed) → AreProper s e → length (offer s e) ≡ sends s
offer-long s [] p = length-replicate (sends s) 0
offer-long s (x ∷ e) p = offer-more s x.what x.did x.sent e p.0 (offer-long s e p.1)

data-by : (s : Setup) (e : List Deed) (b : Bool) → length (offer s e) ≡ sends s
    → length (if b then sealed_next s e command.FailSafeData (replicate (sends s) 0) else sealed_next s e command.ProcessData (offer s e)) ≡ frame_len (sends s)
data-by s e true h = seal-long s (since e) (if is_guarded_command command.FailSafeData then conn_id s e else 0) command.FailSafeData (replicate (sends s) 0) (length-replicate (sends s) 0)
data-by s e false h = seal-long s (since e) (if is_guarded_command command.ProcessData then conn_id s e else 0) command.ProcessData (offer s e) h

data-long : (s : Setup) (e : List Deed) → AreProper s e → length (with_data s e) ≡ frame_len (sends s)
data-long s e p = data-by s e (held e) (offer-long s e p)

-- a slave's answer
slave-long : (ss : SlaveSettings) (e : List Deed) (c : Command) (load : List ℕ) → AreProper (OfSlave ss) e → length (slave_answer ss e c load) ≡ frame_len (sends (OfSlave ss))
slave-long ss e command.Reset load p = reset-long (OfSlave ss) 0
slave-long ss e command.Session load p = piece-long (OfSlave ss) e command.Session _
slave-long ss e command.Connection load p = piece-long (OfSlave ss) e command.Connection load
slave-long ss e command.Parameter load p = piece-long (OfSlave ss) e command.Parameter load
slave-long ss e _ load p = data-long (OfSlave ss) e p

-- a master's
download-long : (ms : MasterSettings) (e : List Deed) (c : Command) (k : ℕ) → length (download_frame ms e c k) ≡ frame_len (sends (OfMaster ms))
download-long ms e c k = piece-long (OfMaster ms) e c _

after-long : (ms : MasterSettings) (e : List Deed) (c : Command) → AreProper (OfMaster ms) e → length (after_phase ms e c) ≡ frame_len (sends (OfMaster ms))
after-long ms e command.Reset p = download-long ms e command.Session 1
after-long ms e command.Session p = download-long ms e command.Connection 1
after-long ms e command.Connection p = download-long ms e command.Parameter 1
after-long ms e _ p = data-long (OfMaster ms) e p

pieces-by : (ms : MasterSettings) (e : List Deed) (c : Command) (k : ℕ) (b : Bool) → AreProper (OfMaster ms) e → length (if b then download_frame ms e c (suc k) else after_phase ms e c) ≡ frame_len (sends (OfMaster ms))
pieces-by ms e c k b h = search (rules, download-long, after-long)

goes-long : (ms : MasterSettings) (e : List Deed) (c : Command) → AreProper (OfMaster ms) e → length (goes_on ms e c) ≡ frame_len (sends (OfMaster ms))
goes-long ms e c h = search (rules, pieces-by)

master-long : (ms : MasterSettings) (e : List Deed) (c : Command) → AreProper (OfMaster ms) e → length (master_answer ms e c) ≡ frame_len (sends (OfMaster ms))
master-long ms e command.Reset p = after-long ms e command.Reset p
master-long ms e command.Session p = goes-long ms e command.Session p
master-long ms e command.Connection p = goes-long ms e command.Connection p
master-long ms e command.Parameter p = goes-long ms e command.Parameter p
master-long ms e _ p = data-long (OfMaster ms) e p

-- what is sent, if anything is
sent-long : (s : Setup) (e : List Deed) (reset : Option Cause) (took : Option Took) (sent : Bool) → AreProper s e → is_empty (sent_on s e reset took sent) ≡ false
    → length (sent_on s e reset took sent) ≡ frame_len (sends s)
sent-long s e reset took sent h k = search (rules, reset-long, master-long, slave-long)

pub step_long : (s : Setup) (e : List Deed) (what : Move) → IsProper s what → IsRun s e → is_empty (step s e what).sent ≡ false → length (step s e what).sent ≡ frame_len (sends s)
step_long s e what h k l = search (rules, sent-long, proper-run)

-- so is each that a run sent
pub next_long : (s : Setup) (x : Deed) (e : List Deed) → IsRun s (x ∷ e) → is_empty x.sent ≡ false → length x.sent ≡ frame_len (sends s)
next_long s x e h k = search (rules, step_long)
