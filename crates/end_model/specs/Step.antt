-- What an end does at each event, and the list of its deeds. The reactions are this profile's own.
use Rattle.std.specs.Prelude.{ℕ, suc, ◌==◌, nat_lt, List, [], ◌∷◌, take, replicate, Bool, true, false, not, Option, Some, None, if◌then◌else◌}
use Rattle.fsoe_base.specs.declared.command.State.{State}
use Rattle.fsoe_base.specs.declared.command.State.TheVariants as state
use Rattle.fsoe_base.specs.declared.command.Command.{Command}
use Rattle.fsoe_base.specs.declared.command.Command.TheVariants as command
use Rattle.fsoe_base.specs.declared.command.Code.{Code}
use Rattle.fsoe_base.specs.declared.did.Cause.{Cause}
use Rattle.fsoe_base.specs.declared.did.Cause.TheVariants as reset_cause
use Rattle.fsoe_base.specs.declared.did.Dropped.TheVariants as why
use Rattle.fsoe_base.specs.declared.did.Took.{Took}
use Rattle.fsoe_base.specs.declared.did.Did.{Did}
use Rattle.fsoe_base.specs.Did as did
use Rattle.fsoe_base.specs.Did.{nothing, dropped, resets}
use Rattle.seq_chain.specs.Cover.{first_of}
use Rattle.seq_chain.specs.Reset.{reset_frame}
use Rattle.param_load.specs.declared.entry.Move.{Move}
use Rattle.param_load.specs.declared.entry.Move.TheVariants as move
use Rattle.param_load.specs.declared.master_settings.MasterSettings.{MasterSettings}
use Rattle.param_load.specs.declared.slave_settings.SlaveSettings.{SlaveSettings}
use Rattle.fsoe_base.specs.Codes.{watchdog_expired}
use Rattle.fsoe_base.specs.Command.{code}
use Rattle.param_load.specs.Payload.{session_payload, padded}
use Rattle.end_model.specs.Setup.{Setup, OfMaster, OfSlave, sends, piece_len}
use Rattle.end_model.specs.Phases.{phase_of, is_reset, is_guarded_command}
use Rattle.end_model.specs.Deed.{Deed}
use Rattle.end_model.specs.Chain.{since, own, taken, seal}
use Rattle.end_model.specs.Payloads.{pay, piece, pieces, count_in, session_id, conn_id}
use Rattle.end_model.specs.Readiness.{state_of, offer, held, reaches_limit}
use Rattle.end_model.specs.Verdict.{Verdict, Valid, Drop, Refused, Wrong, verdict}

-- a frame is taken, and one is sent: a frame of a session passed the test of its CRCs
abbrev pub takes_frame : Command → List ℕ → Did
takes_frame c load = did.takes c load (not (is_reset c))

-- a test failed with this code: in state Reset the frame is dropped, else the session ends
abbrev pub on_fault : State → Bool → Code → Did
on_fault state.Reset passed found = record (dropped why.InReset) { passed = passed }
on_fault _ passed found = resets passed (reset_cause.Found found)

-- a master in state Reset takes the Reset frame with code 0 alone, which answers its own
abbrev pub on_answered_reset : List ℕ → Did
on_answered_reset load = if first_of load == 0 then takes_frame command.Reset load else dropped why.InReset

-- a Reset frame: a slave in state Reset takes each, elsewhere it ends the session
abbrev pub on_reset_frame : State → Setup → List ℕ → Did
on_reset_frame state.Reset (OfMaster ms) load = on_answered_reset load
on_reset_frame state.Reset (OfSlave ss) load = takes_frame command.Reset load
on_reset_frame _ s load = resets false (reset_cause.Peer (code (first_of load)))

-- a frame that came, by the verdict on it
abbrev pub on_verdict : State → Setup → Verdict → Did
on_verdict now s (Drop because) = dropped because
on_verdict now s (Refused found) = on_fault now false found
on_verdict now s (Wrong found) = on_fault now true found
on_verdict now s (Valid command.Reset load) = on_reset_frame now s load
on_verdict now s (Valid c load) = takes_frame c load

-- the age reaches the limit: in state Reset a master sends Reset again and a slave does nothing, elsewhere the session
-- ends
abbrev pub on_expiry : State → Setup → Did
on_expiry state.Reset (OfMaster ms) = record nothing { sent = true }
on_expiry state.Reset (OfSlave ss) = nothing
on_expiry _ s = resets false (reset_cause.Found watchdog_expired)

-- a tick
abbrev pub on_tick : Setup → List Deed → Did
on_tick s e = if reaches_limit s e then on_expiry (state_of s e) s else nothing

-- what an end does at an event
abbrev pub did_on : Setup → List Deed → Move → Did
did_on s e (move.Deliver bytes) = on_verdict (state_of s e) s (verdict s e bytes)
did_on s e move.Tick = on_tick s e
did_on s e move.Local = resets false reset_cause.Local
did_on s e _ = nothing

-- the next frame of the session, where e begins with the deed that sends it: a guarded frame carries the connection id
abbrev pub sealed_next : Setup → List Deed → Command → List ℕ → List ℕ
sealed_next s e c load = seal s (since e) (if is_guarded_command c then conn_id s e else 0) c load

-- a frame of a handshake: a piece with zeros after it
abbrev pub with_piece : Setup → List Deed → Command → List ℕ → List ℕ
with_piece s e c bytes = sealed_next s e c (padded bytes (sends s))

-- a data frame: the offer, or zeros where the end is held
abbrev pub with_data : Setup → List Deed → List ℕ
with_data s e =
    if held e then sealed_next s e command.FailSafeData (replicate (sends s) 0)
    else sealed_next s e command.ProcessData (offer s e)

-- the piece of a slave's session id that answers the last Session frame
abbrev pub id_piece : SlaveSettings → List Deed → List ℕ
id_piece ss e = piece (session_payload (session_id (OfSlave ss) e) ss.profile) (piece_len (OfSlave ss)) (count_in state.Session (taken (since e)))

-- a slave's answer: Reset with code 0, its session id, the piece that came, or a data frame
abbrev pub slave_answer : SlaveSettings → List Deed → Command → List ℕ → List ℕ
slave_answer ss e command.Reset load = reset_frame 0 (sends (OfSlave ss))
slave_answer ss e command.Session load = with_piece (OfSlave ss) e command.Session (id_piece ss e)
slave_answer ss e command.Connection load = with_piece (OfSlave ss) e command.Connection (take (piece_len (OfSlave ss)) load)
slave_answer ss e command.Parameter load = with_piece (OfSlave ss) e command.Parameter (take (piece_len (OfSlave ss)) load)
slave_answer ss e _ load = with_data (OfSlave ss) e

-- the k-th frame of a master in the phase of a command
abbrev pub download_frame : MasterSettings → List Deed → Command → ℕ → List ℕ
download_frame ms e c k = with_piece (OfMaster ms) e c (piece (pay ms (session_id (OfMaster ms) e) (phase_of c)) (piece_len (OfMaster ms)) k)

-- a master's first frame after a phase
abbrev pub after_phase : MasterSettings → List Deed → Command → List ℕ
after_phase ms e command.Reset = download_frame ms e command.Session 1
after_phase ms e command.Session = download_frame ms e command.Connection 1
after_phase ms e command.Connection = download_frame ms e command.Parameter 1
after_phase ms e _ = with_data (OfMaster ms) e

-- a master's frame after k pieces of a payload: the next piece, else the first frame after the phase
abbrev pub after_pieces : MasterSettings → List Deed → Command → ℕ → List ℕ
after_pieces ms e c k =
    if nat_lt k (pieces (pay ms (session_id (OfMaster ms) e) (phase_of c)) (piece_len (OfMaster ms)))
    then download_frame ms e c (suc k) else after_phase ms e c

-- a master's next frame in a handshake, by the pieces that it sent
abbrev pub goes_on : MasterSettings → List Deed → Command → List ℕ
goes_on ms e c = after_pieces ms e c (count_in (phase_of c) (own (since e)))

-- a master's next frame after an answer with this command
abbrev pub master_answer : MasterSettings → List Deed → Command → List ℕ
master_answer ms e command.Reset = after_phase ms e command.Reset
master_answer ms e command.Session = goes_on ms e command.Session
master_answer ms e command.Connection = goes_on ms e command.Connection
master_answer ms e command.Parameter = goes_on ms e command.Parameter
master_answer ms e _ = with_data (OfMaster ms) e

-- the frame that follows a frame that was taken
abbrev pub answer : Setup → List Deed → Took → List ℕ
answer (OfMaster ms) e t = master_answer ms e t.command
answer (OfSlave ss) e t = slave_answer ss e t.command t.load

-- the code of a Reset frame: what the end found, else 0
abbrev pub code_sent : Cause → ℕ
code_sent (reset_cause.Found found) = found.0
code_sent _ = 0

-- the frame that is sent: Reset where the session ends, the answer to a frame that was taken, or a master's Reset again
abbrev pub sent_on : Setup → List Deed → Option Cause → Option Took → Bool → List ℕ
sent_on s e (Some because) took sent = reset_frame (code_sent because) (sends s)
sent_on s e None (Some t) sent = answer s e t
sent_on s e None None true = reset_frame 0 (sends s)
sent_on s e None None false = []

-- a deed before its frame is sent
abbrev pub begun : Move → Did → Deed
begun event done = record { what = event; did = done; sent = [] }

-- the frame that a deed sends once it is begun. The deed is counted already, so that an answer goes by the frame that
-- was taken just now
abbrev pub sent_when_begun : Setup → List Deed → Move → Did → List ℕ
sent_when_begun s e event done = sent_on s (begun event done ∷ e) done.reset done.took done.sent

-- the deed of an end that does this at an event, with the frame that it sends
abbrev pub deed_of : Setup → List Deed → Move → Did → Deed
deed_of s e event done = record (begun event done) { sent = sent_when_begun s e event done }

-- the next deed of an end
abbrev pub step : Setup → List Deed → Move → Deed
step s e event = deed_of s e event (did_on s e event)

-- the deeds after these moves, where e are those before
abbrev pub continued : Setup → List Deed → List Move → List Deed
continued s e [] = e
continued s e (event ∷ moves) = continued s (step s e event ∷ e) moves

-- the deeds of a new end after these moves
abbrev pub run : Setup → List Move → List Deed
run s moves = continued s [] moves
