-- An answer in a handshake that passed the tests of a master: what the machine does is what looking back gives.
use Rattle.master_core.proofs.Common.{AreBytes, Command, Deed, Exchange, MasterSettings, OfMaster, Phase, State, Valid, Wrong, advanced, answered, answered_by, bytes_of, chain_after, chain_at, code, connection_download, contents, exchange_of, filled, first_data, is_answer, is_padded, is_reset, is_there, is_whole, judged_contents, keeps, kit_of, next_by, next_phase, nonce, notes_of, on_verdict, padded, parameter_download, pay, phase_in, piece_from, piece_len, piece_own, pieces, resets, settles, since, takes_frame, taking, there, unless, view_in, with_download}
use Rattle.std.proofs.Common.{◌≡◌, ℕ, drop, suc, ◌+◌, ◌-◌, ◌*◌, nat_lt, Bool, true, false, not, List, ◌∷◌, length, Some, unwrap_or, Ok, Err, if◌then◌else◌, refl, sym, ap, subst, ◌∙◌}
use Rattle.fsoe_base.specs.declared.command.Command.TheVariants as command
use Rattle.fsoe_base.specs.declared.command.State.TheVariants as state
use Rattle.fsoe_base.specs.declared.did.Cause.TheVariants as cause
use Rattle.param_load.specs.declared.entry.Move.TheVariants as move
use Rattle.param_load.specs.declared.upload.Progress.TheVariants as progress
use Rattle.master_core.specs.declared.phase.Phase.TheVariants as phase
use Rattle.master_core.proofs.Sound.{OfSession, OfConnection, OfParameter, Sound}
use Rattle.master_core.proofs.SameVerdict.{came, seen}
use Rattle.master_core.proofs.Agrees.{Agrees, same_master, resets-agree}
use Rattle.master_core.proofs.Taking.{Arrived, takes-agree, exchange_at, same_exchange, chosen, next_chain, next_frame, next_place, positive, none_before, more_to_come, some_piece}
use Rattle.master_core.proofs.TakenData.{data_after, data_sent}

-- the piece of a payload from this place on, in a frame
abbrev piece_at : MasterSettings → List ℕ → ℕ → List ℕ
piece_at ms payload from = padded (piece_from payload from (piece_len (OfMaster ms))) ms.lengths.master

-- the phase after a frame was taken and this piece was sent
exchange_after : (ms : MasterSettings) (e : List Deed) (bytes : List ℕ) (c : Command) (conn : ℕ) (c2 : Command) (u u' : List ℕ) (echo : Bool) (from from' : ℕ)
    → is_reset c ≡ false → u ≡ u' → from ≡ from' → Arrived ms bytes → AreBytes bytes
    → exchange_at (chain_at (OfMaster ms) (taking (OfMaster ms) bytes c (next_frame ms e bytes conn c2 (piece_at ms u' from')) ∷ since e)) u (piece_len (OfMaster ms)) echo from bytes
    ≡ exchange_at (next_chain ms e bytes conn c2 (piece_at ms u' from')) u' (piece_len (OfMaster ms)) echo from' (bytes_of (came ms bytes))
exchange_after ms e bytes c conn c2 u u' echo from from' r i j a b =
    same_exchange _ _ _ _ _ _ _ _ _ _ (chain_after (OfMaster ms) (since e) bytes c conn c2 (piece_at ms u' from') r (filled (drop from' u') (piece_len (OfMaster ms)) ms.lengths.master (piece_own (OfMaster ms)))) i j (sym (a.back b))

-- after a frame with this command was taken in this state, the machine goes on to this phase, as looking back does
abbrev Leads : State → Command → MasterSettings → List Deed → List ℕ → Phase → Type 0
Leads p c ms e bytes next = Agrees ms e (move.Deliver bytes) (takes_frame c (came ms bytes).load) (answered_by (settles (view_in p ms e) (seen ms bytes c) (Ok next)))

-- an answer that is wrong ends the session, and after the last piece the next phase begins
by-answer : (p : State) (c : Command) (ms : MasterSettings) (e : List Deed) (bytes : List ℕ) (b w t : Bool) (more whole : Phase)
    → on_verdict p (OfMaster ms) (Wrong (code 0x07)) ≡ resets true (cause.Found (code 0x07)) → on_verdict p (OfMaster ms) (Valid c (came ms bytes).load) ≡ takes_frame c (came ms bytes).load
    → Sound ms e → t ≡ not w → (t ≡ true → Leads p c ms e bytes more) → (t ≡ false → Leads p c ms e bytes whole)
    → Agrees ms e (move.Deliver bytes) (on_verdict p (OfMaster ms) (judged_contents c (came ms bytes).load (unless b 0x07)))
    (answered_by (settles (view_in p ms e) (seen ms bytes c) (next_by (if b then Ok (if w then progress.Whole else progress.More) else Err (code 0x07)) more whole)))
by-answer p c ms e bytes false w t more whole wrong valid s m goes begins = rw wrong (resets-agree p ms e (move.Deliver bytes) true (cause.Found (code 0x07)) refl s)
by-answer p c ms e bytes true false t more whole wrong valid s m goes begins = rw valid (goes m)
by-answer p c ms e bytes true true t more whole wrong valid s m goes begins = rw valid (begins m)

-- a Session frame that passed the tests
pub session-passed : (ms : MasterSettings) (e : List Deed) (bytes : List ℕ) → OfSession ms (notes_of ms e) → Arrived ms bytes → Sound ms e
    → Agrees ms e (move.Deliver bytes) (on_verdict state.Session (OfMaster ms) (judged_contents command.Session (came ms bytes).load (contents (OfMaster ms) e command.Session (came ms bytes))))
    (answered_by (settles (view_in state.Session ms e) (seen ms bytes command.Session) (next_phase (kit_of ms e) (phase_in state.Session ms (notes_of ms e)) (seen ms bytes command.Session))))
session-passed ms e bytes h a s =
    let c : ℕ = piece_len (OfMaster ms) in
    let k : ℕ = (notes_of ms e).session in
    let u : List ℕ = pay ms (unwrap_or (notes_of ms e).id 0) state.Session in
    let x : Exchange = exchange_of ms (notes_of ms e) u false k in
    let next : Exchange = answered x (seen ms bytes command.Session) in
    let id_is : pay ms (unwrap_or (notes_of ms e).id (nonce (OfMaster ms) e)) state.Session ≡ u = ap (λ (i : ℕ). pay ms i state.Session) (there _ _ (nonce (OfMaster ms) e) h.id_is) in
    let id_kept = keeps (notes_of ms e).id (Some (nonce (OfMaster ms) e)) _ h.id_is in
    let first : List ℕ = pay ms 0 state.Connection in
    subst (λ (v : List ℕ). Agrees ms e (move.Deliver bytes) (on_verdict state.Session (OfMaster ms) (judged_contents command.Session (came ms bytes).load (unless (is_padded (piece_from v ((k - 1) * c) c) (came ms bytes).load) 0x07)))
    (answered_by (settles (view_in state.Session ms e) (seen ms bytes command.Session) (next_phase (kit_of ms e) (phase_in state.Session ms (notes_of ms e)) (seen ms bytes command.Session)))))
    (sym id_is)
    (by-answer state.Session command.Session ms e bytes (is_answer x.download (came ms bytes).load) (is_whole (advanced x.download)) (nat_lt k (pieces u c))
    (phase.Session next) (phase.Connection (with_download next (connection_download ms))) refl refl s (more_to_come (length u) c k _ (some_piece ms) h.some refl)
    (λ m. takes-agree ms e bytes command.Session _ (record {
      view = λ r. same_master _ _ _ _ _ _ _ refl (ap phase.Session (exchange_after ms e bytes command.Session 0 command.Session _ u false _ ((k - 1) * c + c) refl (ap (λ (i : ℕ). pay ms i state.Session) (there _ _ 0 id_kept)) (sym (next_place k c h.some)) a r)) refl;
      sound = record { in_state = record { kept_is = refl; id_is = is_there _ _ id_kept; some = positive _; no_connection = h.no_connection; no_parameter = h.no_parameter }; offer_len = s.offer_len; young = ms.some_watchdog };
    }) refl (chosen _ _ _ _ (ap (λ (v : List ℕ). nat_lt k (pieces v c)) id_is ∙ m) ∙ ap (λ (v : List ℕ). next_frame ms e bytes 0 command.Session (piece_at ms v ((suc k - 1) * c))) id_is ∙ ap (λ (n : ℕ). next_frame ms e bytes 0 command.Session (piece_at ms u n)) (sym (next_place k c h.some))))
    (λ m. takes-agree ms e bytes command.Session _ (record {
      view = λ r. same_master _ _ _ _ _ _ _ refl (ap phase.Connection (exchange_after ms e bytes command.Session ms.conn command.Connection first first true _ 0 refl refl (none_before _ c h.no_connection) a r)) refl;
      sound = record { in_state = record { kept_is = refl; some = positive _; no_parameter = h.no_parameter }; offer_len = s.offer_len; young = ms.some_watchdog };
    }) refl (chosen _ _ _ _ (ap (λ (v : List ℕ). nat_lt k (pieces v c)) id_is ∙ m) ∙ ap (λ (n : ℕ). next_frame ms e bytes ms.conn command.Connection (piece_at ms first n)) (none_before 0 c refl))))

-- a Connection frame that passed the tests
pub connection-passed : (ms : MasterSettings) (e : List Deed) (bytes : List ℕ) → OfConnection ms (notes_of ms e) → Arrived ms bytes → Sound ms e
    → Agrees ms e (move.Deliver bytes) (on_verdict state.Connection (OfMaster ms) (judged_contents command.Connection (came ms bytes).load (contents (OfMaster ms) e command.Connection (came ms bytes))))
    (answered_by (settles (view_in state.Connection ms e) (seen ms bytes command.Connection) (next_phase (kit_of ms e) (phase_in state.Connection ms (notes_of ms e)) (seen ms bytes command.Connection))))
connection-passed ms e bytes h a s =
    let c : ℕ = piece_len (OfMaster ms) in
    let k : ℕ = (notes_of ms e).connection in
    let u : List ℕ = pay ms 0 state.Connection in
    let x : Exchange = exchange_of ms (notes_of ms e) u true k in
    let next : Exchange = answered x (seen ms bytes command.Connection) in
    let first : List ℕ = pay ms 0 state.Parameter in
    by-answer state.Connection command.Connection ms e bytes (is_answer x.download (came ms bytes).load) (is_whole (advanced x.download)) (nat_lt k (pieces u c))
    (phase.Connection next) (phase.Parameter (with_download next (parameter_download ms))) refl refl s (more_to_come (length u) c k _ (some_piece ms) h.some refl)
    (λ m. takes-agree ms e bytes command.Connection _ (record {
      view = λ r. same_master _ _ _ _ _ _ _ refl (ap phase.Connection (exchange_after ms e bytes command.Connection ms.conn command.Connection u u true _ ((k - 1) * c + c) refl refl (sym (next_place k c h.some)) a r)) refl;
      sound = record { in_state = record { kept_is = refl; some = positive _; no_parameter = h.no_parameter }; offer_len = s.offer_len; young = ms.some_watchdog };
    }) refl (chosen _ _ _ _ m ∙ ap (λ (n : ℕ). next_frame ms e bytes ms.conn command.Connection (piece_at ms u n)) (sym (next_place k c h.some))))
    (λ m. takes-agree ms e bytes command.Connection _ (record {
      view = λ r. same_master _ _ _ _ _ _ _ refl (ap phase.Parameter (exchange_after ms e bytes command.Connection ms.conn command.Parameter first first true _ 0 refl refl (none_before _ c h.no_parameter) a r)) refl;
      sound = record { in_state = record { kept_is = refl; some = positive _ }; offer_len = s.offer_len; young = ms.some_watchdog };
    }) refl (chosen _ _ _ _ m ∙ ap (λ (n : ℕ). next_frame ms e bytes ms.conn command.Parameter (piece_at ms first n)) (none_before 0 c refl)))

-- a Parameter frame that passed the tests
pub parameter-passed : (ms : MasterSettings) (e : List Deed) (bytes : List ℕ) → OfParameter ms (notes_of ms e) → Arrived ms bytes → Sound ms e
    → Agrees ms e (move.Deliver bytes) (on_verdict state.Parameter (OfMaster ms) (judged_contents command.Parameter (came ms bytes).load (contents (OfMaster ms) e command.Parameter (came ms bytes))))
    (answered_by (settles (view_in state.Parameter ms e) (seen ms bytes command.Parameter) (next_phase (kit_of ms e) (phase_in state.Parameter ms (notes_of ms e)) (seen ms bytes command.Parameter))))
parameter-passed ms e bytes h a s =
    let c : ℕ = piece_len (OfMaster ms) in
    let k : ℕ = (notes_of ms e).parameter in
    let u : List ℕ = pay ms 0 state.Parameter in
    let x : Exchange = exchange_of ms (notes_of ms e) u true k in
    let next : Exchange = answered x (seen ms bytes command.Parameter) in
    by-answer state.Parameter command.Parameter ms e bytes (is_answer x.download (came ms bytes).load) (is_whole (advanced x.download)) (nat_lt k (pieces u c))
    (phase.Parameter next) (phase.Data (first_data (kit_of ms e) next.session)) refl refl s (more_to_come (length u) c k _ (some_piece ms) h.some refl)
    (λ m. takes-agree ms e bytes command.Parameter _ (record {
      view = λ r. same_master _ _ _ _ _ _ _ refl (ap phase.Parameter (exchange_after ms e bytes command.Parameter ms.conn command.Parameter u u true _ ((k - 1) * c + c) refl refl (sym (next_place k c h.some)) a r)) refl;
      sound = record { in_state = record { kept_is = refl; some = positive _ }; offer_len = s.offer_len; young = ms.some_watchdog };
    }) refl (chosen _ _ _ _ m ∙ ap (λ (n : ℕ). next_frame ms e bytes ms.conn command.Parameter (piece_at ms u n)) (sym (next_place k c h.some))))
    (λ m. takes-agree ms e bytes command.Parameter _ (data_after ms e bytes command.Parameter _ refl refl a s) refl (chosen _ _ _ _ m ∙ data_sent ms e bytes command.Parameter refl s))
