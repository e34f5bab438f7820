-- A Reset frame that is taken: in state Reset it begins a session.
use Rattle.master_core.proofs.Common.{Chain, Code, Command, Deed, MasterSettings, Notes, OfMaster, Outcome, Setup, State, accepts, answered_by, begins, begun, bytes_of, chain_at, chain_sent, code, command_byte, deed_of, dropped, drops, filled, first_of, frame_of, frame_sent, fresh, is_empty, is_there, makes_due, newest_crc, nonce, notes_of, on_reset_frame, option_or, own_link, padded, piece_from, piece_len, piece_own, read_back, receives, seal, sends, session_payload, since, state_of, taken, taken_crc, takes_frame, there, view_in}
use Rattle.std.proofs.Common.{◌≡◌, ℕ, ◌-◌, ◌*◌, ◌==◌, Bool, true, false, List, ◌∷◌, length, Some, unwrap_or, if◌then◌else◌, refl, sym, ap, subst, ◌∙◌, rules}
use Rattle.fsoe_base.specs.declared.command.Command.TheVariants as command
use Rattle.fsoe_base.specs.declared.command.State.TheVariants as state
use Rattle.fsoe_base.specs.declared.did.Cause.TheVariants as cause
use Rattle.fsoe_base.specs.declared.did.Dropped.TheVariants as why
use Rattle.seq_chain.specs.Sealing as sealing
use Rattle.param_load.specs.declared.entry.Move.TheVariants as move
use Rattle.master_core.specs.declared.phase.Phase.TheVariants as phase
use Rattle.master_core.specs.Master as machine
use Rattle.master_core.proofs.Sound.{no_notes, Sound, SoundAt}
use Rattle.master_core.proofs.SameVerdict.{came}
use Rattle.master_core.proofs.Agrees.{Agrees, same_master, drop-agrees, resets-agree}
use Rattle.master_core.proofs.Taking.{After, Arrived, takes-agree, same_exchange, positive, none_before}

-- an end that noted nothing seals a frame outside each session
sealed-fresh : (s : Setup) (e : List Deed) (conn : ℕ) (c : Command) (load : List ℕ) → chain_at s e ≡ fresh → seal s e conn c load ≡ frame_sent fresh conn c load
sealed-fresh s e conn c load h =
    ap (λ (last : ℕ). bytes_of (sealing.sealed last (own_link s e) conn (command_byte c) load)) (sym (taken_crc s e))
    ∙ ap (λ (chain : Chain). frame_sent chain conn c load) h

-- the chain after a Reset frame was taken and this frame sent
chain-begun : (s : Setup) (e : List Deed) (bytes load sent answer : List ℕ) (conn : ℕ) (c2 : Command) → is_empty sent ≡ false
    → frame_of (sends s) sent ≡ sealing.sealed (newest_crc (receives s) (taken e)) (own_link s e) conn (command_byte c2) answer
    → chain_at s (record { what = move.Deliver bytes; did = takes_frame command.Reset load; sent = sent } ∷ e) ≡ chain_sent (chain_at s e) conn c2 answer
chain-begun s e bytes load sent answer conn c2 some back = simp (some, back, taken_crc)

-- the first piece of the session id
abbrev first_load : MasterSettings → List Deed → List ℕ
first_load ms e = padded (piece_from (session_payload (nonce (OfMaster ms) e) ms.profile) 0 (piece_len (OfMaster ms))) ms.lengths.master

abbrev begun_outcome : MasterSettings → List Deed → List ℕ → Outcome
begun_outcome ms e bytes = answered_by (begins (view_in state.Reset ms e) (code 0) (came ms bytes))

begins-after : (ms : MasterSettings) (e : List Deed) (bytes : List ℕ) → notes_of ms e ≡ no_notes ms → Arrived ms bytes → Sound ms e → After ms e bytes command.Reset (begun_outcome ms e bytes).sent (begun_outcome ms e bytes).master
begins-after ms e bytes h a s =
    let c : ℕ = piece_len (OfMaster ms) in
    let full : length (first_load ms e) ≡ ms.lengths.master = filled (session_payload (nonce (OfMaster ms) e) ms.profile) c ms.lengths.master (piece_own (OfMaster ms)) in
    let none : (notes_of ms e).chain ≡ fresh = ap (λ (n : Notes). n.chain) h in
    let id_is : option_or (notes_of ms e).id (Some (nonce (OfMaster ms) e)) ≡ Some (nonce (OfMaster ms) e) = ap (λ (n : Notes). option_or n.id (Some (nonce (OfMaster ms) e))) h in
    let sent_is : frame_sent fresh 0 command.Session (first_load ms e) ≡ seal (OfMaster ms) (since e) 0 command.Session (first_load ms e) = sym (sealed-fresh (OfMaster ms) (since e) 0 command.Session (first_load ms e) none) in
    record {
      view = λ r. same_master _ _ _ _ _ _ _ refl
          (ap phase.Session (same_exchange _ _ _ _ _ _ _ _ _ _
          (chain-begun (OfMaster ms) (since e) bytes (came ms bytes).load (frame_sent fresh 0 command.Session (first_load ms e)) (first_load ms e) 0 command.Session refl (ap (λ (f : List ℕ). frame_of ms.lengths.master f) sent_is ∙ read_back (OfMaster ms) (since e) 0 command.Session (first_load ms e) full)
          ∙ ap (λ (chain : Chain). chain_sent chain 0 command.Session (first_load ms e)) none)
          (ap (λ (i : ℕ). session_payload i ms.profile) (there _ _ 0 id_is)) (none_before _ c (ap (λ (n : Notes). n.session) h)) (sym (a.back r))))
          refl;
      sound = search (rules, is_there, positive);
    }

begins-sent : (ms : MasterSettings) (e : List Deed) (bytes : List ℕ) → notes_of ms e ≡ no_notes ms
    → (deed_of (OfMaster ms) e (move.Deliver bytes) (takes_frame command.Reset (came ms bytes).load)).sent ≡ (begun_outcome ms e bytes).sent
begins-sent ms e bytes h =
    let before : List Deed = begun (move.Deliver bytes) (takes_frame command.Reset (came ms bytes).load) ∷ e in
    let id_is : unwrap_or (notes_of ms e).id (nonce (OfMaster ms) e) ≡ nonce (OfMaster ms) e = ap (λ (n : Notes). unwrap_or n.id (nonce (OfMaster ms) e)) h in
    ap (λ (i : ℕ). seal (OfMaster ms) (since before) 0 command.Session (padded (piece_from (session_payload i ms.profile) ((1 - 1) * piece_len (OfMaster ms)) (piece_len (OfMaster ms))) ms.lengths.master)) id_is
    ∙ (ap (λ (n : ℕ). seal (OfMaster ms) (since before) 0 command.Session (padded (piece_from (session_payload (nonce (OfMaster ms) e) ms.profile) n (piece_len (OfMaster ms))) ms.lengths.master)) (none_before 0 (piece_len (OfMaster ms)) refl)
    ∙ sealed-fresh (OfMaster ms) (since before) 0 command.Session (first_load ms e) (ap (λ (n : Notes). n.chain) h))

-- in state Reset the Reset frame with code 0 begins a session, another one is dropped
by-code : (ms : MasterSettings) (e : List Deed) (bytes : List ℕ) (b : Bool) → state_of (OfMaster ms) e ≡ state.Reset → notes_of ms e ≡ no_notes ms → Arrived ms bytes → Sound ms e
    → Agrees ms e (move.Deliver bytes) (if b then takes_frame command.Reset (came ms bytes).load else dropped why.InReset)
    (answered_by (if b then makes_due (view_in state.Reset ms e) (phase.Begin (bytes_of (came ms bytes))) (code 0) (accepts command.Reset (came ms bytes).load false) else drops (view_in state.Reset ms e) why.InReset))
by-code ms e bytes true at h a s = takes-agree ms e bytes command.Reset (begun_outcome ms e bytes) (begins-after ms e bytes h a s) refl (begins-sent ms e bytes h)
by-code ms e bytes false at h a s = drop-agrees state.Reset ms e bytes why.InReset at s

-- a valid Reset frame with this code
of-code : (p : State) (ms : MasterSettings) (e : List Deed) (bytes : List ℕ) → state_of (OfMaster ms) e ≡ p → SoundAt p ms e → Arrived ms bytes → Sound ms e
    → Agrees ms e (move.Deliver bytes) (on_reset_frame p (OfMaster ms) (came ms bytes).load) (answered_by (machine.on_reset_view (view_in p ms e) (code (first_of (came ms bytes).load)) (came ms bytes)))
of-code state.Reset ms e bytes at h a s = by-code ms e bytes (first_of (came ms bytes).load == 0) at h a s
of-code p ms e bytes at h a s = resets-agree p ms e (move.Deliver bytes) false (cause.Peer (code (first_of (came ms bytes).load))) refl s

pub reset_frame-agrees : (p : State) (ms : MasterSettings) (e : List Deed) (bytes : List ℕ) (x : Code) → x ≡ code (first_of (came ms bytes).load) → state_of (OfMaster ms) e ≡ p → SoundAt p ms e → Arrived ms bytes → Sound ms e
    → Agrees ms e (move.Deliver bytes) (on_reset_frame p (OfMaster ms) (came ms bytes).load) (answered_by (machine.on_reset_view (view_in p ms e) x (came ms bytes)))
reset_frame-agrees p ms e bytes x said at h a s =
    subst (λ (x : Code). Agrees ms e (move.Deliver bytes) (on_reset_frame p (OfMaster ms) (came ms bytes).load) (answered_by (machine.on_reset_view (view_in p ms e) x (came ms bytes)))) (sym said)
    (of-code p ms e bytes at h a s)
