-- The tests of the machine end as those of looking back.
use Rattle.slave_core.proofs.Common.{Code, Command, Deed, Dropped, Frame, OfSlave, Outcome, SessionFrameView, SlaveSettings, State, allowed, code, command_of, drops, first_of, fits_session, fits_next, frame_len, frame_of, id_len, kept, kit_of, next_state, notes_of, phase_in, on_frame, on_opened, on_session, own_crc, parameters, refuses, reply, reset_by_peer, rule_len, settles, since, slave_allows, state_of, uploaded, view_in, whole}
use Rattle.seq_chain.specs.Opened.{opened}
use Rattle.std.proofs.Common.{◌≡◌, ◌≢◌, ℕ, ◌+◌, nat_le, Bool, true, false, List, length, Option, Some, refl, sym, ap, subst, ◌∙◌, arith, rules}
use Rattle.fsoe_base.specs.declared.command.Command.TheVariants as command
use Rattle.fsoe_base.specs.declared.command.State.TheVariants as state
use Rattle.fsoe_base.specs.declared.did.Dropped.TheVariants as dropped
use Rattle.seq_chain.specs.declared.opened.Opened.{Opened}
use Rattle.seq_chain.specs.declared.opened.Opened.TheVariants as opened_as
use Rattle.end_model.specs.Verdict as model
use Rattle.seq_chain.proofs.OpenedFrame as opens
use Rattle.seq_chain.proofs.OpenedFrame.{Tested, tested}
use Rattle.slave_core.specs.Phase as machine
use Rattle.slave_core.proofs.Sound.{SoundAt}

-- the frame that came
abbrev pub came : SlaveSettings → List ℕ → Frame
came ss bytes = frame_of ss.lengths.master bytes

abbrev pub seen : SlaveSettings → List ℕ → Command → SessionFrameView
seen ss bytes c = record { command = c; frame = came ss bytes }

-- a frame of a session whose command and connection id are right
pub record Came (p : State) (ss : SlaveSettings) (e : List Deed) (bytes : List ℕ) (c : Command) : Type 0 where
  pub len : length bytes ≡ frame_len ss.lengths.master
  pub named : command_of (came ss bytes).cmd ≡ Some c
  pub is_allowed : machine.allows (phase_in p ss (notes_of ss e)) c ≡ true
  pub has_conn : model.has_conn (OfSlave ss) e c (came ss bytes).conn ≡ true

-- how the tests of looking back end, and what the machine then does
pub data Same (p : State) (ss : SlaveSettings) (e : List Deed) (bytes : List ℕ) : model.Verdict → Outcome → Type 0 where
  Drops : (because : Dropped) → Same p ss e bytes (model.Drop because) (drops (view_in p ss e) false because)
  Refuses : (x : Code) → Same p ss e bytes (model.Refused x) (refuses (view_in p ss e) false x)
  ByReset : (x : Code) → x ≡ code (first_of (came ss bytes).load) → Same p ss e bytes (model.Valid command.Reset (came ss bytes).load) (reset_by_peer (view_in p ss e) x (came ss bytes).load)
  Passes : (c : Command) → Came p ss e bytes c
      → Same p ss e bytes (model.judged_contents c (came ss bytes).load (model.contents (OfSlave ss) e c (came ss bytes)))
      (settles (view_in p ss e) (seen ss bytes c)
      (reply (kit_of ss e) (phase_in p ss (notes_of ss e)) (seen ss bytes c))
      (next_state (kit_of ss e) (phase_in p ss (notes_of ss e)) (seen ss bytes c)))

-- the frame that is kept, and the chain
kept-same : (p : State) (ss : SlaveSettings) (e : List Deed) → SoundAt p ss e → machine.kept_in (phase_in p ss (notes_of ss e)) ≡ kept (since e)
kept-same p ss e h = grind arith

fits-same : (p : State) (ss : SlaveSettings) (e : List Deed) (f : Frame) → SoundAt p ss e → fits_next (machine.chain_of (phase_in p ss (notes_of ss e))) f ≡ fits_session (OfSlave ss) (since e) f
fits-same p ss e f h = search (rules, own_crc)

-- the test of the command
allows-same : (p : State) (ss : SlaveSettings) (e : List Deed) (c : Command)
    → whole ss.profile state.Parameter (parameters ss e) ≡ nat_le (id_len ss.profile + 4 + rule_len ss.rule) (length (parameters ss e))
    → machine.allows (phase_in p ss (notes_of ss e)) c ≡ slave_allows p (whole ss.profile p (uploaded ss p e)) c
allows-same p ss e c h = grind arith

-- the test of the connection id, where the command is allowed
conn-same : (p : State) (ss : SlaveSettings) (e : List Deed) (c : Command) (field : ℕ) → c ≢ command.Reset → SoundAt p ss e
    → machine.allows (phase_in p ss (notes_of ss e)) c ≡ true → machine.has_conn (phase_in p ss (notes_of ss e)) c field ≡ model.has_conn (OfSlave ss) e c field
conn-same p ss e c field h k l = grind arith

-- a frame of a session, by its three tests
by-tests : (p : State) (ss : SlaveSettings) (e : List Deed) (bytes : List ℕ) (c : Command) (a h t a' h' t' : Bool)
    → a ≡ a' → (a ≡ true → h ≡ h') → t ≡ t' → (a ≡ true → h' ≡ true → Came p ss e bytes c)
    → Same p ss e bytes (model.judged_session (OfSlave ss) e (seen ss bytes c) (model.session_fault a' h' t'))
    (on_session (view_in p ss e) (seen ss bytes c) (model.session_fault a h t))
by-tests p ss e bytes c true true true a' h' t' i j k s = rw (← i, ← j refl, ← k) (Passes c (s refl (sym (j refl))))
by-tests p ss e bytes c true true false a' h' t' i j k s = rw (← i, ← j refl, ← k) (Refuses (code 0x04))
by-tests p ss e bytes c true false t a' h' t' i j k s = rw (← i, ← j refl) (Refuses (code 0x03))
by-tests p ss e bytes c false h t a' h' t' i j k s = rw (← i) (Refuses (code 0x01))

session-same : (p : State) (ss : SlaveSettings) (e : List Deed) (bytes : List ℕ) (c : Command) → state_of (OfSlave ss) e ≡ p → c ≢ command.Reset
    → length bytes ≡ frame_len ss.lengths.master → command_of (came ss bytes).cmd ≡ Some c → SoundAt p ss e
    → whole ss.profile state.Parameter (parameters ss e) ≡ nat_le (id_len ss.profile + 4 + rule_len ss.rule) (length (parameters ss e))
    → Same p ss e bytes (model.judged (OfSlave ss) e (opened_as.OfSession (seen ss bytes c))) (on_opened (view_in p ss e) (opened_as.OfSession (seen ss bytes c)))
session-same p ss e bytes c now n len named h w =
    let a : machine.allows (phase_in p ss (notes_of ss e)) c ≡ allowed (OfSlave ss) e c = allows-same p ss e c w ∙ sym (ap (λ (p : State). slave_allows p (whole ss.profile p (uploaded ss p e)) c) now) in
    by-tests p ss e bytes c _ _ _ _ _ _ a (conn-same p ss e c (came ss bytes).conn n h) (fits-same p ss e (came ss bytes) h) (λ a k. record { len = len; named = named; is_allowed = a; has_conn = k })

by-opened : (p : State) (ss : SlaveSettings) (e : List Deed) (bytes : List ℕ) (again : Bool) (w : Opened) → state_of (OfSlave ss) e ≡ p → SoundAt p ss e
    → whole ss.profile state.Parameter (parameters ss e) ≡ nat_le (id_len ss.profile + 4 + rule_len ss.rule) (length (parameters ss e))
    → Tested ss.lengths.master again bytes w → Same p ss e bytes (model.judged (OfSlave ss) e w) (on_opened (view_in p ss e) w)
by-opened p ss e bytes again w now h i (opens.HasOtherLength other) = Drops dropped.Length
by-opened p ss e bytes again w now h i (opens.IsRepeat len repeats) = Drops dropped.Repeat
by-opened p ss e bytes again w now h i (opens.UnknownCommand is) = Refuses (code 0x02)
by-opened p ss e bytes again w now h i (opens.WrongReset found is fails) = Refuses found
by-opened p ss e bytes again w now h i (opens.IsReset said is passes first) = ByReset said first
by-opened p ss e bytes again w now h i (opens.IsOfSession c n is) = session-same p ss e bytes c now n is.len is.named h i

-- the tests end in the same way
pub same : (p : State) (ss : SlaveSettings) (e : List Deed) (bytes : List ℕ) → state_of (OfSlave ss) e ≡ p → SoundAt p ss e
    → whole ss.profile state.Parameter (parameters ss e) ≡ nat_le (id_len ss.profile + 4 + rule_len ss.rule) (length (parameters ss e))
    → Same p ss e bytes (model.verdict (OfSlave ss) e bytes) (on_frame (view_in p ss e) bytes)
same p ss e bytes now h w =
    subst (λ (again : Bool). Same p ss e bytes (model.verdict (OfSlave ss) e bytes) (on_opened (view_in p ss e) (opened ss.lengths.master again bytes)))
    (ap (λ (o : Option (List ℕ)). model.is_repeat o bytes) (sym (kept-same p ss e h)))
    (by-opened p ss e bytes _ _ now h w (tested ss.lengths.master (model.is_repeat (kept (since e)) bytes) bytes))
