-- The tests of the machine end as those of looking back.
use Rattle.master_core.proofs.Common.{Accepted, Code, Command, Deed, Dropped, Frame, MasterSettings, OfMaster, Opened, SessionFrameView, State, accepted, accepted_by, code, drops, first_of, frame_len, frame_of, kept, kit_of, master_allows, notes_of, on_reset_view, on_session, opened, own_crc, phase_in, refuses, settles, since, state_of, view_in}
use Rattle.std.proofs.Common.{◌≡◌, ◌≢◌, ℕ, Bool, true, false, List, length, Option, sym, ap, subst, arith, rules}
use Rattle.fsoe_base.specs.declared.command.Command.TheVariants as command
use Rattle.fsoe_base.specs.declared.did.Dropped.TheVariants as dropped
use Rattle.seq_chain.specs.declared.opened.Opened.TheVariants as opened_as
use Rattle.end_model.specs.Verdict as model
use Rattle.seq_chain.proofs.OpenedFrame as opens
use Rattle.seq_chain.proofs.OpenedFrame.{Tested, tested}
use Rattle.master_core.specs.Phase as machine
use Rattle.master_core.proofs.Sound.{SoundAt}

-- the frame that came
abbrev pub came : MasterSettings → List ℕ → Frame
came ms bytes = frame_of ms.lengths.slave bytes

abbrev pub seen : MasterSettings → List ℕ → Command → SessionFrameView
seen ms bytes c = record { command = c; frame = came ms bytes }

-- a frame of a session of the slave's length, whose command is allowed
pub record Came (p : State) (ms : MasterSettings) (bytes : List ℕ) (c : Command) : Type 0 where
  pub len : length bytes ≡ frame_len ms.lengths.slave
  pub is_session : c ≢ command.Reset
  pub is_allowed : master_allows p c ≡ true

-- how the tests of looking back end, and what the machine then does
pub data Same (p : State) (ms : MasterSettings) (e : List Deed) (bytes : List ℕ) : model.Verdict → Accepted → Type 0 where
  Drops : (because : Dropped) → Same p ms e bytes (model.Drop because) (drops (view_in p ms e) because)
  Refuses : (x : Code) → Same p ms e bytes (model.Refused x) (refuses (view_in p ms e) x)
  ByReset : length bytes ≡ frame_len ms.lengths.slave → (x : Code) → x ≡ code (first_of (came ms bytes).load) → Same p ms e bytes (model.Valid command.Reset (came ms bytes).load) (on_reset_view (view_in p ms e) x (came ms bytes))
  Passes : (c : Command) → Came p ms bytes c
      → Same p ms e bytes (model.judged_contents c (came ms bytes).load (model.contents (OfMaster ms) e c (came ms bytes)))
      (settles (view_in p ms e) (seen ms bytes c) (machine.next_phase (kit_of ms e) (phase_in p ms (notes_of ms e)) (seen ms bytes c)))

-- the frame that is kept, and the chain
kept-same : (p : State) (ms : MasterSettings) (e : List Deed) → SoundAt p ms e → machine.kept_in (phase_in p ms (notes_of ms e)) ≡ kept (since e)
kept-same p ms e h = grind arith

-- a frame of a session, by its three tests
by-tests : (p : State) (ms : MasterSettings) (e : List Deed) (bytes : List ℕ) (c : Command) (a h t a' h' t' : Bool)
    → a ≡ a' → h ≡ h' → t ≡ t' → (a' ≡ true → Came p ms bytes c)
    → Same p ms e bytes (model.judged_session (OfMaster ms) e (seen ms bytes c) (model.session_fault a' h' t'))
    (on_session (view_in p ms e) (seen ms bytes c) (model.session_fault a h t))
by-tests p ms e bytes c true true true a' h' t' i j k s = rw (← i, ← j, ← k) (Passes c (s (sym i)))
by-tests p ms e bytes c true true false a' h' t' i j k s = rw (← i, ← j, ← k) (Refuses (code 0x04))
by-tests p ms e bytes c true false t a' h' t' i j k s = rw (← i, ← j) (Refuses (code 0x03))
by-tests p ms e bytes c false h t a' h' t' i j k s = rw (← i) (Refuses (code 0x01))

session-same : (p : State) (ms : MasterSettings) (e : List Deed) (bytes : List ℕ) (c : Command) → state_of (OfMaster ms) e ≡ p → c ≢ command.Reset
    → length bytes ≡ frame_len ms.lengths.slave → SoundAt p ms e
    → Same p ms e bytes (model.judged (OfMaster ms) e (opened_as.OfSession (seen ms bytes c))) (accepted_by (view_in p ms e) (opened_as.OfSession (seen ms bytes c)))
session-same p ms e bytes c h k l m = search (rules, by-tests, own_crc)

by-opened : (p : State) (ms : MasterSettings) (e : List Deed) (bytes : List ℕ) (again : Bool) (w : Opened) → state_of (OfMaster ms) e ≡ p → SoundAt p ms e
    → Tested ms.lengths.slave again bytes w → Same p ms e bytes (model.judged (OfMaster ms) e w) (accepted_by (view_in p ms e) w)
by-opened p ms e bytes again w now h (opens.HasOtherLength other) = Drops dropped.Length
by-opened p ms e bytes again w now h (opens.IsRepeat len repeats) = Drops dropped.Repeat
by-opened p ms e bytes again w now h (opens.UnknownCommand is) = Refuses (code 0x02)
by-opened p ms e bytes again w now h (opens.WrongReset found is fails) = Refuses found
by-opened p ms e bytes again w now h (opens.IsReset said is passes first) = ByReset is.len said first
by-opened p ms e bytes again w now h (opens.IsOfSession c n is) = session-same p ms e bytes c now n is.len h

-- the tests end in the same way
pub same : (p : State) (ms : MasterSettings) (e : List Deed) (bytes : List ℕ) → state_of (OfMaster ms) e ≡ p → SoundAt p ms e
    → Same p ms e bytes (model.verdict (OfMaster ms) e bytes) (accepted (view_in p ms e) bytes)
same p ms e bytes now h =
    subst (λ (again : Bool). Same p ms e bytes (model.verdict (OfMaster ms) e bytes) (accepted_by (view_in p ms e) (opened ms.lengths.slave again bytes)))
    (ap (λ (o : Option (List ℕ)). model.is_repeat o bytes) (sym (kept-same p ms e h)))
    (by-opened p ms e bytes _ _ now h (tested ms.lengths.slave (model.is_repeat (kept (since e)) bytes) bytes))
