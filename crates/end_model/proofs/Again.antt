-- An end to which the same bytes came twice with nothing in between is left as it is by the next delivery of them.
use Rattle.end_model.proofs.Common.{Answers, Code, Command, Deed, Did, DropsInReset, DropsLength, DropsRepeat, DropsReset, Dropped, IsExchange, IsRead, IsResetFrame, IsRun, MasterFirstData, MasterGoesOn, MasterMoreData, MasterNextPhase, MasterSettings, MasterStarts, Move, OfMaster, OfSlave, PeerResets, Reaction, Refuses, Setup, SlaveFirstData, SlaveGoesOn, SlaveMoreData, SlaveNextPhase, SlaveRejoins, SlaveSettings, SlaveStarts, State, Taking, Valid, Verdict, contents, deed_of, delivered, dropped, eq-eqb, failed_with, first_of, frame_len, has_command, judged, judged_contents, judged_session, kept, on_verdict, parts, receives, sends, since, state_of, step, takes_frame, verdict, with_answer}
use Rattle.std.proofs.Common.{◌≡◌, ◌≢◌, ℕ, List, [], ◌∷◌, length, Bool, true, false, Option, Some, None, Result, ◌⊎◌, inl, inr, if◌then◌else◌, refl, sym, ap, ap₂, subst, ◌∙◌, arith, rules}
use Rattle.std.proofs.lemmas.Bool.{ne_eqb}
use Rattle.fsoe_base.specs.declared.command.State.TheVariants as state
use Rattle.fsoe_base.specs.declared.command.Command.TheVariants as command
use Rattle.fsoe_base.specs.declared.did.Dropped.TheVariants as why
use Rattle.fsoe_frame.specs.Parts.{Frame}
use Rattle.seq_chain.specs.Opened.{command_opened, reset_opened}
use Rattle.seq_chain.specs.SessionFrame.{SessionFrameView}
use Rattle.seq_chain.specs.declared.opened.Opened.{Opened}
use Rattle.seq_chain.specs.declared.opened.Opened.TheVariants as opened_as
use Rattle.seq_chain.specs.Reset.{reset_frame}
use Rattle.param_load.specs.declared.entry.Move.TheVariants as move
use Rattle.end_model.specs.Again.{LeavesEnd, once_more}
use Rattle.end_model.specs.Runs.{IsMaster}
use Rattle.end_model.specs.Step.{did_on}
use Rattle.end_model.specs.Verdict.{fault_after}
use Rattle.end_model.proofs.AgeBelow.{no_age_in_reset}
use Rattle.end_model.proofs.Repeats.{repeat_dropped}
use Rattle.end_model.proofs.Runs.{deed}
use Rattle.end_model.proofs.Shown.{fail_safe}
use Rattle.end_model.proofs.SoundRuns.{reacts}

-- the verdict on a frame that comes as far as its command
pub read_verdict : (s : Setup) (e : List Deed) (bytes : List ℕ) (c : Option Command) → IsRead s e bytes c → verdict s e bytes ≡ judged s e (command_opened (parts s bytes) c)
read_verdict s e bytes c h = search (rules, eq-eqb)

pub reset_verdict : (s : Setup) (e : List Deed) (bytes load : List ℕ) → IsResetFrame s e bytes load → verdict s e bytes ≡ Valid command.Reset load
reset_verdict s e bytes load v =
    read_verdict s e bytes (Some command.Reset) v.is_read
    ∙ (ap (λ (r : Result Code Code). judged s e (reset_opened (parts s bytes) r)) v.is_sound ∙ ap (Valid command.Reset) v.load_is)

-- a Reset frame passes its tests wherever it isn't kept
reset-stays : (s : Setup) (e e' : List Deed) (bytes load : List ℕ) → kept (since e') ≢ Some bytes → IsResetFrame s e bytes load → IsResetFrame s e' bytes load
reset-stays s e e' bytes load n h =
    record { is_read = record { has_length = h.is_read.has_length; is_new = n; command_is = h.is_read.command_is }; load_is = h.load_is; is_sound = h.is_sound }

-- the deed that drops these bytes
abbrev dropping : List ℕ → Dropped → Bool → Deed
dropping bytes because passed = deed (move.Deliver bytes) (record (dropped because) { passed = passed }) []

-- it changes nothing, nor any verdict
state-kept : (s : Setup) (e : List Deed) (bytes : List ℕ) (because : Dropped) (passed : Bool) → state_of s (dropping bytes because passed ∷ e) ≡ state_of s e
state-kept (OfMaster ms) e bytes because passed = refl
state-kept (OfSlave ss) e bytes because passed = refl

drop-leaves : (s : Setup) (e : List Deed) (bytes : List ℕ) (because : Dropped) (passed : Bool) → LeavesEnd s (dropping bytes because passed) e
drop-leaves (OfMaster ms) e bytes because passed = record { same_state = refl; same_outputs = refl; same_age = refl; answers = λ k. cc }
drop-leaves (OfSlave ss) e bytes because passed = record { same_state = refl; same_outputs = refl; same_age = refl; answers = λ k. cc }

contents-kept : (s : Setup) (e : List Deed) (bytes : List ℕ) (because : Dropped) (passed : Bool) (c : Command) (f : Frame) → contents s (dropping bytes because passed ∷ e) c f ≡ contents s e c f
contents-kept s e bytes because passed c f = grind arith

fault-kept : (s : Setup) (e : List Deed) (bytes : List ℕ) (because : Dropped) (passed : Bool) (f : SessionFrameView) → fault_after s (dropping bytes because passed ∷ e) f ≡ fault_after s e f
fault-kept (OfMaster ms) e bytes because passed f = refl
fault-kept (OfSlave ss) e bytes because passed f = refl

by-fault : (s : Setup) (e : List Deed) (bytes : List ℕ) (because : Dropped) (passed : Bool) (f : SessionFrameView) (o : Option Code) → judged_session s (dropping bytes because passed ∷ e) f o ≡ judged_session s e f o
by-fault s e bytes because passed f None = ap (judged_contents f.command f.frame.load) (contents-kept s e bytes because passed f.command f.frame)
by-fault s e bytes because passed f (Some found) = refl

judged-kept : (s : Setup) (e : List Deed) (bytes : List ℕ) (because : Dropped) (passed : Bool) (o : Opened) → judged s (dropping bytes because passed ∷ e) o ≡ judged s e o
judged-kept s e bytes because passed (opened_as.OfSession f) =
    ap (judged_session s (dropping bytes because passed ∷ e) f) (fault-kept s e bytes because passed f) ∙ by-fault s e bytes because passed f (fault_after s e f)
judged-kept s e bytes because passed (opened_as.Drop why) = refl
judged-kept s e bytes because passed (opened_as.Refuse found) = refl
judged-kept s e bytes because passed (opened_as.ResetFrame said f) = refl

verdict-kept : (s : Setup) (e : List Deed) (bytes : List ℕ) (because : Dropped) (passed : Bool) → verdict s (dropping bytes because passed ∷ e) bytes ≡ verdict s e bytes
verdict-kept s e bytes because passed = judged-kept s e bytes because passed _

-- bytes whose next delivery leaves an end as it is
data IsSettled (e : List Deed) (bytes : List ℕ) : Setup → Type 0 where
  OtherLength : (s : Setup) → length bytes ≢ frame_len (receives s) → IsSettled e bytes s
  KeptLast : (s : Setup) → length bytes ≡ frame_len (receives s) → kept (since e) ≡ Some bytes → IsSettled e bytes s
  FailsInReset : (s : Setup) (passed : Bool) (found : Code) → state_of s e ≡ state.Reset → verdict s e bytes ≡ failed_with passed found → IsSettled e bytes s
  OtherReset : (ms : MasterSettings) (load : List ℕ) → state_of (OfMaster ms) e ≡ state.Reset → IsResetFrame (OfMaster ms) e bytes load → first_of load ≢ 0 → IsSettled e bytes (OfMaster ms)
  Rejoins : (ss : SlaveSettings) (load : List ℕ) → state_of (OfSlave ss) e ≡ state.Reset → IsResetFrame (OfSlave ss) e bytes load → IsSettled e bytes (OfSlave ss)

left-by : (s : Setup) (e : List Deed) (bytes : List ℕ) (because : Dropped) (passed : Bool) → did_on s e (move.Deliver bytes) ≡ record (dropped because) { passed = passed } → LeavesEnd s (step s e (move.Deliver bytes)) e
left-by s e bytes because passed h = subst (λ (d : Did). LeavesEnd s (deed_of s e (move.Deliver bytes) d) e) (sym h) (drop-leaves s e bytes because passed)

other-length : (s : Setup) (e : List Deed) (bytes : List ℕ) → length bytes ≢ frame_len (receives s) → did_on s e (move.Deliver bytes) ≡ dropped why.Length
other-length s e bytes h = search (rules, ne_eqb)

fails-in-reset : (s : Setup) (passed : Bool) (found : Code) (now : State) (v : Verdict) → now ≡ state.Reset → v ≡ failed_with passed found → on_verdict now s v ≡ record (dropped why.InReset) { passed = passed }
fails-in-reset s false found now v h k = ap₂ (λ (now : State) (v : Verdict). on_verdict now s v) h k
fails-in-reset s true found now v h k = ap₂ (λ (now : State) (v : Verdict). on_verdict now s v) h k

rejoin-leaves : (ss : SlaveSettings) (e : List Deed) (bytes load : List ℕ) → IsRun (OfSlave ss) e → state_of (OfSlave ss) e ≡ state.Reset → LeavesEnd (OfSlave ss) (deed (move.Deliver bytes) (takes_frame command.Reset load) (reset_frame 0 (sends (OfSlave ss)))) e
rejoin-leaves ss e bytes load run now =
    record {
      same_state = sym now;
      same_outputs = sym (fail_safe (OfSlave ss) e run (λ k. let c : state.Data ≡ state.Reset = sym k ∙ now in cc));
      same_age = sym (no_age_in_reset ss e now);
      answers = λ k. record { by_slave = tt; in_reset = now; load = load; takes = refl; answer = refl };
    }

leaves : (s : Setup) (e : List Deed) (bytes : List ℕ) → IsRun s e → IsSettled e bytes s → LeavesEnd s (step s e (move.Deliver bytes)) e
leaves s e bytes run (OtherLength _ h) = left-by s e bytes why.Length false (other-length s e bytes h)
leaves s e bytes run (KeptLast _ h k) = left-by s e bytes why.Repeat false (repeat_dropped s e bytes h k)
leaves s e bytes run (FailsInReset _ passed found now v) = left-by s e bytes why.InReset passed (fails-in-reset s passed found (state_of s e) (verdict s e bytes) now v)
leaves s e bytes run (OtherReset ms load now frame other) =
    left-by (OfMaster ms) e bytes why.InReset false
    (ap₂ (λ (now : State) (v : Verdict). on_verdict now (OfMaster ms) v) now (reset_verdict (OfMaster ms) e bytes load frame)
    ∙ ap (λ (b : Bool). if b then takes_frame command.Reset load else dropped why.InReset) (ne_eqb (first_of load) 0 other))
leaves s e bytes run (Rejoins ss load now frame) =
    subst (λ (d : Did). LeavesEnd (OfSlave ss) (deed_of (OfSlave ss) e (move.Deliver bytes) d) e)
    (sym (ap₂ (λ (now : State) (v : Verdict). on_verdict now (OfSlave ss) v) now (reset_verdict (OfSlave ss) e bytes load frame)))
    (rejoin-leaves ss e bytes load run now)

-- a delivery leaves its bytes settled, or it takes the end to state Reset
abbrev ComesToRest : Setup → List Deed → Deed → List ℕ → Type 0
ComesToRest s e x bytes = IsSettled (x ∷ e) bytes s ⊎ ((state_of s e ≢ state.Reset) × (state_of s (x ∷ e) ≡ state.Reset))

reset-after : (s : Setup) (e : List Deed) (bytes : List ℕ) (d : Did) (n : ℕ) → state_of s (deed (move.Deliver bytes) d (reset_frame n (sends s)) ∷ e) ≡ state.Reset
reset-after (OfMaster ms) e bytes d n = refl
reset-after (OfSlave ss) e bytes d n = refl

-- a frame that was taken and answered within a session is kept
kept-taken : (s : Setup) (e : List Deed) (bytes load : List ℕ) (c : Command) (f : List ℕ) → length bytes ≡ frame_len (receives s) → has_command command.Reset f ≡ false → ComesToRest s e (deed (move.Deliver bytes) (takes_frame c load) f) bytes
kept-taken s e bytes load c f h k = inl (KeptLast s h (ap (λ (b : Bool). kept (if b then [] else with_answer bytes c load f (since e))) k))

kept-exchange : (s : Setup) (e : List Deed) (bytes load : List ℕ) (c : Command) (f made : List ℕ) (next : State) → IsExchange s e bytes load c f made next → ComesToRest s e (deed (move.Deliver bytes) (takes_frame c load) f) bytes
kept-exchange s e bytes load c f made next x = kept-taken s e bytes load c f x.valid.is_read.has_length x.in_session.in_session

by-taking : (s : Setup) (e : List Deed) (bytes load : List ℕ) (c : Command) (f : List ℕ) → Taking e bytes load s c f → ComesToRest s e (deed (move.Deliver bytes) (takes_frame c load) f) bytes
by-taking s e bytes load c f (SlaveRejoins ss now none frame) = inl (Rejoins ss load refl (reset-stays (OfSlave ss) e _ bytes load (λ k. cc) frame))
by-taking s e bytes load c f (SlaveStarts ss _ now none x) = kept-exchange (OfSlave ss) e bytes load c f _ _ x
by-taking s e bytes load c f (SlaveGoesOn ss _ _ is now part x) = kept-exchange (OfSlave ss) e bytes load c f _ _ x
by-taking s e bytes load c f (SlaveNextPhase ss before _ _ is now whole x) = kept-exchange (OfSlave ss) e bytes load c f _ _ x
by-taking s e bytes load c f (SlaveFirstData ss _ _ is now whole x) = kept-exchange (OfSlave ss) e bytes load c f _ _ x
by-taking s e bytes load c f (SlaveMoreData ss _ _ is now whole x) = kept-exchange (OfSlave ss) e bytes load c f _ _ x
by-taking s e bytes load c f (MasterStarts ms _ now none frame zero made sent after) = kept-taken (OfMaster ms) e bytes load c f frame.is_read.has_length sent.in_session
by-taking s e bytes load c f (MasterGoesOn ms _ _ is now part x) = kept-exchange (OfMaster ms) e bytes load c f _ _ x
by-taking s e bytes load c f (MasterNextPhase ms _ next _ is now whole x) = kept-exchange (OfMaster ms) e bytes load c f _ _ x
by-taking s e bytes load c f (MasterFirstData ms _ now whole x) = kept-exchange (OfMaster ms) e bytes load c f _ _ x
by-taking s e bytes load c f (MasterMoreData ms _ _ is now x) = kept-exchange (OfMaster ms) e bytes load c f _ _ x

drops-reset : (s : Setup) (e : List Deed) (bytes load : List ℕ) → IsMaster s → state_of s e ≡ state.Reset → IsResetFrame s e bytes load → first_of load ≢ 0 → IsSettled (dropping bytes why.InReset false ∷ e) bytes s
drops-reset (OfMaster ms) e bytes load is now frame other = OtherReset ms load now (reset-stays (OfMaster ms) e _ bytes load frame.is_read.is_new frame) other
drops-reset (OfSlave ss) e bytes load is now frame other = absurd is

comes-to-rest : (s : Setup) (e : List Deed) (m : Move) (d : Did) (f : List ℕ) → Reaction s e m d f → m ≡ move.Deliver (delivered m) → ComesToRest s e (deed m d f) (delivered m)
comes-to-rest s e m d f (DropsLength bytes other) h = inl (OtherLength s other)
comes-to-rest s e m d f (DropsRepeat bytes long last now) h = inl (KeptLast s long last)
comes-to-rest s e m d f (DropsInReset bytes passed found now v fails) h = inl (FailsInReset s passed found (state-kept s e bytes why.InReset passed ∙ now) (verdict-kept s e bytes why.InReset passed ∙ v))
comes-to-rest s e m d f (DropsReset bytes load is now frame other) h = inl (drops-reset s e bytes load is now frame other)
comes-to-rest s e m d f (Refuses bytes passed found now v fails) h = inr (now, reset-after s e bytes d found.0)
comes-to-rest s e m d f (PeerResets bytes load now frame) h = inr (now, reset-after s e bytes d 0)
comes-to-rest s e m d f (Answers bytes load c answer taken) h = by-taking s e bytes load c f taken
comes-to-rest s e m d f _ h = absurd (cc h)

-- after two deliveries the bytes are settled
settled-twice : (s : Setup) (e : List Deed) (bytes : List ℕ) → IsRun s (once_more s bytes e) → ComesToRest s e (step s e (move.Deliver bytes)) bytes → ComesToRest s (once_more s bytes e) (step s (once_more s bytes e) (move.Deliver bytes)) bytes
    → IsSettled (once_more s bytes (once_more s bytes e)) bytes s
settled-twice s e bytes run first (inl settled) = settled
settled-twice s e bytes run (inl settled) (inr (n, r)) = absurd (n (sym (leaves s (once_more s bytes e) bytes run settled).same_state ∙ r))
settled-twice s e bytes run (inr (m, k)) (inr (n, r)) = absurd (n k)

pub third_leaves : (s : Setup) (e : List Deed) (bytes : List ℕ) → IsRun s e
    → LeavesEnd s (step s (once_more s bytes (once_more s bytes e)) (move.Deliver bytes)) (once_more s bytes (once_more s bytes e))
third_leaves s e bytes run =
    let e1 : List Deed = once_more s bytes e in
    let e2 : List Deed = once_more s bytes e1 in
    let run1 : IsRun s e1 = (record { proper = tt; stepped = refl }, run) in
    let run2 : IsRun s e2 = (record { proper = tt; stepped = refl }, run1) in
    let first : ComesToRest s e (step s e (move.Deliver bytes)) bytes = comes-to-rest s e (move.Deliver bytes) _ _ (reacts s e (move.Deliver bytes) run tt) refl in
    let second : ComesToRest s e1 (step s e1 (move.Deliver bytes)) bytes = comes-to-rest s e1 (move.Deliver bytes) _ _ (reacts s e1 (move.Deliver bytes) run1 tt) refl in
    leaves s e2 bytes run2 (settled-twice s e bytes run1 first second)
