-- The codes that an end finds and sends are at most 0Bh.
use Rattle.end_model.proofs.Common.{Answers, Cause, Code, Command, Deed, Did, Expires, Fails, Frame, IsProper, IsRun, Move, PeerResets, Reaction, Refuses, ResetsItself, SendsAgain, Setup, SlaveSettings, State, Taking, WrongContents, WrongReset, code, contents, data_fault, fails, has_command, option_or, parts, rule_len, slave_fault, slave_upload_fault, step}
use Rattle.std.proofs.Common.{◌≡◌, ◌≤◌, ℕ, Bool, true, List, Option, Some, IfSome, IfErr, Result, if◌then◌else◌, refl, subst, arith, rules}
use Rattle.fsoe_base.specs.declared.command.State.TheVariants as state
use Rattle.fsoe_base.specs.declared.command.Command.TheVariants as command
use Rattle.fsoe_base.specs.declared.did.Cause.TheVariants as cause
use Rattle.seq_chain.specs.Reset.{reset_view}
use Rattle.param_load.specs.declared.contents.Expected.{Expected}
use Rattle.param_load.specs.declared.contents.Expected.TheVariants as expected
use Rattle.end_model.specs.Codes.{IsOwnReset}
use Rattle.end_model.proofs.SoundRuns.{reacts}
use Rattle.end_model.proofs.Taken.{answer_is}

-- a code, if a test fails with one, is at most 0Bh
record IsLow (o : Option Code) : Type 0 where
  low : IfSome o (λ found. found.0 ≤ 0x0B)

-- the same of a Reset frame that is read
record IsLowErr (r : Result Code Code) : Type 0 where
  low : IfErr r (λ found. found.0 ≤ 0x0B)

-- the same of a reset
abbrev IsLowCause : Option Cause → Type 0
IsLowCause (Some (cause.Found found)) = found.0 ≤ 0x0B
IsLowCause _ = Unit {0}

fails-with : (b : Bool) (n : ℕ) (next : Option Code) → n ≤ 0x0B → IsLow next → IsLow (if b then Some (code n) else next)
fails-with b n next h k = grind arith

first-low : (first second : Option Code) → IsLow first → IsLow second → IsLow (option_or first second)
first-low first second h k = grind arith

low-upload : (ss : SlaveSettings) (e : List Deed) (phase : State) (expects : Expected) (load : List ℕ) → IsLow (slave_upload_fault ss e phase expects load)
low-upload ss e phase expects load = search (rules, fails-with, first-low)

low-data : (c : Command) (load : List ℕ) → IsLow (data_fault c load)
low-data c load = grind arith

low-slave : (ss : SlaveSettings) (e : List Deed) (c : Command) (f : Frame) → IsLow (slave_fault ss e c f)
low-slave ss e command.Session f = low-upload ss e state.Session (expected.Session ss.profile) f.load
low-slave ss e command.Connection f = low-upload ss e state.Connection (expected.Connection f.conn ss.address) f.load
low-slave ss e command.Parameter f = low-upload ss e state.Parameter (expected.Parameter ss.most (rule_len ss.rule) ss.profile) f.load
low-slave ss e c f = low-data c f.load

low-contents : (s : Setup) (e : List Deed) (c : Command) (f : Frame) → IsLow (contents s e c f)
low-contents s e c f = search (rules, low-slave)

low-view : (f : Frame) → IsLowErr (reset_view f)
low-view f = search rules

low-test : (s : Setup) (e : List Deed) (bytes : List ℕ) (passed : Bool) (found : Code) → Fails s e bytes passed found → found.0 ≤ 0x0B
low-test s e bytes passed found (WrongReset _ is h) = (subst IsLowErr h (low-view (parts s bytes))).low
low-test s e bytes passed found (WrongContents c _ n is h i j k) = (subst IsLow k (low-contents s e c (parts s bytes))).low
low-test s e bytes passed found _ = omega arith

low-cause : (s : Setup) (e : List Deed) (m : Move) (d : Did) (f : List ℕ) → Reaction s e m d f → IsLowCause d.reset
low-cause s e m d f h = search (rules, low-test)

-- an answer is of a session, or the slave's Reset frame with code 0
resets-answer : (e : List Deed) (bytes load : List ℕ) (s : Setup) (c : Command) (f : List ℕ) → Taking e bytes load s c f → has_command command.Reset f ≡ true → IsOwnReset s f
resets-answer e bytes load s c f h k = search (rules, answer_is)

resets-low : (s : Setup) (e : List Deed) (m : Move) (d : Did) (f : List ℕ) → Reaction s e m d f → has_command command.Reset f ≡ true → IsOwnReset s f
resets-low s e m d f (Expires now old) h = record { said = 0x05; most = omega arith; is = refl }
resets-low s e m d f (SendsAgain master now old) h = record { said = 0; most = omega arith; is = refl }
resets-low s e m d f ResetsItself h = record { said = 0; most = omega arith; is = refl }
resets-low s e m d f (Refuses bytes passed found now fails test) h = record { said = found.0; most = low-test s e bytes passed found test; is = refl }
resets-low s e m d f (PeerResets bytes load now frame) h = record { said = 0; most = omega arith; is = refl }
resets-low s e m d f (Answers bytes load c answer taken) h = resets-answer e bytes load s c answer taken h
resets-low s e m d f _ h = cc

-- a code that an end found
pub found_low : (s : Setup) (e : List Deed) (event : Move) (found : Code) → IsRun s e → IsProper s event → (step s e event).did.reset ≡ Some (cause.Found found) → found.0 ≤ 0x0B
found_low s e event found r proper h = subst IsLowCause h (low-cause s e event (step s e event).did (step s e event).sent (reacts s e event r proper))

-- the code of a Reset frame that an end sends
pub sent_low : (s : Setup) (e : List Deed) (event : Move) → IsRun s e → IsProper s event → has_command command.Reset (step s e event).sent ≡ true → IsOwnReset s (step s e event).sent
sent_low s e event r proper h = resets-low s e event (step s e event).did (step s e event).sent (reacts s e event r proper) h
