-- What a slave uploads with the frames that it takes, and what it has tested of it.
use Rattle.exchange_model.proofs.Common.{Command, Deed, Did, IsRun, Move, OfSlave, Reaction, SlaveSettings, Taking, command_in, contents_fault, exchange_of, frame_of, has_command, id_len, number_at, phase_of, piece_len, reacted, receives, rule_len, since, state_of, takes_frame, uploaded, with_answer, word_is}
use Rattle.std.proofs.Common.{◌≡◌, ◌≢◌, ℕ, ◌≤◌, List, [], ◌∷◌, ◌++◌, length, true, false, Some, None, arith, rules}
use Rattle.fsoe_base.specs.declared.command.State.TheVariants as state
use Rattle.fsoe_base.specs.declared.command.Command.TheVariants as command
use Rattle.param_load.specs.declared.contents.Expected.TheVariants as expected
use Rattle.param_load.specs.declared.entry.Move.TheVariants as move
use Rattle.end_model.proofs.Counted.{stays}
use Rattle.exchange_model.proofs.Joint.Joint.{Uploads}
use Rattle.exchange_model.proofs.Alone.Pieces.{deed}

pub since_on : (x : Deed) (e : List Deed) → has_command command.Reset x.sent ≡ false → since (x ∷ e) ≡ x ∷ since e
since_on x e h = simp h

-- a slave that takes a frame of a session uploads its part, and is in the frame's phase
pub uploads_next : (ss : SlaveSettings) (e : List Deed) (bytes load f : List ℕ) (c : Command) → c ≢ command.Reset → has_command command.Reset f ≡ false → command_in bytes ≡ Some c → (frame_of (receives (OfSlave ss)) bytes).load ≡ load
    → Uploads (receives (OfSlave ss)) (piece_len (OfSlave ss)) bytes (λ phase. uploaded ss phase e) (λ phase. uploaded ss phase (deed (move.Deliver bytes) (takes_frame c load) f ∷ e))
uploads_next ss e bytes load f c h k l m = grind arith

pub state_next : (ss : SlaveSettings) (e : List Deed) (bytes load f : List ℕ) (c : Command) → c ≢ command.Reset → has_command command.Reset f ≡ false → state_of (OfSlave ss) (deed (move.Deliver bytes) (takes_frame c load) f ∷ e) ≡ phase_of c
state_next ss e bytes load f c h k = grind arith

-- what the tests tell of uploaded parameters: they begin with the length of the slave's profile, and have its word
pub record Tested (ss : SlaveSettings) (u : List ℕ) : Type 0 where
  pub version : 2 ≤ length u → number_at 0 u ≡ id_len ss.profile
  pub word : 6 ≤ length u → word_is ss.profile u ≡ true

tested-next : (ss : SlaveSettings) (u p rest : List ℕ) → Tested ss u → contents_fault (expected.Parameter ss.most (rule_len ss.rule) ss.profile) ss.rule (length u) (u ++ p) rest ≡ None → Tested ss (u ++ p)
tested-next ss u p rest h k = search (rules, stays)

tested-taken : (ss : SlaveSettings) (e : List Deed) (bytes load : List ℕ) (c : Command) (f : List ℕ) → Tested ss (uploaded ss state.Parameter e) → Taking e bytes load (OfSlave ss) c f
    → Tested ss (uploaded ss state.Parameter (with_answer bytes c load f e))
tested-taken ss e bytes load c f h k = grind (arith, exchange_of, tested-next)

tested-kept : (ss : SlaveSettings) (e : List Deed) (m : Move) (d : Did) (f : List ℕ) → Tested ss (uploaded ss state.Parameter e) → Reaction (OfSlave ss) e m d f → Tested ss (uploaded ss state.Parameter (deed m d f ∷ e))
tested-kept ss e m d f h k = search (rules, tested-taken)

-- in every run of a slave what it uploaded stands tested
pub tested : (ss : SlaveSettings) (e : List Deed) → IsRun (OfSlave ss) e → Tested ss (uploaded ss state.Parameter e)
tested ss [] r = record { version = λ k. absurd (omega (arith, k)); word = λ k. absurd (omega (arith, k)) }
tested ss (x ∷ e) r = tested-kept ss e x.what x.did x.sent (tested ss e r.1) (reacted (OfSlave ss) x e r)
