-- The frames that an end sends: how they begin, and what they carry.
use Rattle.exchange_model.proofs.Common.{Command, Deed, IsRun, MasterSettings, OfMaster, OfSlave, Setup, SlaveSettings, Taking, answer_is, command_byte, command_in, command_of, conn_id, connection_payload, download_frame, frame_of, held, is_data, is_guarded_command, length-replicate, length-take, offer, offer_len, one_byte, padded, padded_len, pairs, parameter_payload, pay, phase_of, phase_of_frame, phase_of_known, piece, piece_len, pieces, read_back, received, sealed_next, sends, session_id, since, slave_answer, with_data, with_piece}
use Rattle.std.proofs.Common.{◌≡◌, ◌≢◌, ℕ, ◌≤◌, List, [], ◌∷◌, length, take, replicate, Bool, true, false, Some, ◌==◌, if◌then◌else◌, refl, sym, ap, subst, ◌∙◌, arith}
use Rattle.fsoe_base.specs.declared.command.Command.TheVariants as command

one-head : (b : ℕ) (bytes : List ℕ) (c : Command) → command_of (one_byte b bytes).cmd ≡ Some c → command_of b ≡ Some c
one-head b bytes c h = grind arith

pairs-head : (b : ℕ) (bytes : List ℕ) (c : Command) → command_of (pairs b bytes).cmd ≡ Some c → command_of b ≡ Some c
pairs-head b (d ∷ d' ∷ []) c h = h
pairs-head b (d ∷ d' ∷ x ∷ x' ∷ bytes) c h = pairs-head b bytes c h
pairs-head b _ c h = cc

frame-head : (one : Bool) (b : ℕ) (bytes : List ℕ) (c : Command) → command_of (if one then one_byte b bytes else pairs b bytes).cmd ≡ Some c → command_of b ≡ Some c
frame-head true b bytes c h = one-head b bytes c h
frame-head false b bytes c h = pairs-head b bytes c h

-- the command that a frame is read with is that of its first byte
pub head_is : (l : ℕ) (bytes : List ℕ) (c : Command) → command_of (frame_of l bytes).cmd ≡ Some c → command_in bytes ≡ Some c
head_is l [] c h = cc
head_is l (b ∷ bytes) c h = frame-head (l == 1) b bytes c h

-- what the command of a frame says
pub phase_by : (bytes : List ℕ) (c : Command) → command_in bytes ≡ Some c → phase_of_frame bytes ≡ phase_of c
phase_by bytes c h = ap phase_of_known h

-- a frame with this command and load
pub record IsFrame (l : ℕ) (c : Command) (load f : List ℕ) : Type 0 where
  pub rest : List ℕ
  pub is : f ≡ command_byte c ∷ rest
  pub carries : (frame_of l f).load ≡ load

pub command_back : (c : Command) → command_of (command_byte c) ≡ Some c
command_back c = grind arith

pub command_framed : (l : ℕ) (c : Command) (load f : List ℕ) → IsFrame l c load f → command_in f ≡ Some c
command_framed l c load f h = ap command_in h.is ∙ command_back c

pub phase_framed : (l : ℕ) (c : Command) (load f : List ℕ) → IsFrame l c load f → phase_of_frame f ≡ phase_of c
phase_framed l c load f h = phase_by f c (command_framed l c load f h)

-- the next frame of a session
pub sealed_frame : (s : Setup) (e : List Deed) (c : Command) (load : List ℕ) → length load ≡ sends s → IsFrame (sends s) c load (sealed_next s e c load)
sealed_frame s e c load h = record { rest = _; is = refl; carries = ap (λ f. f.load) (read_back s (since e) (if is_guarded_command c then conn_id s e else 0) c load h) }

pub piece_frame : (s : Setup) (e : List Deed) (c : Command) (p : List ℕ) → length p ≤ sends s → IsFrame (sends s) c (padded p (sends s)) (with_piece s e c p)
piece_frame s e c p h = sealed_frame s e c (padded p (sends s)) (padded_len p (sends s) h)

-- a piece is no longer than a frame's safe data
pub piece_fits : (s : Setup) → piece_len s ≤ sends s
piece_fits s = grind arith

pub front_fits : (s : Setup) (p : List ℕ) → length (take (piece_len s) p) ≤ sends s
front_fits s p = let a : piece_len s ≤ sends s = piece_fits s in omega (arith, length-take (piece_len s) p)

-- the data frame of an end
pub data IsData (s : Setup) (e : List Deed) (f : List ℕ) : Type 0 where
  Zeros : held e ≡ true → IsFrame (sends s) command.FailSafeData (replicate (sends s) 0) f → IsData s e f
  Offers : held e ≡ false → IsFrame (sends s) command.ProcessData (offer s e) f → IsData s e f

data-head : (s : Setup) (e : List Deed) (h : Bool) → length (offer s e) ≡ sends s → held e ≡ h
    → IsData s e (if h then sealed_next s e command.FailSafeData (replicate (sends s) 0) else sealed_next s e command.ProcessData (offer s e))
data-head s e true k h = Zeros h (sealed_frame s e command.FailSafeData (replicate (sends s) 0) (length-replicate (sends s) 0))
data-head s e false k h = Offers h (sealed_frame s e command.ProcessData (offer s e) k)

data_framed : (s : Setup) (e : List Deed) → length (offer s e) ≡ sends s → IsData s e (with_data s e)
data_framed s e k = data-head s e (held e) k refl

-- what a slave sends on a frame of a session
pub data SlaveSends (ss : SlaveSettings) (e : List Deed) (c : Command) (f : List ℕ) : Type 0 where
  Echoes : (load : List ℕ) → is_data c ≡ false → IsFrame (sends (OfSlave ss)) c load f → SlaveSends ss e c f
  Gives : is_data c ≡ true → IsData (OfSlave ss) e f → SlaveSends ss e c f

slave-gives : (ss : SlaveSettings) (e : List Deed) (c : Command) (load : List ℕ) → length (offer (OfSlave ss) e) ≡ sends (OfSlave ss) → c ≢ command.Reset → SlaveSends ss e c (slave_answer ss e c load)
slave-gives ss e command.Reset load k n = absurd (n refl)
slave-gives ss e command.Session load k n = Echoes _ refl (piece_frame (OfSlave ss) e command.Session _ (front_fits (OfSlave ss) _))
slave-gives ss e command.Connection load k n = Echoes _ refl (piece_frame (OfSlave ss) e command.Connection _ (front_fits (OfSlave ss) load))
slave-gives ss e command.Parameter load k n = Echoes _ refl (piece_frame (OfSlave ss) e command.Parameter _ (front_fits (OfSlave ss) load))
slave-gives ss e _ load k n = Gives refl (data_framed (OfSlave ss) e k)

pub slave_sends : (ss : SlaveSettings) (e : List Deed) (bytes load : List ℕ) (c : Command) (f : List ℕ) → IsRun (OfSlave ss) e → Taking e bytes load (OfSlave ss) c f → c ≢ command.Reset → SlaveSends ss (received bytes c load e) c f
slave_sends ss e bytes load c f r taking n = subst (SlaveSends ss (received bytes c load e) c) (sym (answer_is e bytes load (OfSlave ss) c f taking)) (slave-gives ss (received bytes c load e) c load (offer_len (OfSlave ss) e r) n)

-- what a master downloads
abbrev pub connection_of : MasterSettings → List ℕ
connection_of ms = connection_payload ms.conn ms.address

abbrev pub parameters_of : MasterSettings → List ℕ
parameters_of ms = parameter_payload ms.watchdog ms.profile ms.app

-- a master's frame with the k-th piece of a payload
abbrev pub IsPiece : MasterSettings → Command → List ℕ → ℕ → List ℕ → Type 0
IsPiece ms c payload k f = IsFrame (sends (OfMaster ms)) c (padded (piece payload (piece_len (OfMaster ms)) k) (sends (OfMaster ms))) f

abbrev pub pieces_of : MasterSettings → List ℕ → ℕ
pieces_of ms payload = pieces payload (piece_len (OfMaster ms))

-- the frame with a piece of a payload, of a master that takes a frame
pub piece_sent : (ms : MasterSettings) (e : List Deed) (bytes load : List ℕ) (c next : Command) (k : ℕ) (f : List ℕ) → f ≡ download_frame ms (received bytes c load e) next k
    → IsPiece ms next (pay ms (session_id (OfMaster ms) (received bytes c load e)) (phase_of next)) k f
piece_sent ms e bytes load c next k f made = subst (IsPiece ms next _ k) (sym made) (piece_frame (OfMaster ms) (received bytes c load e) next _ (front_fits (OfMaster ms) _))

-- the data frame of a master that takes a frame
pub data_sent : (ms : MasterSettings) (e : List Deed) (bytes load : List ℕ) (c : Command) (f : List ℕ) → IsRun (OfMaster ms) e → f ≡ with_data (OfMaster ms) (received bytes c load e) → IsData (OfMaster ms) (received bytes c load e) f
data_sent ms e bytes load c f r made = subst (IsData (OfMaster ms) (received bytes c load e)) (sym made) (data_framed (OfMaster ms) (received bytes c load e) (offer_len (OfMaster ms) e r))
