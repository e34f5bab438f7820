-- A frame to which no row of the table applies is the one that is sent next by ends with the settings that are read
-- off.
use Rattle.trace_diag.proofs.Common.{AreBytes, Before, Chain, Command, End, Frame, Lengths, MasterSettings, Noted, Partner, State, before, bytes_of, cases_lt, command_byte, common_steps, conn_holds, count_groups, crcs_due, eqb-true, ext_get_or, first_conn, first_differing, first_failing, frame_len, frame_of, frames_from, get_or-append-add, get_or-take, groups_long, has_command, is_data, is_data_frame, is_length, le-ltb, length-append, length-take, length_of, option_or, padded, payload_from, payload_holds, phase_due, phase_of, phase_of_frame, piece_holds, trace_piece_len, same_end, whole, width, wrong_byte, wrong_in_piece}
use Rattle.std.proofs.Common.{◌≡◌, ◌==◌, ℕ, ◌+◌, ◌<◌, ◌≤◌, List, ◌∷◌, ◌++◌, length, take, replicate, Bool, true, Option, Some, None, IsTrue, refl, sym, ap, ap₂, subst, ◌∙◌, arith, inl, inr, if◌then◌else◌}
use Rattle.fsoe_base.specs.declared.command.Command.TheVariants as command
use Rattle.fsoe_base.specs.declared.command.End.TheVariants as end_name
use Rattle.fsoe_base.specs.declared.command.State.TheVariants as state
use Rattle.trace_diag.proofs.Answering.{IsMade}
use Rattle.trace_diag.proofs.Frames.{laid_out, read_as, same_parts}
use Rattle.trace_diag.proofs.Heads.{head_of, HasHead}
use Rattle.trace_diag.proofs.NextFrames.{NextFrame}
use Rattle.trace_diag.proofs.NoField.{IsRight}
use Rattle.trace_diag.proofs.NoneApplies.{at, none_fails, same_where}
use Rattle.trace_diag.proofs.PayloadBytes.{valid_at}
use Rattle.trace_diag.proofs.PayloadRows.{due_is, IsFrom}
use Rattle.trace_diag.proofs.RowsHold.{own_place, RowsHold}
use Rattle.trace_diag.proofs.SentRows.{in_reset, payload_of, piece_at, zero_byte, CarriesOwn, IsFirst, IsNext}
use Rattle.trace_diag.proofs.SettingsRead.{payload_read, Read}
use Rattle.trace_diag.proofs.Sets.{CarriesSet}

-- a laid out frame of the right length is the layout of what is read of it
made-back : (l : ℕ) (g : List ℕ) → IsTrue (is_length l) → IsMade g → length g ≡ frame_len l → g ≡ bytes_of (frame_of l g)
made-back l g h k m = grind (arith, common_steps, groups_long, count_groups, read_as)

-- a frame is sent next where its parts are those of the one that is
pub same_bytes : (l : ℕ) (x g : List ℕ) → IsTrue (is_length l) → length x ≡ frame_len l → AreBytes x → IsMade g → length g ≡ frame_len l → frame_of l x ≡ frame_of l g → x ≡ g
same_bytes l x g valid long are m long' e = laid_out l x (frame_of l g) valid long are e ∙ sym (made-back l g valid m long')

-- past a piece each byte is 0
abbrev ZeroFrom : ℕ → List ℕ → Type 0
ZeroFrom c load = (i : ℕ) → c ≤ i → i < length load → at load i ≡ 0

past-piece : (c from : ℕ) (holds : ℕ → ℕ → Bool) (load : List ℕ) → first_failing (piece_holds c holds from) 0 load ≡ None → ZeroFrom c load
past-piece c from holds load none i past within =
    let here : i ≡ 0 + i = omega arith in
    eqb-true (at load i) 0
    (ap (λ (t : Bool). if t then holds (from + i) (at load i) else at load i == 0) (sym (le-ltb i c past))
    ∙ (ap (λ (n : ℕ). piece_holds c holds from n (at load i)) here ∙ none_fails (piece_holds c holds from) 0 load none i within))

same-piece : (c : ℕ) (u v : List ℕ) → length u ≡ length v → ZeroFrom c u → ZeroFrom c v → ((i : ℕ) → i < c → i < length u → at u i ≡ at v i) → u ≡ v
same-piece c u v long zeros zeros' each =
    ext_get_or 0 u v long (λ i h. elim (cases_lt i c) [ inl within ↦ each i within h | inr past ↦ zeros i past h ∙ sym (zeros' i past (omega (arith, h, long))) ])

piece-load : (c : ℕ) (k : Before) (phase : State) (f g : Frame) → length f.load ≡ length g.load → wrong_in_piece c k phase f ≡ None → wrong_in_piece c k phase g ≡ None → ((i : ℕ) → i < c → i < length f.load → at f.load i ≡ at g.load i) → f.load ≡ g.load
piece-load c k phase f g long right right' each =
    same-piece c f.load g.load long (past-piece c k.place (payload_holds phase f.conn (k.parameters ++ take c f.load)) f.load right) (past-piece c k.place (payload_holds phase g.conn (k.parameters ++ take c g.load)) g.load right') each

reset-zero : (c : ℕ) (k : Before) (which : End) (f : Frame) → wrong_byte c k which state.Reset f ≡ None → ZeroFrom 0 f.load
reset-zero c k which f none i past within =
    let u : List ℕ = k.parameters ++ take c f.load in
    eqb-true (at f.load i) 0
    (sym (zero_byte c k.place f.conn (0 + i) (at f.load i) u) ∙ none_fails (piece_holds c (payload_holds state.Reset f.conn u) k.place) 0 f.load (sym (in_reset c k which f) ∙ none) i within)

same-long : (u v : List ℕ) (due : ℕ → List ℕ) → length u ≡ length v → first_differing 0 u (due (length u)) ≡ None → first_differing 0 v (due (length v)) ≡ None → u ≡ v
same-long u v due long h k = same_where 0 u v (due (length u)) long h (ap (λ (n : ℕ). first_differing 0 v (due n)) long ∙ k)

-- where no byte of two frames is wrong, their safe data are the same if their piece of a payload is and their data are
same-load : (c : ℕ) (k : Before) (which : End) (cmd : Command) (f g : Frame) → f.cmd ≡ command_byte cmd → g.cmd ≡ command_byte cmd → length f.load ≡ length g.load → wrong_byte c k which (phase_of cmd) f ≡ None → wrong_byte c k which (phase_of cmd) g ≡ None
    → (CarriesOwn which (phase_of cmd) → (i : ℕ) → i < c → i < length f.load → at f.load i ≡ at g.load i) → (cmd ≡ command.ProcessData → f.load ≡ g.load) → f.load ≡ g.load
same-load c k which command.Reset f g is is' long right right' own offered = same-piece 0 f.load g.load long (reset-zero c k which f right) (reset-zero c k which g right') (λ i none. absurd (omega (arith, none)))
same-load c k end_name.Master command.Session f g is is' long right right' own offered = piece-load c k state.Session f g long right right' (own tt)
same-load c k end_name.Slave command.Session f g is is' long right right' own offered = piece-load c k state.Session f g long right right' (own tt)
same-load c k end_name.Master command.Connection f g is is' long right right' own offered = piece-load c k state.Connection f g long right right' (own tt)
same-load c k end_name.Master command.Parameter f g is is' long right right' own offered = piece-load c k state.Parameter f g long right right' (own tt)
same-load c k end_name.Slave command.Connection f g is is' long right right' own offered =
    same-long f.load g.load (padded k.piece) long right right'
same-load c k end_name.Slave command.Parameter f g is is' long right right' own offered =
    same-long f.load g.load (padded k.piece) long right right'
same-load c k which command.FailSafeData f g is is' long right right' own offered =
    same-long f.load g.load (λ n. replicate n 0) long (ap (λ (n : ℕ). if n == 0x36 then None else first_differing 0 f.load (replicate (length f.load) 0)) (sym is) ∙ right)
    (ap (λ (n : ℕ). if n == 0x36 then None else first_differing 0 g.load (replicate (length g.load) 0)) (sym is') ∙ right')
same-load c k which command.ProcessData f g is is' long right right' own offered = offered refl

same-conn : (ms : MasterSettings) (which : End) (p : State) (first : Option ℕ) (m n : ℕ) → conn_holds p first m ≡ true → conn_holds p first n ≡ true → (first ≡ None → IsFirst ms which p n) → (which ≡ end_name.Master → p ≡ state.Connection → first ≡ None → m ≡ ms.conn) → m ≡ n
same-conn ms which p first m n h k is is' = grind arith

same-crcs : (p : State) (chain : Chain) (which : End) (f g : Frame) → f.cmd ≡ g.cmd → f.conn ≡ g.conn → f.load ≡ g.load → crcs_due p chain which f ≡ crcs_due p chain which g
same-crcs p chain which f g h k l = grind arith

-- a frame that is as it must be is the next one
same-next : (ms : MasterSettings) (r : Partner ms) (k : Before) (which : End) (c : Command) (f g : Frame) → IsRight (width ms) k which f → IsNext ms r k which g → k.due ≡ phase_of c → f.cmd ≡ command_byte c → g.cmd ≡ command_byte c → length f.load ≡ length g.load
    → (CarriesOwn which k.due → (i : ℕ) → i < width ms → i < length f.load → at f.load i ≡ at (payload_of ms r which k.due) (k.place + i)) → (which ≡ end_name.Master → k.due ≡ state.Connection → k.conn ≡ None → f.conn ≡ ms.conn)
    → (c ≡ command.ProcessData → f.load ≡ g.load) → f ≡ g
same-next ms r k which c f g right next due is is' long own first offered = same_parts f g cmd load (right.crcs ∙ (same-crcs k.due k.chain which f g cmd conn load ∙ sym next.right.crcs)) conn
  where
    cmd : f.cmd ≡ g.cmd
    cmd = is ∙ sym is'

    conn : f.conn ≡ g.conn
    conn = same-conn ms which k.due k.conn f.conn g.conn right.conn next.right.conn next.first first

    load : f.load ≡ g.load
    load = same-load (width ms) k which c f g is is' long (ap (λ (p : State). wrong_byte (width ms) k which p f) (sym due) ∙ right.bytes) (ap (λ (p : State). wrong_byte (width ms) k which p g) (sym due) ∙ next.right.bytes)
        (λ owns i within there. let here : CarriesOwn which k.due = subst (λ (p : State). CarriesOwn which p) (sym due) owns in own here i within there ∙ sym (piece_at ms r which k.due k g.load i (next.own here) within)) offered

-- a payload with one more frame of its phase
payload-with : (lengths : Lengths) (which : End) (phase : State) (x : Noted) (t : List Noted) → same_end which x.from ≡ true → phase_of_frame x.frame ≡ phase
    → payload_from lengths which phase (x ∷ t) ≡ payload_from lengths which phase t ++ take (trace_piece_len lengths) (frame_of (length_of lengths which) x.frame).load
payload-with lengths which phase x t h k = grind arith

-- the piece of the newest frame is that of the payload
own-read : (ms : MasterSettings) (r : Partner ms) (x : Noted) (t : List Noted) (which : End) (phase : State) → Read ms r (x ∷ t) → same_end which x.from ≡ true → phase_of_frame x.frame ≡ phase → CarriesOwn which phase → (i : ℕ) → i < width ms
    → i < length (frame_of (length_of ms.lengths which) x.frame).load → at (frame_of (length_of ms.lengths which) x.frame).load i ≡ at (payload_of ms r which phase) (length (payload_from ms.lengths which phase t) + i)
own-read ms r x t which phase read mine of-phase own i within there =
    let u : List ℕ = payload_from ms.lengths which phase t in
    let load : List ℕ = (frame_of (length_of ms.lengths which) x.frame).load in
    let all : payload_from ms.lengths which phase (x ∷ t) ≡ u ++ take (width ms) load = payload-with ms.lengths which phase x t mine of-phase in
    let long : length u + i < length (payload_from ms.lengths which phase (x ∷ t)) = omega (arith, within, there, ap (length {A = ℕ}) all, length-append u (take (width ms) load), length-take (width ms) load) in
    sym (get_or-take (width ms) load i 0 within) ∙ (sym (get_or-append-add u (take (width ms) load) i 0) ∙ (ap (λ (v : List ℕ). at v (length u + i)) (sym all) ∙ payload_read ms r (x ∷ t) read which phase own (length u + i) long))

-- the first Connection frame has the connection id that is read off
connection-command : (c : Command) → phase_of c ≡ state.Connection → c ≡ command.Connection
connection-command c h = grind arith

first-read : (ms : MasterSettings) (r : Partner ms) (x : Noted) (t : List Noted) (tail : List ℕ) → Read ms r (x ∷ t) → same_end end_name.Master x.from ≡ true → x.frame ≡ 0x64 ∷ tail → first_conn ms.lengths.master (frames_from end_name.Master t) ≡ None
    → (frame_of ms.lengths.master x.frame).conn ≡ ms.conn
first-read ms r x t tail read mine head none =
    read.conn (frame_of ms.lengths.master x.frame).conn
    (ap (λ (mine : Bool). first_conn ms.lengths.master (if mine then x.frame ∷ frames_from end_name.Master t else frames_from end_name.Master t)) mine
    ∙ ap₂ (λ (o : Option ℕ) (has : Bool). option_or o (if has then Some (frame_of ms.lengths.master x.frame).conn else None)) none (ap (has_command command.Connection) head))

-- what the schedule sets the end to, of the next frame: in Data its command, and its data
abbrev pub SetsData : ℕ → List ℕ → Command → List ℕ → Type 0
SetsData l g c load = is_data c ≡ true → is_data_frame g ≡ true → CarriesSet l g c load

-- the command that is sent is that of the frame
agrees : (a b : Command) (l : ℕ) (g tail load : List ℕ) → phase_of a ≡ phase_of b → g ≡ command_byte a ∷ tail → SetsData l g b load → (is : Bool) → is_data a ≡ is → a ≡ b
agrees a b l g tail load h k m is n = grind arith

data-as-set : (a b : Command) (l : ℕ) (g tail load : List ℕ) → g ≡ command_byte a ∷ tail → SetsData l g b load → a ≡ b → b ≡ command.ProcessData → load ≡ (frame_of l g).load
data-as-set a b l g tail load k m o p = grind arith

-- the newest frame of a trace is the one that is sent
pub sent_same : (ms : MasterSettings) (r : Partner ms) (x : Noted) (t : List Noted) (g : List ℕ) (which : End) → Read ms r (x ∷ t) → RowsHold ms.lengths t → same_end which x.from ≡ true → IsFrom ms.lengths t which x
    → (head : HasHead ms.lengths t (length_of ms.lengths which) x.frame) → SetsData (length_of ms.lengths which) g head.command (frame_of (length_of ms.lengths which) x.frame).load → NextFrame ms r t g which
    → frame_of (length_of ms.lengths which) x.frame ≡ frame_of (length_of ms.lengths which) g
sent_same ms r x t g which read rows mine h head set n =
    same-next ms r (before ms.lengths t) which head.command f (frame_of l g) h.right n.next head.due head.cmd_is (other.cmd_is ∙ ap command_byte agree) ((whole l x.frame (valid_at ms.lengths which) h.long).load ∙ sym (whole l g (valid_at ms.lengths which) n.long).load)
    (λ own i within there. own-read ms r x t which (phase_due ms.lengths t) read mine (sym (due_is ms.lengths t which x h)) own i within there ∙ ap (λ (from : ℕ). at (payload_of ms r which (phase_due ms.lengths t)) (from + i)) (sym (own_place ms.lengths t which (phase_due ms.lengths t) h.turn_is own rows)))
    first
    (data-as-set other.command head.command l g other.tail f.load other.is set agree)
  where
    l : ℕ
    l = length_of ms.lengths which

    f : Frame
    f = frame_of l x.frame

    other : HasHead ms.lengths t l g
    other = head_of ms.lengths t which (record { from = which; frame = g }) (record { turn_is = h.turn_is; long = n.long; right = n.next.right })

    agree : other.command ≡ head.command
    agree = agrees other.command head.command l g other.tail f.load (sym other.due ∙ head.due) other.is set (is_data other.command) refl

    first : which ≡ end_name.Master → phase_due ms.lengths t ≡ state.Connection → first_conn ms.lengths.master (frames_from end_name.Master t) ≡ None → f.conn ≡ ms.conn
    first is connection none =
        ap (λ (e : End). (frame_of (length_of ms.lengths e) x.frame).conn) is
        ∙ first-read ms r x t head.tail read (ap (λ (e : End). same_end e x.from) (sym is) ∙ mine) (head.is ∙ ap (λ (c : Command). command_byte c ∷ head.tail) (connection-command head.command (sym head.due ∙ connection))) none
