-- The bytes of the payloads of a trace: they are bytes, and each frame of a phase brings as many as a piece has.
use Rattle.trace_diag.proofs.Common.{All-head, All-tail, AreBytes, AreOfBytes, End, Lengths, Noted, State, common_steps, eqb-true, first_conn, frame_len, frame_of, has_length, is_length, length_of, list_all, payload_from, phase_of_frame, trace_piece_len, same_end, same_phase}
use Rattle.std.proofs.Common.{◌≡◌, ◌&&◌, ℕ, List, [], ◌∷◌, ◌++◌, length, take, Bool, true, Some, IsTrue, refl, sym, subst, arith, if◌then◌else◌, rules}
use Rattle.seq_chain.proofs.Received.{received_load}

-- each of these frames has its length
abbrev pub AllLong : Lengths → List Noted → Type 0
AllLong lengths t = IsTrue (list_all (has_length lengths) t)

both-true : (a b : Bool) → (a && b) ≡ true → (a ≡ true) × (b ≡ true)
both-true a b h = grind arith

pub all_long : (lengths : Lengths) (x : Noted) (t : List Noted) → AllLong lengths (x ∷ t) → (length x.frame ≡ frame_len (length_of lengths x.from)) × AllLong lengths t
all_long lengths x t h =
    let both = both-true (has_length lengths x) (list_all (has_length lengths) t) h in
    (eqb-true (length x.frame) (frame_len (length_of lengths x.from)) both.0, both.1)

pub valid_at : (lengths : Lengths) (which : End) → IsTrue (is_length (length_of lengths which))
valid_at lengths which = grind arith

pub bytes_append : (u v : List ℕ) → AreBytes u → AreBytes v → AreBytes (u ++ v)
bytes_append u v a b = grind (arith, common_steps)

pub bytes_take : (n : ℕ) (u : List ℕ) → AreBytes u → AreBytes (take n u)
bytes_take n u h = grind (arith, common_steps)

-- the payload with one more frame
abbrev pub grows : Lengths → End → State → Noted → List ℕ → List ℕ
grows lengths which phase x u =
    if same_end which x.from
    then (if same_phase phase (phase_of_frame x.frame) then u ++ take (trace_piece_len lengths) (frame_of (length_of lengths which) x.frame).load else u)
    else u

pub payload_grows : (lengths : Lengths) (which : End) (phase : State) (x : Noted) (t : List Noted) → payload_from lengths which phase (x ∷ t) ≡ grows lengths which phase x (payload_from lengths which phase t)
payload_grows lengths which phase x t = grind arith

-- what holds of a payload holds of it with one more frame too, where it does if the frame is of the phase
pub still_holds : (P : List ℕ → Type 0) (lengths : Lengths) (which : End) (phase : State) (x : Noted) (t : List Noted) → P (payload_from lengths which phase t)
    → (same_end which x.from ≡ true → same_phase phase (phase_of_frame x.frame) ≡ true → P (payload_from lengths which phase t ++ take (trace_piece_len lengths) (frame_of (length_of lengths which) x.frame).load)) → P (payload_from lengths which phase (x ∷ t))
still_holds P lengths which phase x t before more = subst P (sym (payload_grows lengths which phase x t)) (go (same_end which x.from) (same_phase phase (phase_of_frame x.frame)) (payload_from lengths which phase t) (payload_from lengths which phase t ++ take (trace_piece_len lengths) (frame_of (length_of lengths which) x.frame).load) before more)
  where
    go : (mine is : Bool) (u v : List ℕ) → P u → (mine ≡ true → is ≡ true → P v) → P (if mine then (if is then v else u) else u)
    go true true u v before more = more refl refl
    go _ _ u v before more = before

pub load_bytes : (lengths : Lengths) (which : End) (x : Noted) → same_end which x.from ≡ true → length x.frame ≡ frame_len (length_of lengths x.from) → AreBytes x.frame → AreBytes (frame_of (length_of lengths which) x.frame).load
load_bytes lengths which x h k l = search (rules, received_load)

pub payload_bytes : (lengths : Lengths) (which : End) (phase : State) (t : List Noted) → AllLong lengths t → AreOfBytes t → AreBytes (payload_from lengths which phase t)
payload_bytes lengths which phase [] long are = λ i. omega arith
payload_bytes lengths which phase (x ∷ t) long are =
    let before : AreBytes (payload_from lengths which phase t) = payload_bytes lengths which phase t (all_long lengths x t long).1 (All-tail (λ x. AreBytes x.frame) x t are) in
    still_holds (λ u. AreBytes u) lengths which phase x t before
    (λ mine is. bytes_append (payload_from lengths which phase t) _ before (bytes_take (trace_piece_len lengths) _ (load_bytes lengths which x mine (all_long lengths x t long).0 (All-head (λ x. AreBytes x.frame) x t are))))

-- the first Connection frame stays the first
pub conn_stays : (conn l : ℕ) (x : Noted) (frames : List (List ℕ)) (mine : Bool) → first_conn l frames ≡ Some conn → first_conn l (if mine then x.frame ∷ frames else frames) ≡ Some conn
conn_stays conn l x frames mine h = grind arith
