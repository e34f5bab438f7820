-- What a master has sent in its session, by its own frames alone: the pieces of its payloads, in order. Lists of frames
-- are newest first.
use Rattle.exchange_model.proofs.Common.{AfterConnection, AfterSession, Answers, Command, Deed, Did, Expires, IsInSession, IsRun, MasterFirstData, MasterGoesOn, MasterMoreData, MasterNextPhase, MasterSettings, MasterStarts, Move, OfConnection, OfMaster, OfParameter, OfSession, PeerResets, Reaction, Refuses, ResetsItself, SendsAgain, Setup, State, Taking, count_in, frame_of, length-take, own, padded, padded_len, phase_of_frame, phase_sent, piece, piece_len, reacted, sends, since, take-append-add, take-replicate, with_answer}
use Rattle.std.proofs.Common.{◌≡◌, ℕ, suc, zero, ◌+◌, ◌-◌, ◌*◌, ◌≤◌, List, [], ◌∷◌, ◌++◌, length, take, drop, replicate, false, refl, sym, ap, subst, ◌∙◌, arith, rules}
use Rattle.fsoe_base.specs.declared.command.State.TheVariants as state
use Rattle.fsoe_base.specs.declared.command.Command.TheVariants as command
use Rattle.exchange_model.proofs.Joint.Joint.{is_guarded_in, session, carried_by}
use Rattle.exchange_model.proofs.Alone.Framed.{IsFrame, IsData, phase_framed, piece_fits, connection_of, parameters_of, IsPiece, pieces_of, piece_sent, data_sent}

-- the first k pieces of a payload, each filled up with zeros
abbrev pub front : List ℕ → ℕ → ℕ → List ℕ
front p c zero = []
front p c (suc k) = front p c k ++ padded (piece p c (suc k)) c

-- the order of the phases: of n and n' pieces of both payloads, k and k' were sent
abbrev pub InOrder : State → ℕ → ℕ → ℕ → ℕ → Type 0
InOrder state.Connection k n k' n' = k' ≡ 0
InOrder state.Parameter k n k' n' = n ≤ k
InOrder state.Data k n k' n' = (n ≤ k) × (n' ≤ k')
InOrder _ k n k' n' = (k ≡ 0) × (k' ≡ 0)

-- what a master sent in its session
pub record Sent (ms : MasterSettings) (frames : List (List ℕ)) : Type 0 where
  pub connection : carried_by state.Connection (sends (OfMaster ms)) (piece_len (OfMaster ms)) frames ≡ front (connection_of ms) (piece_len (OfMaster ms)) (count_in state.Connection frames)
  pub parameters : carried_by state.Parameter (sends (OfMaster ms)) (piece_len (OfMaster ms)) frames ≡ front (parameters_of ms) (piece_len (OfMaster ms)) (count_in state.Parameter frames)
  pub order : InOrder (phase_sent frames) (count_in state.Connection frames) (pieces_of ms (connection_of ms)) (count_in state.Parameter frames) (pieces_of ms (parameters_of ms))

pub take_padded : (q : List ℕ) (c l : ℕ) → length q ≤ c → c ≤ l → take c (padded q l) ≡ padded q c
take_padded q c l h k =
    let e : c ≡ length q + (c - length q) = omega arith in
    ap (λ n. take n (padded q l)) e ∙ (take-append-add q (replicate (l - length q) 0) (c - length q)
    ∙ ap (λ t. q ++ t) (take-replicate (c - length q) (l - length q) 0 (omega arith)))

pub piece_short : (p : List ℕ) (c k : ℕ) → length (piece p c k) ≤ c
piece_short p c k = omega (arith, length-take c (drop ((k - 1) * c) p))

-- a piece has room in a frame, and fills its safe data with zeros after it
pub piece_in : (s : Setup) (p : List ℕ) (k : ℕ) → length (piece p (piece_len s) k) ≤ sends s
piece_in s p k = omega (arith, piece_short p (piece_len s) k, piece_fits s)

pub piece_filled : (s : Setup) (p : List ℕ) (k : ℕ) → length (padded (piece p (piece_len s) k) (sends s)) ≡ sends s
piece_filled s p k = padded_len (piece p (piece_len s) k) (sends s) (piece_in s p k)

-- the part of a frame with a piece
part-is : (ms : MasterSettings) (c : Command) (p : List ℕ) (k : ℕ) (f : List ℕ) → IsPiece ms c p k f → take (piece_len (OfMaster ms)) (frame_of (sends (OfMaster ms)) f).load ≡ padded (piece p (piece_len (OfMaster ms)) k) (piece_len (OfMaster ms))
part-is ms c p k f h = search (rules, take_padded, piece_short)

pub none_sent : (ms : MasterSettings) → Sent ms []
none_sent ms = record { connection = refl; parameters = refl; order = (refl, refl) }

sent-session : (ms : MasterSettings) (load f : List ℕ) (frames : List (List ℕ)) → IsFrame (sends (OfMaster ms)) command.Session load f → is_guarded_in (phase_sent frames) ≡ false → Sent ms frames → Sent ms (f ∷ frames)
sent-session ms load f frames h k l = grind arith

sent-connection : (ms : MasterSettings) (f : List ℕ) (frames : List (List ℕ)) → IsPiece ms command.Connection (connection_of ms) (suc (count_in state.Connection frames)) f → count_in state.Parameter frames ≡ 0
    → Sent ms frames → Sent ms (f ∷ frames)
sent-connection ms f frames g z m =
    let b : phase_of_frame f ≡ state.Connection = phase_framed _ command.Connection _ f g in
    let q = part-is ms command.Connection (connection_of ms) (suc (count_in state.Connection frames)) f g in
    search rules

sent-parameter : (ms : MasterSettings) (f : List ℕ) (frames : List (List ℕ)) → IsPiece ms command.Parameter (parameters_of ms) (suc (count_in state.Parameter frames)) f → pieces_of ms (connection_of ms) ≤ count_in state.Connection frames
    → Sent ms frames → Sent ms (f ∷ frames)
sent-parameter ms f frames g z m =
    let b : phase_of_frame f ≡ state.Parameter = phase_framed _ command.Parameter _ f g in
    let q = part-is ms command.Parameter (parameters_of ms) (suc (count_in state.Parameter frames)) f g in
    search rules

sent-data : (ms : MasterSettings) (f : List ℕ) (frames : List (List ℕ)) → phase_of_frame f ≡ state.Data → pieces_of ms (connection_of ms) ≤ count_in state.Connection frames → pieces_of ms (parameters_of ms) ≤ count_in state.Parameter frames
    → Sent ms frames → Sent ms (f ∷ frames)
sent-data ms f frames b x y m = record { connection = simp b m.connection; parameters = simp b m.parameters; order = simp b (x, y) }

pub data_phase : (s : Setup) (e : List Deed) (f : List ℕ) → IsData s e f → phase_of_frame f ≡ state.Data
data_phase s e f h = grind arith

pub order_at : (now now' : State) (k n k' n' : ℕ) → now ≡ now' → InOrder now k n k' n' → InOrder now' k n k' n'
order_at now now' k n k' n' h o = subst (λ (x : State). InOrder x k n k' n') h o

-- one more frame of a master that takes a frame
sent-next : (ms : MasterSettings) (e : List Deed) (bytes load : List ℕ) (c : Command) (f : List ℕ) → IsRun (OfMaster ms) e → Taking e bytes load (OfMaster ms) c f → Sent ms (own (since e)) → Sent ms (f ∷ own (since e))
sent-next ms e bytes load c f r (MasterStarts _ _ now none frame is_zero made sent after) h = sent-session ms _ f (own (since e)) (piece_sent ms e bytes load command.Reset command.Session 1 f made) (ap is_guarded_in now) h
sent-next ms e bytes load c f r (MasterGoesOn _ _ _ OfSession now part x) h = sent-session ms _ f (own (since e)) (piece_sent ms e bytes load command.Session command.Session _ f x.is_made) (ap is_guarded_in now) h
sent-next ms e bytes load c f r (MasterGoesOn _ _ _ OfConnection now part x) h = sent-connection ms f (own (since e)) (piece_sent ms e bytes load command.Connection command.Connection _ f x.is_made) (order_at _ state.Connection _ _ _ _ now h.order) h
sent-next ms e bytes load c f r (MasterGoesOn _ _ _ OfParameter now part x) h = sent-parameter ms f (own (since e)) (piece_sent ms e bytes load command.Parameter command.Parameter _ f x.is_made) (order_at _ state.Parameter _ _ _ _ now h.order) h
sent-next ms e bytes load c f r (MasterNextPhase _ _ _ _ AfterSession now whole x) h =
    let z = order_at _ state.Session _ _ _ _ now h.order in
    sent-connection ms f (own (since e)) (subst (λ (k : ℕ). IsPiece ms command.Connection (connection_of ms) (suc k) f) (sym z.0) (piece_sent ms e bytes load command.Session command.Connection 1 f x.is_made)) z.1 h
sent-next ms e bytes load c f r (MasterNextPhase _ _ _ _ AfterConnection now whole x) h =
    let z = order_at _ state.Connection _ _ _ _ now h.order in
    sent-parameter ms f (own (since e)) (subst (λ (k : ℕ). IsPiece ms command.Parameter (parameters_of ms) (suc k) f) (sym z) (piece_sent ms e bytes load command.Connection command.Parameter 1 f x.is_made)) whole h
sent-next ms e bytes load c f r (MasterFirstData _ _ now whole x) h =
    sent-data ms f (own (since e)) (data_phase (OfMaster ms) _ f (data_sent ms e bytes load command.Parameter f r x.is_made)) (order_at _ state.Parameter _ _ _ _ now h.order) whole h
sent-next ms e bytes load c f r (MasterMoreData _ _ _ is now x) h =
    let z = order_at _ state.Data _ _ _ _ now h.order in
    sent-data ms f (own (since e)) (data_phase (OfMaster ms) _ f (data_sent ms e bytes load c f r x.is_made)) z.0 z.1 h

abbrev pub deed : Move → Did → List ℕ → Deed
deed m d f = record { what = m; did = d; sent = f }

-- a frame of a session is added to the session's
pub sent_more : (x : Deed) (e : List Deed) → IsInSession x.sent → own (since (x ∷ e)) ≡ x.sent ∷ own (since e)
sent_more x e h = let a = h.in_session in let b = h.sent in simp (a, b)

sent-taken : (ms : MasterSettings) (e : List Deed) (bytes load : List ℕ) (c : Command) (f : List ℕ) → IsRun (OfMaster ms) e → Taking e bytes load (OfMaster ms) c f → Sent ms (own (since e))
    → Sent ms (own (since (with_answer bytes c load f e)))
sent-taken ms e bytes load c f h k l = search (rules, sent-next)

sent-kept : (ms : MasterSettings) (e : List Deed) (m : Move) (d : Did) (f : List ℕ) → IsRun (OfMaster ms) e → Sent ms (own (since e)) → Reaction (OfMaster ms) e m d f → Sent ms (own (since (deed m d f ∷ e)))
sent-kept ms e m d f r h (Answers bytes load c answer taking) = sent-taken ms e bytes load c answer r taking h
sent-kept ms e m d f r h (Expires now old) = none_sent ms
sent-kept ms e m d f r h (SendsAgain master now old) = none_sent ms
sent-kept ms e m d f r h ResetsItself = none_sent ms
sent-kept ms e m d f r h (Refuses bytes passed found now fails test) = none_sent ms
sent-kept ms e m d f r h (PeerResets bytes load now frame) = none_sent ms
sent-kept ms e m d f r h _ = h

-- in every run of a master what it sent in its session are the pieces of its payloads, in order
pub pieces_sent : (ms : MasterSettings) (e : List Deed) → IsRun (OfMaster ms) e → Sent ms (own (since e))
pieces_sent ms [] r = none_sent ms
pieces_sent ms (x ∷ e) r = sent-kept ms e x.what x.did x.sent r.1 (pieces_sent ms e r.1) (reacted (OfMaster ms) x e r)

-- the frames sent in the session are those after the last Reset frame
pub session_own : (e : List Deed) → own (since e) ≡ session (own e)
session_own [] = refl
session_own (x ∷ e) = grind (arith, session_own e)

-- the newest frame is of the session, or a Reset frame
pub session_phase : (frames : List (List ℕ)) → phase_sent (session frames) ≡ phase_sent frames
session_phase frames = search rules

-- the same of what it had sent up to each of its frames
abbrev pub AllSent : MasterSettings → List (List ℕ) → Type 0
AllSent ms [] = Sent ms []
AllSent ms (f ∷ frames) = Sent ms (session (f ∷ frames)) × AllSent ms frames

pub all_sent : (ms : MasterSettings) (e : List Deed) → IsRun (OfMaster ms) e → AllSent ms (own e)
all_sent ms [] r = none_sent ms
all_sent ms (x ∷ e) r = grind (arith, subst (Sent ms) (session_own (x ∷ e)) (pieces_sent ms (x ∷ e) r), all_sent ms e r.1)
