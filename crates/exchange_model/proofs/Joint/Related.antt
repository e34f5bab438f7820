-- Each entry of a world that isn't other keeps what both ends' items say of one another.
use Rattle.exchange_model.proofs.Common.{AfterConnection, AfterSession, Answers, Command, Deed, Did, End, Entry, Expires, IsInSession, IsNextEntry, IsReaction, IsRun, IsValid, IsWorld, Item, MasterFirstData, MasterGoesOn, MasterMoreData, MasterNextPhase, MasterSettings, MasterStarts, Move, NoOther, OfConnection, OfMaster, OfParameter, OfSession, OfSlave, PeerResets, Reaction, Refuses, ResetsItself, SameLengths, SendsAgain, Setup, SlaveSettings, State, Taking, answer_is, answer_sent, command_in, deed_in, deeds, entry_of, exchange_of, is_empty, is_guarded_command, is_other, item_of, items, items_of, newest, number_if, own, phase_of, phase_of_frame, phase_sent, piece_len, received, receives, reset_frame, sends, setup_of, since, slave_allows, state_of, takes_frame, uploaded}
use Rattle.std.proofs.Common.{◌≡◌, ◌≢◌, ℕ, List, [], ◌∷◌, length, Bool, true, false, Option, Some, None, refl, sym, ap, subst, ◌∙◌, arith, rules}
use Rattle.fsoe_base.specs.declared.command.End.TheVariants as end_name
use Rattle.fsoe_base.specs.declared.command.State.TheVariants as state
use Rattle.fsoe_base.specs.declared.command.Command.TheVariants as command
use Rattle.param_load.specs.declared.entry.Move.TheVariants as move
use Rattle.exchange_model.proofs.Worlds.Projection.{next_told, deeds_are_run, entry_reacted}
use Rattle.exchange_model.proofs.Worlds.Frames.{bytes_in, frames}
use Rattle.exchange_model.proofs.Worlds.Numbered.{numbered}
use Rattle.exchange_model.proofs.Joint.Awaited.{IsNewest, newest_is}
use Rattle.exchange_model.proofs.Joint.Joint.{is_guarded_in, is_loading, session, carried, with_part, Placed, Joint, Before, Uploads}
use Rattle.exchange_model.proofs.Joint.JointSteps.{master_adds, unguarded_placed, next_placed, first_placed, slave_before, slave_past, none_uploaded}
use Rattle.exchange_model.proofs.Alone.Framed.{head_is, phase_by, phase_framed, IsFrame, SlaveSends, slave_sends, piece_sent}
use Rattle.exchange_model.proofs.Alone.Pieces.{Sent, pieces_sent, session_own, deed}
use Rattle.exchange_model.proofs.Alone.Uploads.{uploads_next, state_next}
use Rattle.exchange_model.proofs.Joint.Taking.{TakesItem, takes_item, answers_newest, data_guarded, NoneOther, none_other}

-- what both ends' items say of one another in a world
abbrev pub Related : MasterSettings → SlaveSettings → List Entry → Type 0
Related ms ss w =
    Joint (receives (OfSlave ss)) (piece_len (OfSlave ss)) (state_of (OfSlave ss) (deeds end_name.Slave w)) (λ phase. uploaded ss phase (deeds end_name.Slave w))
    (items_of end_name.Slave (items w)) (items_of end_name.Master (items w))

abbrev pub of_master : MasterSettings → List Entry → Move → Did → List ℕ → Entry
of_master ms w m d f = entry_of (OfMaster ms) (deeds end_name.Master w) (deed m d f)

abbrev pub of_slave : SlaveSettings → List Entry → Move → Did → List ℕ → Entry
of_slave ss w m d f = entry_of (OfSlave ss) (deeds end_name.Slave w) (deed m d f)

-- the place of an item of a master, by the slave's lengths
abbrev PlacedIn : SlaveSettings → List Entry → Item → Type 0
PlacedIn ss w i = Placed (receives (OfSlave ss)) (piece_len (OfSlave ss)) (items_of end_name.Slave (items w)) (items_of end_name.Master (items w)) i

master-grows : (ms : MasterSettings) (ss : SlaveSettings) (w : List Entry) (m : Move) (d : Did) (f : List ℕ) → is_empty f ≡ false → PlacedIn ss w (item_of (of_master ms w m d f) w (items w)) → Related ms ss w → Related ms ss (of_master ms w m d f ∷ w)
master-grows ms ss w m d f k p h = simp k (master_adds _ _ _ _ (items_of end_name.Slave (items w)) (items_of end_name.Master (items w)) (item_of (of_master ms w m d f) w (items w)) p h)

-- an item that answers none
unanswered : (ms : MasterSettings) (ss : SlaveSettings) (w : List Entry) (i : Item) → i.answers ≡ None → PlacedIn ss w i
unanswered ms ss w i h = record { within = λ n e. absurd (let q : None ≡ Some n = sym h ∙ e in cc); place = λ n e g. absurd (let q : None ≡ Some n = sym h ∙ e in cc) }

-- what an item answers that isn't guarded
newest-answered : (w : List Entry) (bytes : List ℕ) (n : ℕ) (o : Option ℕ) → o ≡ number_if bytes (newest (items_of end_name.Slave (items w))) → o ≡ Some n → IsNewest n bytes (items_of end_name.Slave (items w))
newest-answered w bytes n o h e = newest_is n bytes (items_of end_name.Slave (items w)) (numbered end_name.Slave w) (sym h ∙ e)

-- a frame of the session id has no place to keep
session-placed : (ms : MasterSettings) (ss : SlaveSettings) (w : List Entry) (bytes load : List ℕ) (c : Command) (f given : List ℕ) → IsFrame (sends (OfMaster ms)) command.Session given f → is_guarded_command c ≡ false
    → PlacedIn ss w (item_of (of_master ms w (move.Deliver bytes) (takes_frame c load) f) w (items w))
session-placed ms ss w bytes load c f given g u =
    let x : Entry = of_master ms w (move.Deliver bytes) (takes_frame c load) f in
    unguarded_placed _ _ (items_of end_name.Slave (items w)) (items_of end_name.Master (items w)) (item_of x w (items w))
    (λ n e. let k : IsNewest n bytes (items_of end_name.Slave (items w)) = newest-answered w bytes n _ (answers_newest w x bytes c load refl refl u) e in let q : n ≡ length (items_of end_name.Slave (items w)) = k.number_is in omega arith)
    (ap is_guarded_in (phase_framed _ command.Session _ f g))

-- what a master's items carried, in either end's lengths
pub carried_is : (ms : MasterSettings) (ss : SlaveSettings) (phase : State) (found : List Item) → SameLengths ms ss
    → carried phase (receives (OfSlave ss)) (piece_len (OfSlave ss)) found ≡ carried phase (sends (OfMaster ms)) (piece_len (OfMaster ms)) found
carried_is ms ss phase found h = grind arith

-- a master in state Session has sent nothing of a connection or of parameters
none-sent : (ms : MasterSettings) (ss : SlaveSettings) (m : List Item) (phase : State) → SameLengths ms ss → is_loading phase ≡ true → Sent ms (session (bytes_in m)) → phase_sent (session (bytes_in m)) ≡ state.Session
    → carried phase (receives (OfSlave ss)) (piece_len (OfSlave ss)) m ≡ []
none-sent ms ss m phase h k l n = grind arith

-- the frames of a master's session, by its items and by its deeds
session-frames : (w : List Entry) → session (bytes_in (items_of end_name.Master (items w))) ≡ own (since (deeds end_name.Master w))
session-frames w = ap session (frames end_name.Master w) ∙ sym (session_own (deeds end_name.Master w))

-- the first frame after the session id
connection-placed : (ms : MasterSettings) (ss : SlaveSettings) (w : List Entry) (bytes load f : List ℕ) → SameLengths ms ss → IsRun (OfMaster ms) (deeds end_name.Master w) → state_of (OfMaster ms) (deeds end_name.Master w) ≡ state.Session
    → command_in bytes ≡ Some command.Session → PlacedIn ss w (item_of (of_master ms w (move.Deliver bytes) (takes_frame command.Session load) f) w (items w))
connection-placed ms ss w bytes load f same r now head =
    let x : Entry = of_master ms w (move.Deliver bytes) (takes_frame command.Session load) f in
    let m : List Item = items_of end_name.Master (items w) in
    let sent : Sent ms (session (bytes_in m)) = subst (Sent ms) (sym (session-frames w)) (pieces_sent ms (deeds end_name.Master w) r) in
    let phase : phase_sent (session (bytes_in m)) ≡ state.Session = ap phase_sent (session-frames w) ∙ now in
    first_placed _ _ (items_of end_name.Slave (items w)) m (item_of x w (items w))
    (λ n e. let k : IsNewest n bytes (items_of end_name.Slave (items w)) = newest-answered w bytes n _ (answers_newest w x bytes command.Session load refl refl refl) e in (k.number_is, ap is_guarded_in (k.phase_is ∙ phase_by bytes command.Session head)))
    (λ phase_in k. none-sent ms ss m phase_in same k sent phase)

-- the item of a master that takes the awaited frame
answer-placed : (ms : MasterSettings) (ss : SlaveSettings) (w : List Entry) (bytes load f : List ℕ) (c : Command) → is_guarded_command c ≡ true → is_other (items w) (of_master ms w (move.Deliver bytes) (takes_frame c load) f) ≡ false
    → command_in bytes ≡ Some c → PlacedIn ss w (item_of (of_master ms w (move.Deliver bytes) (takes_frame c load) f) w (items w))
answer-placed ms ss w bytes load f c g o head =
    let x : Entry = of_master ms w (move.Deliver bytes) (takes_frame c load) f in
    let it : TakesItem w x bytes = takes_item w x bytes c load refl refl head g o in
    next_placed _ _ (items_of end_name.Slave (items w)) (items_of end_name.Master (items w)) (item_of x w (items w)) it.item it.guarded it.found it.answers

head-in : (s : Setup) (e : List Deed) (bytes load : List ℕ) (c : Command) → IsValid s e bytes c load → command_in bytes ≡ Some c
head-in s e bytes load c v = head_is (receives s) bytes c v.is_read.command_is

-- each item of a master that takes a frame has its place
master-placed : (ms : MasterSettings) (ss : SlaveSettings) (w : List Entry) (bytes load : List ℕ) (c : Command) (f : List ℕ) → SameLengths ms ss → IsRun (OfMaster ms) (deeds end_name.Master w)
    → is_other (items w) (of_master ms w (move.Deliver bytes) (takes_frame c load) f) ≡ false → Taking (deeds end_name.Master w) bytes load (OfMaster ms) c f → PlacedIn ss w (item_of (of_master ms w (move.Deliver bytes) (takes_frame c load) f) w (items w))
master-placed ms ss w bytes load c f same r o (MasterStarts _ _ now none frame is_zero made sent after) = session-placed ms ss w bytes load command.Reset f _ (piece_sent ms (deeds end_name.Master w) bytes load command.Reset command.Session 1 f made) refl
master-placed ms ss w bytes load c f same r o (MasterGoesOn _ _ _ OfSession now part x) = session-placed ms ss w bytes load command.Session f _ (piece_sent ms (deeds end_name.Master w) bytes load command.Session command.Session _ f x.is_made) refl
master-placed ms ss w bytes load c f same r o (MasterGoesOn _ _ _ OfConnection now part x) = answer-placed ms ss w bytes load f command.Connection refl o (head-in (OfMaster ms) _ bytes load command.Connection x.valid)
master-placed ms ss w bytes load c f same r o (MasterGoesOn _ _ _ OfParameter now part x) = answer-placed ms ss w bytes load f command.Parameter refl o (head-in (OfMaster ms) _ bytes load command.Parameter x.valid)
master-placed ms ss w bytes load c f same r o (MasterNextPhase _ _ _ _ AfterSession now whole x) = connection-placed ms ss w bytes load f same r now (head-in (OfMaster ms) _ bytes load command.Session x.valid)
master-placed ms ss w bytes load c f same r o (MasterNextPhase _ _ _ _ AfterConnection now whole x) = answer-placed ms ss w bytes load f command.Connection refl o (head-in (OfMaster ms) _ bytes load command.Connection x.valid)
master-placed ms ss w bytes load c f same r o (MasterFirstData _ _ now whole x) = answer-placed ms ss w bytes load f command.Parameter refl o (head-in (OfMaster ms) _ bytes load command.Parameter x.valid)
master-placed ms ss w bytes load c f same r o (MasterMoreData _ _ _ is now x) = answer-placed ms ss w bytes load f c (data_guarded c is) o (head-in (OfMaster ms) _ bytes load c x.valid)

master-takes : (ms : MasterSettings) (ss : SlaveSettings) (w : List Entry) (bytes load : List ℕ) (c : Command) (f : List ℕ) → SameLengths ms ss → IsRun (OfMaster ms) (deeds end_name.Master w) → Related ms ss w
    → Taking (deeds end_name.Master w) bytes load (OfMaster ms) c f → is_other (items w) (of_master ms w (move.Deliver bytes) (takes_frame c load) f) ≡ false → Related ms ss (of_master ms w (move.Deliver bytes) (takes_frame c load) f ∷ w)
master-takes ms ss w bytes load c f h k l m n = search (rules, master-grows, answer_sent, master-placed)

-- each entry of a master keeps it
master-keeps : (ms : MasterSettings) (ss : SlaveSettings) (w : List Entry) (m : Move) (d : Did) (f : List ℕ) → SameLengths ms ss → IsRun (OfMaster ms) (deeds end_name.Master w) → Related ms ss w
    → Reaction (OfMaster ms) (deeds end_name.Master w) m d f → is_other (items w) (of_master ms w m d f) ≡ false → Related ms ss (of_master ms w m d f ∷ w)
master-keeps ms ss w m d f same r h (Answers bytes load c answer taking) o = master-takes ms ss w bytes load c answer same r h taking o
master-keeps ms ss w m d f same r h (Expires now old) o = master-grows ms ss w m d f refl (unanswered ms ss w _ refl) h
master-keeps ms ss w m d f same r h (SendsAgain master now old) o = master-grows ms ss w m d f refl (unanswered ms ss w _ refl) h
master-keeps ms ss w m d f same r h ResetsItself o = master-grows ms ss w m d f refl (unanswered ms ss w _ refl) h
master-keeps ms ss w m d f same r h (Refuses bytes passed found now fails test) o = master-grows ms ss w m d f refl (unanswered ms ss w _ refl) h
master-keeps ms ss w m d f same r h (PeerResets bytes load now frame) o = master-grows ms ss w m d f refl (unanswered ms ss w _ refl) h
master-keeps ms ss w m d f same r h _ o = h

-- the slave's items are one more
slave-grows : (ms : MasterSettings) (ss : SlaveSettings) (w : List Entry) (m : Move) (d : Did) (f : List ℕ) → is_empty f ≡ false
    → Joint (receives (OfSlave ss)) (piece_len (OfSlave ss)) (state_of (OfSlave ss) (deed m d f ∷ deeds end_name.Slave w)) (λ phase. uploaded ss phase (deed m d f ∷ deeds end_name.Slave w))
    (item_of (of_slave ss w m d f) w (items w) ∷ items_of end_name.Slave (items w)) (items_of end_name.Master (items w))
    → Related ms ss (of_slave ss w m d f ∷ w)
slave-grows ms ss w m d f k h = simp k h

slave-resets : (ms : MasterSettings) (ss : SlaveSettings) (w : List Entry) (m : Move) (d : Did) (n : ℕ) → Related ms ss w → Related ms ss (of_slave ss w m d (reset_frame n (sends (OfSlave ss))) ∷ w)
slave-resets ms ss w m d n h = search (rules, slave_before)

session-allowed : (now : State) (done : Bool) → slave_allows now done command.Session ≡ true → is_guarded_in now ≡ false
session-allowed now done h = grind arith

-- the phase of a slave's answer
answer-phase : (ss : SlaveSettings) (e : List Deed) (c : Command) (f : List ℕ) → SlaveSends ss e c f → phase_of_frame f ≡ phase_of c
answer-phase ss e c f h = grind arith

-- a frame of the session id brings nothing of a connection or of parameters
unloaded : (phase : State) (l c : ℕ) (bytes before : List ℕ) → is_loading phase ≡ true → phase_of_frame bytes ≡ state.Session → before ≡ [] → with_part phase l c bytes before ≡ []
unloaded phase l c bytes before h k m = grind arith

unguarded-is : (c : Command) → c ≢ command.Reset → is_guarded_command c ≡ false → c ≡ command.Session
unguarded-is c h k = grind arith

-- all that is known of a slave that takes a frame of a session and answers it
record SlaveTakes (ms : MasterSettings) (ss : SlaveSettings) (w : List Entry) (bytes load : List ℕ) (c : Command) (f : List ℕ) : Type 0 where
  pub related : Related ms ss w
  pub in_session : c ≢ command.Reset
  pub valid : IsValid (OfSlave ss) (deeds end_name.Slave w) bytes c load
  pub answer_is : phase_of_frame f ≡ phase_of c
  pub state_is : state_of (OfSlave ss) (deed (move.Deliver bytes) (takes_frame c load) f ∷ deeds end_name.Slave w) ≡ phase_of c
  pub uploads : Uploads (receives (OfSlave ss)) (piece_len (OfSlave ss)) bytes (λ phase. uploaded ss phase (deeds end_name.Slave w)) (λ phase. uploaded ss phase (deed (move.Deliver bytes) (takes_frame c load) f ∷ deeds end_name.Slave w))
  pub no_other : is_other (items w) (of_slave ss w (move.Deliver bytes) (takes_frame c load) f) ≡ false

-- the joint words after a slave took a frame
abbrev JointAfter : SlaveSettings → List Entry → List ℕ → List ℕ → Command → List ℕ → Type 0
JointAfter ss w bytes load c f =
    Joint (receives (OfSlave ss)) (piece_len (OfSlave ss)) (state_of (OfSlave ss) (deed (move.Deliver bytes) (takes_frame c load) f ∷ deeds end_name.Slave w)) (λ phase. uploaded ss phase (deed (move.Deliver bytes) (takes_frame c load) f ∷ deeds end_name.Slave w))
    (item_of (of_slave ss w (move.Deliver bytes) (takes_frame c load) f) w (items w) ∷ items_of end_name.Slave (items w)) (items_of end_name.Master (items w))

slave-guarded : (ms : MasterSettings) (ss : SlaveSettings) (w : List Entry) (bytes load : List ℕ) (c : Command) (f : List ℕ) → SlaveTakes ms ss w bytes load c f → is_guarded_command c ≡ true → JointAfter ss w bytes load c f
slave-guarded ms ss w bytes load c f t g =
    let x : Entry = of_slave ss w (move.Deliver bytes) (takes_frame c load) f in
    let head : command_in bytes ≡ Some c = head-in (OfSlave ss) (deeds end_name.Slave w) bytes load c t.valid in
    let it : TakesItem w x bytes = takes_item w x bytes c load refl refl head g t.no_other in
    let phase : phase_of_frame it.item.bytes ≡ phase_of c = ap phase_of_frame it.bytes_are ∙ phase_by bytes c head in
    let before : State → List ℕ = λ phase. uploaded ss phase (deeds end_name.Slave w) in
    let after : State → List ℕ = λ phase. uploaded ss phase (deed (move.Deliver bytes) (takes_frame c load) f ∷ deeds end_name.Slave w) in
    let s : List Item = items_of end_name.Slave (items w) in
    let m : List Item = items_of end_name.Master (items w) in
    let u : Uploads (receives (OfSlave ss)) (piece_len (OfSlave ss)) it.item.bytes before after = subst (λ (b : List ℕ). Uploads (receives (OfSlave ss)) (piece_len (OfSlave ss)) b before after) (sym it.bytes_are) t.uploads in
    subst (λ (now : State). Joint (receives (OfSlave ss)) (piece_len (OfSlave ss)) now after (item_of x w (items w) ∷ s) m) (phase ∙ sym t.state_is)
    (slave_past (receives (OfSlave ss)) (piece_len (OfSlave ss)) (state_of (OfSlave ss) (deeds end_name.Slave w)) before after s m (item_of x w (items w)) it.item it.guarded (t.answer_is ∙ sym phase) u it.found it.answers t.related)

slave-unguarded : (ms : MasterSettings) (ss : SlaveSettings) (w : List Entry) (bytes load : List ℕ) (c : Command) (f : List ℕ) → SlaveTakes ms ss w bytes load c f → c ≡ command.Session → JointAfter ss w bytes load c f
slave-unguarded ms ss w bytes load c f t k =
    let x : Entry = of_slave ss w (move.Deliver bytes) (takes_frame c load) f in
    let head : command_in bytes ≡ Some c = head-in (OfSlave ss) (deeds end_name.Slave w) bytes load c t.valid in
    let phase : phase_of_frame bytes ≡ state.Session = phase_by bytes c head ∙ ap phase_of k in
    let now : State = state_of (OfSlave ss) (deeds end_name.Slave w) in
    let before : State → List ℕ = λ phase. uploaded ss phase (deeds end_name.Slave w) in
    let after : State → List ℕ = λ phase. uploaded ss phase (deed (move.Deliver bytes) (takes_frame c load) f ∷ deeds end_name.Slave w) in
    let s : List Item = items_of end_name.Slave (items w) in
    let m : List Item = items_of end_name.Master (items w) in
    let unguarded : is_guarded_in (state_of (OfSlave ss) (deeds end_name.Slave w)) ≡ false = session-allowed _ _ (ap (slave_allows (state_of (OfSlave ss) (deeds end_name.Slave w)) _) (sym k) ∙ t.valid.is_allowed) in
    slave_before (receives (OfSlave ss)) (piece_len (OfSlave ss)) now _ before after s m (item_of x w (items w)) (t.answer_is ∙ sym t.state_is) (ap is_guarded_in (t.state_is ∙ ap phase_of k))
    (λ p q. t.uploads p q ∙ unloaded p _ _ bytes _ q phase (none_uploaded (receives (OfSlave ss)) (piece_len (OfSlave ss)) now before s m unguarded t.related.standing p q)) t.related

slave-joint : (ms : MasterSettings) (ss : SlaveSettings) (w : List Entry) (bytes load : List ℕ) (c : Command) (f : List ℕ) (guarded : Bool) → SlaveTakes ms ss w bytes load c f → is_guarded_command c ≡ guarded → JointAfter ss w bytes load c f
slave-joint ms ss w bytes load c f true t g = slave-guarded ms ss w bytes load c f t g
slave-joint ms ss w bytes load c f false t g = slave-unguarded ms ss w bytes load c f t (unguarded-is c t.in_session g)

slave-takes : (ms : MasterSettings) (ss : SlaveSettings) (w : List Entry) (bytes load : List ℕ) (c : Command) (f : List ℕ) → IsRun (OfSlave ss) (deeds end_name.Slave w) → Related ms ss w → c ≢ command.Reset
    → Taking (deeds end_name.Slave w) bytes load (OfSlave ss) c f → is_other (items w) (of_slave ss w (move.Deliver bytes) (takes_frame c load) f) ≡ false → Related ms ss (of_slave ss w (move.Deliver bytes) (takes_frame c load) f ∷ w)
slave-takes ms ss w bytes load c f r h n taking o =
    let e : List Deed = deeds end_name.Slave w in
    let x = (exchange_of e bytes load (OfSlave ss) c f taking n).2 in
    let sent : IsInSession f = x.in_session in
    let valid : IsValid (OfSlave ss) e bytes c load = x.valid in
    slave-grows ms ss w (move.Deliver bytes) (takes_frame c load) f sent.sent
    (slave-joint ms ss w bytes load c f (is_guarded_command c) (record {
      related = h;
      in_session = n;
      valid = valid;
      answer_is = answer-phase ss (received bytes c load e) c f (slave_sends ss e bytes load c f r taking n);
      state_is = state_next ss e bytes load f c n sent.in_session;
      uploads = uploads_next ss e bytes load f c n sent.in_session (head-in (OfSlave ss) e bytes load c valid) valid.load_is;
      no_other = o;
    }) refl)

slave-took : (ms : MasterSettings) (ss : SlaveSettings) (w : List Entry) (bytes load : List ℕ) (c : Command) (f : List ℕ) → IsRun (OfSlave ss) (deeds end_name.Slave w) → Related ms ss w
    → Taking (deeds end_name.Slave w) bytes load (OfSlave ss) c f → is_other (items w) (of_slave ss w (move.Deliver bytes) (takes_frame c load) f) ≡ false → Related ms ss (of_slave ss w (move.Deliver bytes) (takes_frame c load) f ∷ w)
slave-took ms ss w bytes load command.Reset f r h taking o =
    subst (λ (f : List ℕ). Related ms ss (of_slave ss w (move.Deliver bytes) (takes_frame command.Reset load) f ∷ w)) (sym (answer_is (deeds end_name.Slave w) bytes load (OfSlave ss) command.Reset f taking)) (slave-resets ms ss w (move.Deliver bytes) (takes_frame command.Reset load) 0 h)
slave-took ms ss w bytes load c f r h taking o = slave-takes ms ss w bytes load c f r h (λ k. cc) taking o

-- each entry of a slave keeps it
slave-keeps : (ms : MasterSettings) (ss : SlaveSettings) (w : List Entry) (m : Move) (d : Did) (f : List ℕ) → IsRun (OfSlave ss) (deeds end_name.Slave w) → Related ms ss w
    → Reaction (OfSlave ss) (deeds end_name.Slave w) m d f → is_other (items w) (of_slave ss w m d f) ≡ false → Related ms ss (of_slave ss w m d f ∷ w)
slave-keeps ms ss w m d f r h (Answers bytes load c answer taking) o = slave-took ms ss w bytes load c answer r h taking o
slave-keeps ms ss w m d f r h (Expires now old) o = slave-resets ms ss w m d _ h
slave-keeps ms ss w m d f r h (SendsAgain master now old) o = absurd master
slave-keeps ms ss w m d f r h ResetsItself o = slave-resets ms ss w m d _ h
slave-keeps ms ss w m d f r h (Refuses bytes passed found now fails test) o = slave-resets ms ss w m d _ h
slave-keeps ms ss w m d f r h (PeerResets bytes load now frame) o = slave-resets ms ss w m d _ h
slave-keeps ms ss w m d f r h _ o = h

keeps : (ms : MasterSettings) (ss : SlaveSettings) (which : End) (x : Entry) (w : List Entry) → SameLengths ms ss → IsNextEntry (setup_of ms ss which) x (deeds which w) → IsReaction (setup_of ms ss which) (deeds which w) (deed_in x) → IsWorld ms ss w → Related ms ss w
    → is_other (items w) x ≡ false → Related ms ss (x ∷ w)
keeps ms ss end_name.Master x w same next reaction so_far h o =
    let told : x ≡ entry_of (OfMaster ms) (deeds end_name.Master w) (deed_in x) = next_told (OfMaster ms) x (deeds end_name.Master w) next in
    subst (λ (y : Entry). Related ms ss (y ∷ w)) (sym told) (master-keeps ms ss w x.what x.did x.sent same (deeds_are_run ms ss end_name.Master w so_far) h reaction (sym (ap (is_other (items w)) told) ∙ o))
keeps ms ss end_name.Slave x w same next reaction so_far h o =
    let told : x ≡ entry_of (OfSlave ss) (deeds end_name.Slave w) (deed_in x) = next_told (OfSlave ss) x (deeds end_name.Slave w) next in
    subst (λ (y : Entry). Related ms ss (y ∷ w)) (sym told) (slave-keeps ms ss w x.what x.did x.sent (deeds_are_run ms ss end_name.Slave w so_far) h reaction (sym (ap (is_other (items w)) told) ∙ o))

-- in each world without another entry both ends' items are related
pub related : (ms : MasterSettings) (ss : SlaveSettings) (w : List Entry) → SameLengths ms ss → IsWorld ms ss w → NoOther w → Related ms ss w
related ms ss [] same h n = record { placed = tt; newest_is = refl; standing = Before refl (λ phase k. refl) }
related ms ss (x ∷ w) same h n =
    let o : NoneOther x w = none_other x w n in
    keeps ms ss x.end x w same h.0 (entry_reacted ms ss x w h) h.1 (related ms ss w same h.1 o.before) o.here
