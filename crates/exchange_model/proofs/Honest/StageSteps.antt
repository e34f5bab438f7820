-- Each frame that comes for the first time brings the next stage: a Reset frame, and a frame of a session, which its
-- receiver answers. The master's Reset frame may come again.
use Rattle.exchange_model.proofs.Common.{Command, Deed, End, Entry, Event, Frame, HasNoReset, IsAnswered, IsNext, IsNextEntry, IsProper, IsRun, IsValid, IsWorld, Item, MasterSettings, NeighboursDiffer, OfMaster, Setup, State, TakesDataAfter, TakesOnce, answer, answer_among, bytes_decides, comes_new, data_taken, deeds, delivery, entry_at, entry_of, entry_on, exchanges, frame_of, has_bytes, has_command, id_len, is_coming, is_delivery, is_empty, is_guarded_command, is_other, is_reset, items, items_of, kept, newest, number_if, number_to, offer_len, own, padded, peer, phase_of, phase_sent, piece, received, reset_frame, same_phase, seal, sends, session_id, session_payload, setup_of, since, step}
use Rattle.black_channel.specs.Altered.{back_th}
use Rattle.std.proofs.Common.{◌≡◌, ℕ, nat_le, suc, List, [], ◌∷◌, length, Bool, true, false, not, ◌&&◌, Some, None, IsSome, if◌then◌else◌, refl, sym, ap, ◌∙◌, is_some, ◌≢◌, ◌+◌, ◌<◌, subst, arith, rules}
use Rattle.fsoe_base.specs.declared.command.End.TheVariants as end_name
use Rattle.fsoe_base.specs.declared.command.State.TheVariants as state
use Rattle.fsoe_base.specs.declared.command.Command.TheVariants as command
use Rattle.param_load.specs.declared.entry.Move.TheVariants as move
use Rattle.schedule_file.specs.declared.event.Event.TheVariants as event
use Rattle.exchange_model.proofs.Alone.Pieces.{piece_filled}
use Rattle.exchange_model.proofs.Honest.MasterTurn.{next, Next, master_valid, master_after}
use Rattle.exchange_model.proofs.Honest.OnItsWay.{answering, fresh, first_on_its_way, OnItsWay, next_on_its_way, head_on}
use Rattle.exchange_model.proofs.Honest.Passing.{slave_rejoins, master_starts, takes_valid}
use Rattle.exchange_model.proofs.Honest.ResetFrames.{zero_load, is_reset_frame, reset_long}
use Rattle.exchange_model.proofs.Honest.Stages.{both, NewestAnswers, NewestIs, IsAsked, IsBeginning, IsOutside, IsReplied, LastIs, Stage, Replied, Down, IsDown, IsUp, Up}
use Rattle.exchange_model.proofs.Honest.Turns.{Partner, partner, master_of, slave_of, width, Starts, none_yet, session_pieces, connection_pieces, parameter_pieces, more, Spot, spot_after, SlaveAt, MasterAt, at_least, spot_data}
use Rattle.end_model.proofs.Neighbours.{neighbours}
use Rattle.exchange_model.proofs.Worlds.Projection.{deeds_are_run}
use Rattle.exchange_model.proofs.Alone.Uploads.{since_on}
use Rattle.exchange_model.proofs.Honest.Fronts.{some_piece}
use Rattle.exchange_model.proofs.Honest.SlaveTurn.{Reply, reply, slave_after, some_conn, Accepts, slave_valid, some_width}

-- the stage of these entries
abbrev pub AtStage : (ms : MasterSettings) → Partner ms → List Entry → End → Type 0
AtStage ms r w next = Stage ms r (both ms r w) next

-- an event leads to this entry, which serves
pub record Enters (ms : MasterSettings) (r : Partner ms) (w : List Entry) (event : Event) (entry : Entry) : Type 0 where
  pub is : entry_at ms (partner ms r) w event ≡ Some entry
  pub follows : IsNextEntry (setup_of ms (partner ms r) entry.end) entry (deeds entry.end w)
  pub not_other : is_other (items w) entry ≡ false
  pub no_reset : HasNoReset entry
  pub once : TakesOnce entry w
  pub takes_data : TakesDataAfter comes_new (exchanges ms) entry w

-- a delivery leads to this entry, which takes and answers the frame
pub record Takes (ms : MasterSettings) (r : Partner ms) (w : List Entry) (to : End) (entry : Entry) : Type 0 where
  pub is : entry_at ms (partner ms r) w (event.Deliver to 1) ≡ Some entry
  pub follows : IsNextEntry (setup_of ms (partner ms r) entry.end) entry (deeds entry.end w)
  pub not_other : is_other (items w) entry ≡ false
  pub no_reset : HasNoReset entry
  pub at : entry.end ≡ to
  pub delivers : is_delivery entry.what ≡ true
  pub taken : IsSome entry.did.took
  pub answers : is_empty entry.sent ≡ false
  pub takes_data : is_some (data_taken entry.did.took) ≡ nat_le (exchanges ms) (number_to comes_new entry.end w)

-- a delivery leads to the next stage
abbrev pub Goes : (ms : MasterSettings) → Partner ms → List Entry → End → Type 0
Goes ms r w to = (x : Entry) × Takes ms r w to x × AtStage ms r (x ∷ w) (peer to)

-- a frame is coming to this end, and none to its peer
pub record ComesTo (w : List Entry) (next : End) : Type 0 where
  pub here : is_coming next w ≡ true
  pub none_back : is_coming (peer next) w ≡ false

-- an end that a frame came to sends one
pub coming_back : (w : List Entry) (x : Entry) (to : End) → x.end ≡ to → is_delivery x.what ≡ true → is_empty x.sent ≡ false → ComesTo (x ∷ w) (peer to)
coming_back w x to at h k = grind arith

-- one more frame came where one was coming
counted : (coming : Bool) (n k : ℕ) → coming ≡ true → n ≡ k → (if coming then suc n else n) ≡ suc k
counted coming n k h e = grind arith

number-found : (f : List ℕ) (i : Item) → i.bytes ≡ f → number_if f (Some i) ≡ Some i.number
number-found f i h = ap (λ b. if b then Some i.number else None) ((bytes_decides i.bytes f).1 h)

-- the number of the item that is taken: the newest of the peer, whatever its command
pub taken_number : (mine theirs : List Item) (f : List ℕ) (c : Command) (h : NewestAnswers mine theirs f) → number_if f (if is_guarded_command c then answer_among mine (newest theirs) else newest mine) ≡ Some h.newest.item.number
taken_number mine theirs f c h = search rules

pub none_other : (a b : Bool) (mine theirs : List Item) (f : List ℕ) → NewestAnswers mine theirs f → (a && b && not (has_bytes f (answer_among mine (newest theirs)))) ≡ false
none_other a b mine theirs f h = search rules

-- the next item, which answers the newest of the peer
newest-next : (i : Item) (mine theirs : List Item) (f g : List ℕ) (h : NewestIs theirs f) → i.bytes ≡ g → i.answers ≡ Some h.item.number → has_command command.Reset g ≡ false → NewestAnswers (i ∷ mine) theirs g
newest-next i mine theirs f g h is a n =
    record { newest = record { item = i; older = mine; is = refl; bytes_are = is }; answered = h.item; theirs_older = h.older; theirs_are = h.is; answers = a; in_session = n }

-- a frame that is taken is of data exactly where its phase is Data
pub data_phase_taken : (c : Command) (load : List ℕ) → is_some (data_taken (Some (record { command = c; load = load }))) ≡ same_phase state.Data (phase_of c)
data_phase_taken c load = grind arith

-- the entry of a delivery
pub delivered_entry : (s : Setup) (e : List Deed) (frames older : List (List ℕ)) (f : List ℕ) (d : Deed) → frames ≡ f ∷ older → step s e (move.Deliver f) ≡ d → entry_on s e (delivery (back_th 1 frames)) ≡ Some (entry_of s e d)
delivered_entry s e frames older f d h k = ap (λ frames. entry_on s e (delivery (back_th 1 frames))) h ∙ ap (λ d. Some (entry_of s e d)) k

-- the slave's entry in which it answers the master's Reset frame
abbrev pub reset_answer : (ms : MasterSettings) → Partner ms → List Entry → Entry
reset_answer ms r w =
    entry_of (slave_of ms r) (deeds end_name.Slave w) (answering (reset_frame 0 ms.lengths.master) command.Reset (zero_load ms.lengths.master) (reset_frame 0 ms.lengths.slave))

reset-stepped : (ms : MasterSettings) (r : Partner ms) (w : List Entry) → IsOutside (both ms r w)
    → step (slave_of ms r) (deeds end_name.Slave w) (move.Deliver (reset_frame 0 ms.lengths.master)) ≡ answering (reset_frame 0 ms.lengths.master) command.Reset (zero_load ms.lengths.master) (reset_frame 0 ms.lengths.slave)
reset-stepped ms r w h =
    slave_rejoins (partner ms r) (deeds end_name.Slave w) (reset_frame 0 ms.lengths.master) (zero_load ms.lengths.master) h.phase (is_reset_frame (slave_of ms r) (deeds end_name.Slave w) ms.lengths.valid_master h.slave.none_kept)

-- where the master's Reset frame comes to the slave outside a session, that entry is next
reset-next : (ms : MasterSettings) (r : Partner ms) (w : List Entry) → IsOutside (both ms r w) → LastIs (both ms r w).master_sent (reset_frame 0 ms.lengths.master)
    → (entry_at ms (partner ms r) w (event.Deliver end_name.Slave 1) ≡ Some (reset_answer ms r w)) × IsNextEntry (slave_of ms r) (reset_answer ms r w) (deeds end_name.Slave w)
reset-next ms r w h last = (
  delivered_entry (slave_of ms r) (deeds end_name.Slave w) (own (deeds end_name.Master w)) last.older (reset_frame 0 ms.lengths.master) _ last.is (reset-stepped ms r w h),
  record { proper = tt; stepped = ap (entry_of (slave_of ms r) (deeds end_name.Slave w)) (sym (reset-stepped ms r w h)) },
)

-- the slave's Reset frame is on its way then
reset-replied : (ms : MasterSettings) (r : Partner ms) (w : List Entry) → IsOutside (both ms r w) → LastIs (both ms r w).master_sent (reset_frame 0 ms.lengths.master) → (both ms r w).to_master ≡ 0
    → number_to comes_new end_name.Slave (reset_answer ms r w ∷ w) ≡ 1 → IsReplied ms (both ms r (reset_answer ms r w ∷ w))
reset-replied ms r w h last none one = record { begins = search (rules, fresh, own, newest); asked = last }

-- the master's Reset frame comes to the slave
pub asked_delivered : (ms : MasterSettings) (r : Partner ms) (w : List Entry) → is_coming end_name.Slave w ≡ true → IsAsked ms (both ms r w) → Goes ms r w end_name.Slave
asked_delivered ms r w coming h =
    let next = reset-next ms r w h.outside h.last in (
      reset_answer ms r w,
      record {
        is = next.0;
        follows = next.1;
        not_other = refl;
        no_reset = refl;
        at = refl;
        delivers = refl;
        taken = refl;
        answers = refl;
        takes_data = sym (ap (nat_le (exchanges ms)) h.slave_count ∙ none_yet (session_pieces ms) (connection_pieces ms) (parameter_pieces ms));
      },
      Replied (reset-replied ms r w h.outside h.last h.master_count (counted _ _ 0 coming h.slave_count)),
    )

-- and again: the slave answers with the same Reset frame
pub asked_again : (ms : MasterSettings) (r : Partner ms) (w : List Entry) → is_coming end_name.Slave w ≡ false → IsReplied ms (both ms r w)
    → Enters ms r w (event.Deliver end_name.Slave 1) (reset_answer ms r w) × IsReplied ms (both ms r (reset_answer ms r w ∷ w))
asked_again ms r w none h =
    let next = reset-next ms r w h.begins.outside h.asked in
    let same : back_th 1 (own (deeds end_name.Slave w)) ≡ Some (reset_frame 0 ms.lengths.slave) = ap (back_th 1) h.begins.last.is in (
      record {
        is = next.0;
        follows = next.1;
        not_other = refl;
        no_reset = refl;
        once = record { taken = λ k. refl; repeated = λ k. IsAnswered (record { by_slave = refl; in_reset = refl; of_reset = refl; same_answer = same }) };
        takes_data = sym (ap (λ b. b && nat_le (exchanges ms) (number_to comes_new end_name.Slave w)) none);
      },
      reset-replied ms r w h.begins.outside h.asked h.begins.master_count (ap (λ b. if b then suc (number_to comes_new end_name.Slave w) else number_to comes_new end_name.Slave w) none ∙ h.begins.slave_count),
    )

-- the slave's Reset frame comes to the master
pub replied_delivered : (ms : MasterSettings) (r : Partner ms) (w : List Entry) → is_coming end_name.Master w ≡ true → IsReplied ms (both ms r w) → Goes ms r w end_name.Master
replied_delivered ms r w coming replied =
    let h : IsBeginning (both ms r w) (own (deeds end_name.Slave w)) (items_of end_name.Slave (items w)) ms.lengths.slave 1 = replied.begins in
    let em : List Deed = deeds end_name.Master w in
    let es : List Deed = deeds end_name.Slave w in
    let f : List ℕ = reset_frame 0 ms.lengths.slave in
    let load : List ℕ = zero_load ms.lengths.slave in
    let id : ℕ = session_id (OfMaster ms) (received f command.Reset load em) in
    let made : List ℕ = padded (piece (session_payload id ms.profile) (width ms) 1) ms.lengths.master in
    let long : length made ≡ ms.lengths.master = piece_filled (OfMaster ms) (session_payload id ms.profile) 1 in
    let g : List ℕ = seal (master_of ms) (answering f command.Reset load [] ∷ since em) 0 command.Session made in
    let d : Deed = answering f command.Reset load g in
    let stepped : step (master_of ms) em (move.Deliver f) ≡ d =
    master_starts ms em f _ (ap phase_sent h.outside.master.none_sent) (is_reset_frame (master_of ms) em ms.lengths.valid_slave h.outside.master.none_kept) in (
      entry_of (master_of ms) em d,
      search (rules, delivered_entry, own, none_yet),
      Down (record {
        id = id;
        command = command.Session;
        p = state.Reset;
        a = 0;
        b = 0;
        d = 0;
        k = 0;
        conn = 0;
        load = made;
        frame = g;
        last = record { older = own em; is = refl };
        before = record { frame = f; last = h.last; is = refl; long = reset_long ms.lengths.slave ms.lengths.valid_slave };
        in_session = refl;
        way = first_on_its_way (master_of ms) (slave_of ms r) (since em) (since es) f load 0 command.Session made long refl h.outside.master h.outside.slave;
        turn = Starts;
        carries = (refl, refl);
        master = search rules;
        slave = search rules;
        newest = newest-next _ _ _ f g h.newest refl (ap (λ xs. number_if f (newest xs)) h.newest.is ∙ number-found f h.newest.item h.newest.bytes_are) refl;
        master_count = counted _ _ 0 coming h.master_count;
        slave_count = h.slave_count;
      }),
    )

other-command : (c : Command) → is_reset c ≡ false → c ≢ command.Reset
other-command c h = λ k. let b : is_reset c ≡ true = ap is_reset k in cc

-- the frame that is sealed next differs from the one before it
differ : (s : Setup) (e : List Deed) (f : List ℕ) (d : Deed) → IsRun s e → step s e (move.Deliver f) ≡ d → d.what ≡ move.Deliver f → has_command command.Reset d.sent ≡ false → NeighboursDiffer (sends s) (own (d ∷ since e))
differ s e f d r h what n =
    let next : IsNext s d e = record { proper = subst (λ m. IsProper s m) (sym what) tt; stepped = sym h ∙ ap (step s e) (sym what) } in
    subst (λ (u : List Deed). NeighboursDiffer (sends s) (own u)) (since_on d e n) (neighbours s (d ∷ e) (next, r))

pub some_session : (ms : MasterSettings) → 0 < session_pieces ms
some_session ms = search rules

pub some_connection : (ms : MasterSettings) → 0 < connection_pieces ms
some_connection ms = some_piece 4 (width ms) (some_width ms) (omega arith)

pub some_parameter : (ms : MasterSettings) → 0 < parameter_pieces ms
some_parameter ms = some_piece (id_len ms.profile + 4 + length ms.app) (width ms) (some_width ms) (omega arith)

-- the master's frame comes to the slave
pub down_delivered : (ms : MasterSettings) (r : Partner ms) (w : List Entry) → Accepts ms r → IsWorld ms (partner ms r) w → is_coming end_name.Slave w ≡ true → IsDown ms r (both ms r w) → Goes ms r w end_name.Slave
down_delivered ms r w accepts world coming h =
    let em : List Deed = deeds end_name.Master w in
    let es : List Deed = deeds end_name.Slave w in
    let run : IsRun (slave_of ms r) es = deeds_are_run ms (partner ms r) end_name.Slave w world in
    let f : List ℕ = h.frame in
    let c : Command = h.command in
    let valid : IsValid (slave_of ms r) es f c h.load = slave_valid ms r h.id (since em) es c h.p h.a h.b h.d h.k h.conn h.load f accepts h.way h.slave h.turn h.carries in
    let conn : (frame_of ms.lengths.master f).conn ≡ h.conn = ap (λ (g : Frame). g.conn) h.way.frame in
    let after : (g : List ℕ) → SlaveAt ms h.id (answering f c h.load g ∷ since es) (phase_of c) (more state.Session c h.a) (more state.Connection c h.b) (more state.Parameter c h.d) =
    λ g. slave_after ms h.id (since es) c h.p h.a h.b h.d h.conn h.load f g h.way.tail h.slave h.way.head conn h.carries in
    let x : Reply ms r h.id es f c h.load (more state.Session c h.a) (more state.Connection c h.b) (more state.Parameter c h.d) =
    reply ms r h.id es f h.load c h.a h.b h.d h.conn (offer_len (slave_of ms r) es run) (some_conn _ _ _ c h.p h.a h.b h.d h.k (some_connection ms) h.turn) h.carries (after []) in
    let g : List ℕ = seal (slave_of ms r) (answering f c h.load [] ∷ since es) x.conn x.command x.made in
    let d : Deed = answering f c h.load g in
    let stepped : step (slave_of ms r) es (move.Deliver f) ≡ d =
    takes_valid (slave_of ms r) es f h.load c (other-command c h.in_session) valid ∙ ap (answering f c h.load) x.is in
    let in_session : has_command command.Reset g ≡ false = head_on x.command x.in_session in
    let spot : Spot (session_pieces ms) (connection_pieces ms) (parameter_pieces ms) (phase_of c) (more state.Session c h.a) (more state.Connection c h.b) (more state.Parameter c h.d) (suc h.k) =
    spot_after _ _ _ c h.p h.a h.b h.d h.k (some_session ms) (some_connection ms) (some_parameter ms) h.turn in (
      entry_of (slave_of ms r) es d,
      search (rules, delivered_entry, own, none_other, data_phase_taken, spot_data, at_least),
      Up (record {
        id = h.id;
        command = x.command;
        a = more state.Session c h.a;
        b = more state.Connection c h.b;
        d = more state.Parameter c h.d;
        k = suc h.k;
        conn = x.conn;
        load = x.made;
        frame = g;
        last = record { older = own es; is = refl };
        before = record { frame = f; last = h.last; is = ap kept (since_on d es in_session); long = h.way.long };
        in_session = x.in_session;
        way = subst (λ (v : List Deed). OnItsWay (slave_of ms r) (master_of ms) v (since em) x.conn x.command x.made g) (sym (since_on d es in_session))
            (next_on_its_way (master_of ms) (slave_of ms r) (since em) (since es) h.conn c h.load f x.conn x.command x.made h.load refl h.in_session x.in_session x.long h.way (differ (slave_of ms r) es f d run stepped refl in_session));
        spot = subst (λ (p : State). Spot (session_pieces ms) (connection_pieces ms) (parameter_pieces ms) p (more state.Session c h.a) (more state.Connection c h.b) (more state.Parameter c h.d) (suc h.k)) (sym x.same) spot;
        replies = x.replies;
        master = subst (λ (p : State). MasterAt ms h.id em p (more state.Session c h.a) (more state.Connection c h.b) (more state.Parameter c h.d)) (sym x.same) h.master;
        slave = subst (λ (v : List Deed). SlaveAt ms h.id v (phase_of x.command) (more state.Session c h.a) (more state.Connection c h.b) (more state.Parameter c h.d)) (sym (since_on d es in_session))
            (subst (λ (p : State). SlaveAt ms h.id (d ∷ since es) p (more state.Session c h.a) (more state.Connection c h.b) (more state.Parameter c h.d)) (sym x.same) (after g));
        newest = newest-next _ _ _ f g h.newest.newest refl (taken_number _ _ f c h.newest) in_session;
        master_count = h.master_count;
        slave_count = counted _ _ (suc h.k) coming h.slave_count;
      }),
    )

-- the slave's answer comes to the master
pub up_delivered : (ms : MasterSettings) (r : Partner ms) (w : List Entry) → IsWorld ms (partner ms r) w → is_coming end_name.Master w ≡ true → IsUp ms r (both ms r w) → Goes ms r w end_name.Master
up_delivered ms r w world coming h =
    let em : List Deed = deeds end_name.Master w in
    let es : List Deed = deeds end_name.Slave w in
    let run : IsRun (master_of ms) em = deeds_are_run ms (partner ms r) end_name.Master w world in
    let f : List ℕ = h.frame in
    let c : Command = h.command in
    let valid : IsValid (master_of ms) em f c h.load = master_valid ms r h.id (since es) em c (phase_of c) h.a h.b h.d h.conn h.load f h.in_session refl h.way h.master h.replies in
    let x : Next ms h.id em f c h.load (answer (master_of ms) (received f c h.load em) (record { command = c; load = h.load })) (phase_of c) h.a h.b h.d h.k =
    next ms h.id em f c h.load h.a h.b h.d h.k h.in_session (offer_len (master_of ms) em run) h.spot h.master in
    let g : List ℕ = seal (master_of ms) (answering f c h.load [] ∷ since em) x.conn x.command x.made in
    let d : Deed = answering f c h.load g in
    let stepped : step (master_of ms) em (move.Deliver f) ≡ d =
    takes_valid (master_of ms) em f h.load c (other-command c h.in_session) valid ∙ ap (answering f c h.load) x.is in
    let in_session : has_command command.Reset g ≡ false = head_on x.command x.in_session in (
      entry_of (master_of ms) em d,
      search (rules, delivered_entry, own, none_other, data_phase_taken, spot_data, at_least),
      Down (record {
        id = h.id;
        command = x.command;
        p = phase_of c;
        a = h.a;
        b = h.b;
        d = h.d;
        k = h.k;
        conn = x.conn;
        load = x.made;
        frame = g;
        last = record { older = own em; is = refl };
        before = record { frame = f; last = h.last; is = ap kept (since_on d em in_session); long = h.way.long };
        in_session = x.in_session;
        way = subst (λ (v : List Deed). OnItsWay (master_of ms) (slave_of ms r) v (since es) x.conn x.command x.made g) (sym (since_on d em in_session))
            (next_on_its_way (slave_of ms r) (master_of ms) (since es) (since em) h.conn c h.load f x.conn x.command x.made h.load refl h.in_session x.in_session x.long h.way (differ (master_of ms) em f d run stepped refl in_session));
        turn = x.turn;
        carries = x.carries;
        master = master_after ms h.id em (answering f c h.load [] ∷ since em) f c x.command h.load x.made (phase_of c) h.a h.b h.d x.conn x.in_session h.master;
        slave = h.slave;
        newest = newest-next _ _ _ f g h.newest.newest refl (taken_number _ _ f c h.newest) in_session;
        master_count = counted _ _ h.k coming h.master_count;
        slave_count = h.slave_count;
      }),
    )
