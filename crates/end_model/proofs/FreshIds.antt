-- What a fresh session id excludes for certain, at a slave and at a master.
use Rattle.end_model.proofs.Common.{Command, Deed, DifferInFront, EndsByCrcs, Frame, IsRun, IsValid, Link, MasterSettings, NotByStep, OfMaster, OfSlave, Profile, Setup, SlaveSettings, Valid, allowed, command_of, crc_0, first_of, fits_session, frame_of, has_conn, id_front, id_len, kept, length-take, nat_tests, newest_crc, nonce, own, parts, piece_len, receives, sends, session_id, since, slave_allows, state_of, step_in_last, taken, taken_link, verdict, whole}
use Rattle.std.proofs.Common.{◌≡◌, ◌≢◌, ℕ, ◌<◌, ◌≤◌, nat_le, List, [], ◌∷◌, length, take, bit_xor, Bool, true, false, Option, Some, None, IsTrue, unwrap_or, sym, ap, ◌∙◌, arith, rules}
use Rattle.fsoe_base.specs.declared.command.State.TheVariants as state
use Rattle.fsoe_base.specs.declared.command.Command.TheVariants as command
use Rattle.fsoe_frame.proofs.Places as places
use Rattle.seq_chain.specs.Sealing as sealing
use Rattle.seq_chain.proofs.AnotherLast.{first_refused, second_refused}
use Rattle.seq_chain.proofs.FirstGroups.{first_told, differ_in_load, crc_0_within}
use Rattle.seq_chain.proofs.Received.{received_some}
use Rattle.end_model.proofs.CrcTest.{ComesToCrcs, valid_is, crc_refused}
use Rattle.end_model.proofs.IdFront.{first_load, load_bytes, load_len, front_is}
use Rattle.end_model.proofs.NoneYet.{none_taken_link, valid_received}
use Rattle.end_model.proofs.FirstTaken.{TookFirst, took_first}
use Rattle.end_model.proofs.FirstSent.{SentFirst, sent_first}

-- the frames with the first pieces of two ids that differ in front have different CRC_0
crc_differs : (s : Setup) (p : Profile) (last id id' : ℕ) → DifferInFront s id id' → crc_0 last 0 1 0x4E (first_load s p id) ≢ crc_0 last 0 1 0x4E (first_load s p id')
crc_differs s p last id id' differ =
    first_told last 0 1 0x4E (first_load s p id) (first_load s p id') (load_len s p id ∙ sym (load_len s p id')) (load_bytes s p id) (load_bytes s p id')
    (λ e. differ (sym (front_is s p id) ∙ e ∙ front_is s p id'))

-- and these differ by the step only where the ids do
not_by_step : (s : Setup) (p : Profile) (last id id' : ℕ) → NotByStep s id id' → bit_xor (crc_0 last 0 1 0x4E (first_load s p id)) (crc_0 last 0 1 0x4E (first_load s p id')) ≢ step_in_last
not_by_step s p last id id' h = search (rules, front_is, differ_in_load, load_len, load_bytes)

-- a frame that was read has safe data
some_load : (s : Setup) (e : List Deed) (bytes : List ℕ) (c : Command) (load : List ℕ) → IsValid s e bytes c load → 0 < length (parts s bytes).load
some_load s e bytes c load v = received_some (receives s) bytes (valid_received s) v.is_read.has_length

-- what fits is decided by the CRC_0 of the newest own frame and by what is noted of the newest one taken
fits_by : (s : Setup) (e : List Deed) (f : Frame) (last : ℕ) (before : Option Link) → newest_crc (sends s) (own (since e)) ≡ last → taken_link s (since e) ≡ before → fits_session s (since e) f ≡ sealing.fits last before f
fits_by s e f last before own_is taken_is = ap (λ n. sealing.fits n (taken_link s (since e)) f) own_is ∙ ap (λ b. sealing.fits last b f) taken_is

-- a frame of a session that is refused by its CRCs ends the session in state Session
ends : (s : Setup) (e : List Deed) (bytes : List ℕ) (c : Command) → state_of s e ≡ state.Session → ComesToCrcs s e bytes c → EndsByCrcs s e bytes
ends s e bytes c h k = search (rules, crc_refused)

-- at a slave what is allowed, and which connection ids are right, doesn't depend on its session id
slave_allowed : (ss : SlaveSettings) (e : List Deed) (first : List ℕ) (id : ℕ) (c : Command) → TookFirst ss e first id
    → allowed (OfSlave ss) e c ≡ slave_allows state.Session (whole ss.profile state.Session (take (piece_len (OfSlave ss)) (frame_of (receives (OfSlave ss)) first).load)) c
slave_allowed ss e first id c h = cc

slave_conn_right : (ss : SlaveSettings) (e e' : List Deed) (first : List ℕ) (c : Command) (field : ℕ) → taken (since e) ≡ first ∷ [] → taken (since e') ≡ first ∷ [] → has_conn (OfSlave ss) e c field ≡ has_conn (OfSlave ss) e' c field
slave_conn_right ss e e' first c field h k = cc

slave_refuses : (ss : SlaveSettings) (e e' : List Deed) (first bytes load : List ℕ) (c : Command) (id id' : ℕ) → TookFirst ss e first id → TookFirst ss e' first id' → taken (since e) ≡ first ∷ [] → taken (since e') ≡ first ∷ []
    → DifferInFront (OfSlave ss) id id' → NotByStep (OfSlave ss) id id' → c ≢ command.Reset → IsValid (OfSlave ss) e bytes c load → EndsByCrcs (OfSlave ss) e' bytes
slave_refuses ss e e' first bytes load c id id' t t' h h' differ by n v =
    let s : Setup = OfSlave ss in
    let f : Frame = parts s bytes in
    let crc : ℕ = first_of (frame_of (receives s) first).crcs in
    let before : Option Link = Some (record { number = 1; crc = crc }) in
    let last : ℕ = crc_0 crc 0 1 0x4E (first_load s ss.profile id) in
    let last' : ℕ = crc_0 crc 0 1 0x4E (first_load s ss.profile id') in
    let fitted : IsTrue (sealing.fits last before f) = sym (fits_by s e f last before t.crc_is t.link_is) ∙ v.does_fit in
    let refused : sealing.fits last' before f ≡ false =
    second_refused last last' crc f (crc_0_within crc 0 1 0x4E (first_load s ss.profile id)) (crc_0_within crc 0 1 0x4E (first_load s ss.profile id'))
    (crc_differs s ss.profile crc id id' differ) (not_by_step s ss.profile crc id id' by) (some_load s e bytes c load v) fitted in
    ends s e' bytes c t'.state_is
    (grind (arith, slave_allowed, slave_conn_right, fits_by))

pub old_frame_refused : (ss : SlaveSettings) (e e' : List Deed) (first bytes load : List ℕ) (c : Command) → IsRun (OfSlave ss) e → IsRun (OfSlave ss) e' → taken (since e) ≡ first ∷ [] → taken (since e') ≡ first ∷ []
    → DifferInFront (OfSlave ss) (session_id (OfSlave ss) e) (session_id (OfSlave ss) e') → NotByStep (OfSlave ss) (session_id (OfSlave ss) e) (session_id (OfSlave ss) e')
    → c ≢ command.Reset → verdict (OfSlave ss) e bytes ≡ Valid c load → EndsByCrcs (OfSlave ss) e' bytes
old_frame_refused ss e e' first bytes load c r r' h h' differ by n v =
    let s : Setup = OfSlave ss in
    let t : (id : ℕ) × TookFirst ss e first id = took_first ss e first r h in
    let t' : (id : ℕ) × TookFirst ss e' first id = took_first ss e' first r' h' in
    let id_is : session_id s e ≡ t.0 = ap (λ id. unwrap_or id (nonce s e)) t.1.id_is in
    let id_is' : session_id s e' ≡ t'.0 = ap (λ id. unwrap_or id (nonce s e')) t'.1.id_is in
    slave_refuses ss e e' first bytes load c t.0 t'.0 t.1 t'.1 h h'
    (λ k. differ (ap (id_front s) id_is ∙ k ∙ sym (ap (id_front s) id_is')))
    (λ k. by (ap (λ id. bit_xor (id_front s id) (id_front s (session_id s e'))) id_is ∙ ap (λ id. bit_xor (id_front s t.0) (id_front s id)) id_is' ∙ k))
    n (valid_is s e bytes c load n v)

-- how much of the session id a slave's first Session frame brings
first_len : (ss : SlaveSettings) (e : List Deed) (first : List ℕ) (id : ℕ) → TookFirst ss e first id → length (take (piece_len (OfSlave ss)) (frame_of (receives (OfSlave ss)) first).load) ≡ piece_len (OfSlave ss)
first_len ss e first id t =
    let load : length (frame_of (receives (OfSlave ss)) first).load ≡ receives (OfSlave ss) = (places.whole (receives (OfSlave ss)) first (valid_received (OfSlave ss)) t.len_is).load in
    omega (arith, length-take (piece_len (OfSlave ss)) (frame_of (receives (OfSlave ss)) first).load)

allowed_by_len : (ss : SlaveSettings) (e : List Deed) (first : List ℕ) (id : ℕ) (c : Command) → TookFirst ss e first id → allowed (OfSlave ss) e c ≡ slave_allows state.Session (nat_le (id_len ss.profile) (piece_len (OfSlave ss))) c
allowed_by_len ss e first id c t = slave_allowed ss e first id c t ∙ ap (λ n. slave_allows state.Session (nat_le (id_len ss.profile) n) c) (first_len ss e first id t)

next_allowed : (ss : SlaveSettings) (e : List Deed) (first bytes load : List ℕ) (c : Command) (whole : Bool) → IsRun (OfSlave ss) e → taken (since e) ≡ first ∷ [] → nat_le (id_len ss.profile) (piece_len (OfSlave ss)) ≡ whole
    → c ≢ command.Reset → verdict (OfSlave ss) e bytes ≡ Valid c load → slave_allows state.Session whole c ≡ true
next_allowed ss e first bytes load c whole r h is n v =
    let t : (id : ℕ) × TookFirst ss e first id = took_first ss e first r h in
    ap (λ b. slave_allows state.Session b c) (sym is) ∙ sym (allowed_by_len ss e first t.0 c t.1) ∙ (valid_is (OfSlave ss) e bytes c load n v).is_allowed

after_whole : (c : Command) → slave_allows state.Session true c ≡ true → c ≡ command.Connection
after_whole c h = grind arith

after_part : (c : Command) → slave_allows state.Session false c ≡ true → c ≡ command.Session
after_part c h = grind arith

pub connection_next : (ss : SlaveSettings) (e : List Deed) (first bytes load : List ℕ) (c : Command) → IsRun (OfSlave ss) e → taken (since e) ≡ first ∷ [] → id_len ss.profile ≤ piece_len (OfSlave ss)
    → c ≢ command.Reset → verdict (OfSlave ss) e bytes ≡ Valid c load → c ≡ command.Connection
connection_next ss e first bytes load c r h room n v = after_whole c (next_allowed ss e first bytes load c true r h (grind (arith, nat_tests)) n v)

pub session_next : (ss : SlaveSettings) (e : List Deed) (first bytes load : List ℕ) (c : Command) → IsRun (OfSlave ss) e → taken (since e) ≡ first ∷ [] → piece_len (OfSlave ss) < id_len ss.profile
    → c ≢ command.Reset → verdict (OfSlave ss) e bytes ≡ Valid c load → c ≡ command.Session
session_next ss e first bytes load c r h short n v = after_part c (next_allowed ss e first bytes load c false r h (grind (arith, nat_tests)) n v)

-- the Reset frame that a master keeps isn't an answer
not_kept : (ms : MasterSettings) (e : List Deed) (bytes : List ℕ) (id : ℕ) (c : Command) → SentFirst ms e id → c ≢ command.Reset → command_of (parts (OfMaster ms) bytes).cmd ≡ Some c → kept (since e) ≢ Some bytes
not_kept ms e bytes id c h k l = grind arith

master_refuses : (ms : MasterSettings) (e e' : List Deed) (bytes load : List ℕ) (c : Command) (id id' : ℕ) → SentFirst ms e id → SentFirst ms e' id' → state_of (OfMaster ms) e ≡ state.Session → state_of (OfMaster ms) e' ≡ state.Session
    → taken (since e) ≡ [] → taken (since e') ≡ [] → DifferInFront (OfMaster ms) id id' → c ≢ command.Reset → IsValid (OfMaster ms) e bytes c load → EndsByCrcs (OfMaster ms) e' bytes
master_refuses ms e e' bytes load c id id' t t' now now' h h' differ n v =
    let s : Setup = OfMaster ms in
    let f : Frame = parts s bytes in
    let last : ℕ = crc_0 0 0 1 0x4E (first_load s ms.profile id) in
    let last' : ℕ = crc_0 0 0 1 0x4E (first_load s ms.profile id') in
    let fitted : IsTrue (sealing.fits last None f) = sym (fits_by s e f last None t.crc_is (none_taken_link s (since e) h)) ∙ v.does_fit in
    let refused : sealing.fits last' None f ≡ false =
    first_refused last last' f (crc_0_within 0 0 1 0x4E (first_load s ms.profile id)) (crc_0_within 0 0 1 0x4E (first_load s ms.profile id'))
    (crc_differs s ms.profile 0 id id' differ) (some_load s e bytes c load v) fitted in
    ends s e' bytes c now'
    (search (rules, not_kept, fits_by, none_taken_link))

pub old_answer_refused : (ms : MasterSettings) (e e' : List Deed) (bytes load : List ℕ) (c : Command) → IsRun (OfMaster ms) e → IsRun (OfMaster ms) e' → state_of (OfMaster ms) e ≡ state.Session → state_of (OfMaster ms) e' ≡ state.Session
    → taken (since e) ≡ [] → taken (since e') ≡ [] → DifferInFront (OfMaster ms) (session_id (OfMaster ms) e) (session_id (OfMaster ms) e')
    → c ≢ command.Reset → verdict (OfMaster ms) e bytes ≡ Valid c load → EndsByCrcs (OfMaster ms) e' bytes
old_answer_refused ms e e' bytes load c r r' now now' h h' differ n v =
    let s : Setup = OfMaster ms in
    let t : (id : ℕ) × SentFirst ms e id = sent_first ms e r now h in
    let t' : (id : ℕ) × SentFirst ms e' id = sent_first ms e' r' now' h' in
    let id_is : session_id s e ≡ t.0 = ap (λ id. unwrap_or id (nonce s e)) t.1.id_is in
    let id_is' : session_id s e' ≡ t'.0 = ap (λ id. unwrap_or id (nonce s e')) t'.1.id_is in
    master_refuses ms e e' bytes load c t.0 t'.0 t.1 t'.1 now now' h h'
    (λ k. differ (ap (id_front s) id_is ∙ k ∙ sym (ap (id_front s) id_is')))
    n (valid_is s e bytes c load n v)
