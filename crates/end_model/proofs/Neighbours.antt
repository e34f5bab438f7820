-- Frames that one end sends after one another in a session have different CRC_0.
use Rattle.end_model.proofs.Common.{Answers, Command, Deed, Did, Expires, Frame, IsRun, Link, Move, OfMaster, OfSlave, PeerResets, Reaction, Refuses, ResetsItself, SendsAgain, Setup, Taking, command_byte, first_of, frame_of, is_empty, newest_crc, offer, own, own_link, received, receives, sends, since, taken, takes_frame, with_answer}
use Rattle.std.proofs.Common.{◌≡◌, ℕ, ◌<◌, List, [], ◌∷◌, length, Bool, Option, Some, None, IfSome, if◌then◌else◌, refl, sym, subst, arith, rules}
use Rattle.fsoe_base.specs.declared.command.Command.TheVariants as command
use Rattle.seq_chain.specs.Sealing as sealing
use Rattle.seq_chain.proofs.Steps.{number_within, after_link}
use Rattle.param_load.specs.declared.entry.Move.TheVariants as move
use Rattle.end_model.specs.Neighbours.{IsOtherThanNewest, NeighboursDiffer}
use Rattle.end_model.proofs.Heads.{IsInSession}
use Rattle.end_model.proofs.SoundRuns.{reacted}
use Rattle.end_model.proofs.Taken.{exchange_of, answer_is, master_answers}
use Rattle.end_model.proofs.ReadBack.{valid_length, read_back}
use Rattle.end_model.proofs.SealedFrames.{IsSealed, master_sealed, slave_sealed, offer_len}
use Rattle.end_model.proofs.IdFront.{positive}

-- what is noted of the newest frame: a number of 16 bits and the frame's CRC_0
abbrev IsNoted : ℕ → Option Link → List (List ℕ) → Type 0
IsNoted l None [] = Unit {0}
IsNoted l (Some link) (f ∷ frames) = (link.number < 65536) × (link.crc ≡ first_of (frame_of l f).crcs)
IsNoted _ _ _ = ⊥

within : (l : ℕ) (before : Option Link) (frames : List (List ℕ)) → IsNoted l before frames → IfSome before (λ link. link.number < 65536)
within l before frames h = grind arith

adds : (l : ℕ) (none : Bool) (before : Option Link) (link : Link) (frames : List (List ℕ)) (f : List ℕ) → IsNoted l before frames → link.number < 65536 → link.crc ≡ first_of (frame_of l f).crcs
    → IsNoted l (if none then before else Some link) (if none then frames else f ∷ frames)
adds l none before link frames f h k m = grind arith

noted : (s : Setup) (e : List Deed) → IsNoted (sends s) (own_link s e) (own e)
noted s [] = tt
noted s (x ∷ e) =
    let f : Frame = frame_of (sends s) x.sent in
    let last : ℕ = newest_crc (receives s) (taken (x ∷ e)) in
    adds (sends s) (is_empty x.sent) (own_link s e) (sealing.noted last (own_link s e) f) (own e) x.sent (noted s e)
    (number_within last f.conn f.cmd (own_link s e) f.load (within (sends s) (own_link s e) (own e) (noted s e))).1 refl

-- what is sealed next has another CRC_0
other : (l last conn cmd : ℕ) (before : Option Link) (load : List ℕ) (frames : List (List ℕ)) → IsNoted l before frames → 0 < length load
    → IsOtherThanNewest l (first_of (sealing.sealed last before conn cmd load).crcs) frames
other l last conn cmd before load frames h k = search (rules, after_link)

other_sent : (s : Setup) (m : Move) (did : Did) (e : List Deed) (f : List ℕ) → IsSealed s (record { what = m; did = did; sent = [] } ∷ e) f → IsOtherThanNewest (sends s) (first_of (frame_of (sends s) f).crcs) (own (since e))
other_sent s m did e f h =
    let some : 0 < length h.load = let sent = positive (sends s) (valid_length s) in let len = h.len in omega arith in
    let draft : List Deed = record { what = m; did = did; sent = [] } ∷ since e in
    subst (λ (g : List ℕ). IsOtherThanNewest (sends s) (first_of (frame_of (sends s) g).crcs) (own (since e))) (sym h.is)
    (subst (λ (g : Frame). IsOtherThanNewest (sends s) (first_of g.crcs) (own (since e))) (sym (read_back s draft h.conn h.command h.load h.len))
    (other (sends s) (newest_crc (receives s) (taken draft)) h.conn (command_byte h.command) (own_link s (since e)) h.load (own (since e)) (noted s (since e)) some))

-- a session's frame is the newest of the session
newest : (s : Setup) (e : List Deed) (x : Deed) → IsInSession x.sent → own (since (x ∷ e)) ≡ x.sent ∷ own (since e)
newest s e x h = rw (h.in_session, h.sent)

goes_on : (s : Setup) (e : List Deed) (m : Move) (did : Did) (f : List ℕ) → IsInSession f → IsSealed s (record { what = m; did = did; sent = [] } ∷ e) f
    → NeighboursDiffer (sends s) (own (since e)) → NeighboursDiffer (sends s) (own (since (record { what = m; did = did; sent = f } ∷ e)))
goes_on s e m did f h k l = search (rules, newest, other_sent)

answers : (s : Setup) (e : List Deed) (bytes load : List ℕ) (c : Command) (f : List ℕ) → Taking e bytes load s c f → length (offer s e) ≡ sends s → NeighboursDiffer (sends s) (own (since e))
    → NeighboursDiffer (sends s) (own (since (with_answer bytes c load f e)))
answers (OfMaster ms) e bytes load c f taking len so_far =
    let draft : List Deed = received bytes c load e in
    goes_on (OfMaster ms) e (move.Deliver bytes) (takes_frame c load) f (master_answers e bytes load ms c f taking)
    (subst (IsSealed (OfMaster ms) draft) (sym (answer_is e bytes load (OfMaster ms) c f taking)) (master_sealed ms draft c len)) so_far
answers (OfSlave ss) e bytes load command.Reset f taking len so_far =
    subst (λ (f : List ℕ). NeighboursDiffer (sends (OfSlave ss)) (own (since (with_answer bytes command.Reset load f e)))) (sym (answer_is e bytes load (OfSlave ss) command.Reset f taking)) tt
answers (OfSlave ss) e bytes load c f taking len so_far =
    let draft : List Deed = received bytes c load e in
    goes_on (OfSlave ss) e (move.Deliver bytes) (takes_frame c load) f (exchange_of e bytes load (OfSlave ss) c f taking (λ k. cc)).2.in_session
    (subst (IsSealed (OfSlave ss) draft) (sym (answer_is e bytes load (OfSlave ss) c f taking)) (slave_sealed ss draft c load refl len)) so_far

-- one more deed: an answer is another frame, a Reset frame begins a session, and else none is sent
more : (s : Setup) (e : List Deed) (m : Move) (did : Did) (sent : List ℕ) → length (offer s e) ≡ sends s → NeighboursDiffer (sends s) (own (since e)) → Reaction s e m did sent
    → NeighboursDiffer (sends s) (own (since (record { what = m; did = did; sent = sent } ∷ e)))
more s e m did sent len so_far (Answers bytes load c answer taking) = answers s e bytes load c answer taking len so_far
more s e m did sent len so_far (Expires now old) = tt
more s e m did sent len so_far (SendsAgain master now old) = tt
more s e m did sent len so_far ResetsItself = tt
more s e m did sent len so_far (Refuses bytes passed found now fails test) = tt
more s e m did sent len so_far (PeerResets bytes load now frame) = tt
more s e m did sent len so_far _ = so_far

pub neighbours : (s : Setup) (e : List Deed) → IsRun s e → NeighboursDiffer (sends s) (own (since e))
neighbours s [] r = tt
neighbours s (x ∷ e) r = more s e x.what x.did x.sent (offer_len s e r.1) (neighbours s e r.1) (reacted s x e r)
