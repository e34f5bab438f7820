-- Along a trace: what it tells after one more frame, and which frame that is.
use Rattle.trace_diag.proofs.Common.{Asked, Both, Chained, Command, Deed, Down, End, Entry, Event, IsDown, IsReplied, IsUp, MasterSettings, Noted, Partner, Replied, Stage, Up, both, chained, comes_new, command_byte, count_in, deed_in, deeds, frame_of, has_command, is_empty, master_of, number_to, own, padded, partner, peer, phase_due, phase_from, phase_of_frame, phase_sent, phase_taken, piece, reset_frame, same_end, session_payload, setup_of, since, since_on, slave_of, taken, turn, width}
use Rattle.std.proofs.Common.{◌≡◌, ◌==◌, ℕ, suc, List, ◌∷◌, Bool, true, false, refl, sym, ap, subst, ◌∙◌, ◌&&◌, if◌then◌else◌, arith}
use Rattle.fsoe_base.specs.declared.command.Command.TheVariants as command
use Rattle.fsoe_base.specs.declared.command.End.TheVariants as end_name
use Rattle.fsoe_base.specs.declared.command.State.TheVariants as state
use Rattle.trace_diag.proofs.Answering.{is_answered, its_end, sends_answer}
use Rattle.trace_diag.proofs.NextFrames.{from_down, from_up, reset_is_next, NextFrame}
use Rattle.trace_diag.proofs.Nonces.{sent_id_is, LeaveNonce, LeaveNonces}
use Rattle.trace_diag.proofs.Running.{end_of_setup, Reaches}
use Rattle.trace_diag.proofs.SentRows.{IsPlain}
use Rattle.trace_diag.proofs.Sets.{carries_id}
use Rattle.trace_diag.proofs.Tells.{not_reset, told_down, told_replied, told_up, Tells}

-- the entry of an end is its newest deed, and none of its peer's
pub deeds_of : (at : End) (x : Entry) (w : List Entry) → x.end ≡ at → deeds at (x ∷ w) ≡ deed_in x ∷ deeds at w
deeds_of at x w h = grind arith

deeds-other : (at : End) (x : Entry) (w : List Entry) → x.end ≡ at → deeds (peer at) (x ∷ w) ≡ deeds (peer at) w
deeds-other at x w h = grind arith

pub same_head : {A : Type 0} (a b : A) (s t : List A) → a ∷ s ≡ b ∷ t → a ≡ b
same_head a b s t e = cc

-- the end of an entry that an answer makes, and that it sends one
pub entry_end : (ms : MasterSettings) (r : Partner ms) (events : List Event) (w : List Entry) (at : End) (s : Reaches ms r events w at) → s.entry.end ≡ at
entry_end ms r events w at s = its_end (setup_of ms (partner ms r) at) (deeds at s.set) s.entry s.delivery ∙ end_of_setup ms r at

entry-sends : (ms : MasterSettings) (r : Partner ms) (events : List Event) (w : List Entry) (at : End) (s : Reaches ms r events w at) → is_empty s.entry.sent ≡ false
entry-sends ms r events w at s = is_answered (setup_of ms (partner ms r) at) (deeds at s.set) s.entry s.delivery s.no_reset s.taken

-- the frames of the end with that answer
all-sent : (ms : MasterSettings) (r : Partner ms) (events : List Event) (w : List Entry) (at : End) (s : Reaches ms r events w at) → own (deeds at (s.entry ∷ s.set)) ≡ s.entry.sent ∷ own (deeds at s.set)
all-sent ms r events w at s =
    ap own (deeds_of at s.entry s.set (entry_end ms r events w at s))
    ∙ ap (λ (none : Bool). if none then own (deeds at s.set) else s.entry.sent ∷ own (deeds at s.set)) (entry-sends ms r events w at s)

-- those of its session, where the answer is no Reset frame
session-sent : (ms : MasterSettings) (r : Partner ms) (events : List Event) (w : List Entry) (at : End) (s : Reaches ms r events w at) → has_command command.Reset s.entry.sent ≡ false
    → own (since (deeds at (s.entry ∷ s.set))) ≡ s.entry.sent ∷ own (since (deeds at s.set))
session-sent ms r events w at s no-reset =
    ap (λ (e : List Deed). own (since e)) (deeds_of at s.entry s.set (entry_end ms r events w at s))
    ∙ (ap own (since_on (deed_in s.entry) (deeds at s.set) no-reset)
    ∙ ap (λ (none : Bool). if none then own (since (deeds at s.set)) else s.entry.sent ∷ own (since (deeds at s.set))) (entry-sends ms r events w at s))

-- a slave's Session frame carries the piece of its session id that is that of its settings
answer-id : (ms : MasterSettings) (r : Partner ms) (events : List Event) (w : List Entry) (s : Reaches ms r events w end_name.Slave) → LeaveNonces w → has_command command.Session s.entry.sent ≡ true → has_command command.Reset s.entry.sent ≡ false
    → (frame_of ms.lengths.slave s.entry.sent).load ≡ padded (piece (session_payload r.slave.nonce ms.profile) (width ms) (count_in state.Session (taken (since (deeds end_name.Slave (s.entry ∷ s.set)))))) ms.lengths.slave
answer-id ms r events w s nonces session no-reset =
    subst (λ (e : List Deed). LeaveNonce e → (frame_of ms.lengths.slave s.entry.sent).load ≡ padded (piece (session_payload r.slave.nonce ms.profile) (width ms) (count_in state.Session (taken (since e)))) ms.lengths.slave)
    (sym (deeds_of end_name.Slave s.entry s.set (entry_end ms r events w end_name.Slave s)))
    (λ left. carries_id ms r (deeds end_name.Slave s.set) s.entry (sends_answer (slave_of ms r) (deeds end_name.Slave s.set) s.entry s.delivery s.no_reset s.taken) left session no-reset) (s.keeps nonces end_name.Slave)

-- what one more frame brings: it is the next one, and the trace tells more with it
pub record Brought (ms : MasterSettings) (r : Partner ms) (t : List Noted) (at : End) (g : List ℕ) (w : List Entry) : Type 0 where
  pub next : NextFrame ms r t g at
  pub tells : Tells ms (record { from = at; frame = g } ∷ t) (peer at) (both ms r w)

-- where the master has its turn, the slave is in the phase of the master's newest frame, and had a delivery
slave-phase : (ms : MasterSettings) (r : Partner ms) (x : Both) → Stage ms r x end_name.Master → x.phase ≡ phase_sent x.master.sent
slave-phase ms r x (Replied h) = h.begins.outside.phase ∙ sym (ap phase_sent h.begins.outside.master.none_sent)
slave-phase ms r x (Up h) = h.slave.phase ∙ sym h.master.phase

some-came : (ms : MasterSettings) (r : Partner ms) (x : Both) → Stage ms r x end_name.Master → x.to_slave ≡ 0 → ⊥
some-came ms r x h k = grind arith

-- the master answers
pub master_brought : (ms : MasterSettings) (r : Partner ms) (y : Noted) (t : List Noted) (events : List Event) (w : List Entry) (s : Reaches ms r events w end_name.Master) → IsPlain ms → turn (y ∷ t) ≡ end_name.Master
    → Stage ms r (both ms r w) end_name.Master → LeaveNonces w → Tells ms (y ∷ t) end_name.Master (both ms r w) → Brought ms r (y ∷ t) end_name.Master s.entry.sent (s.entry ∷ s.set)
master_brought ms r y t events w s plain turned-to old nonces told = by-stage s.on.stage
  where
    x' : Both
    x' = both ms r (s.entry ∷ s.set)

    ended : s.entry.end ≡ end_name.Master
    ended = entry_end ms r events w end_name.Master s

    slave-deeds : deeds end_name.Slave (s.entry ∷ s.set) ≡ deeds end_name.Slave s.set
    slave-deeds = deeds-other end_name.Master s.entry s.set ended

    same : x'.slave ≡ (both ms r w).slave
    same = ap (λ (e : List Deed). chained (slave_of ms r) (since e)) slave-deeds ∙ ap (λ (b : Both). b.slave) s.same

    phase-kept : x'.phase ≡ phase_sent (both ms r w).master.sent
    phase-kept = ap (λ (e : List Deed). phase_taken (since e)) slave-deeds ∙ (ap (λ (b : Both). b.phase) s.same ∙ slave-phase ms r (both ms r w) old)

    count-kept : x'.to_slave ≡ (both ms r w).to_slave
    count-kept = ap (λ (e : End). if same_end end_name.Slave e && comes_new s.entry s.set then suc (number_to comes_new end_name.Slave s.set) else number_to comes_new end_name.Slave s.set) ended ∙ ap (λ (b : Both). b.to_slave) s.same

    down : (h : IsDown ms r x') → Brought ms r (y ∷ t) end_name.Master s.entry.sent (s.entry ∷ s.set)
    down h = subst (λ (g : List ℕ). Brought ms r (y ∷ t) end_name.Master g (s.entry ∷ s.set)) (sym is) (record {
      next = from_down ms r y t (both ms r w) x' h plain id turned-to told more-sent same phase-kept;
      tells = told_down ms r (y ∷ t) (both ms r w) x' h id told more-sent same;
    })
      where
        is : s.entry.sent ≡ h.frame
        is = same_head s.entry.sent h.frame _ _ (sym (all-sent ms r events w end_name.Master s) ∙ h.last.is)

        no-reset : has_command command.Reset s.entry.sent ≡ false
        no-reset = ap (has_command command.Reset) is ∙ not_reset h.command h.frame h.way.tail h.way.head h.in_session

        more-sent : x'.master.sent ≡ h.frame ∷ (both ms r w).master.sent
        more-sent = session-sent ms r events w end_name.Master s no-reset ∙ (ap (λ (b : Both). s.entry.sent ∷ b.master.sent) s.same ∙ ap (λ (g : List ℕ). g ∷ (both ms r w).master.sent) is)

        id : h.id ≡ ms.nonce
        id = sent_id_is (master_of ms) (deeds end_name.Master (s.entry ∷ s.set)) h.id (s.keeps nonces end_name.Master) h.master.id_is

    by-stage : Stage ms r x' end_name.Slave → Brought ms r (y ∷ t) end_name.Master s.entry.sent (s.entry ∷ s.set)
    by-stage (Asked h) = absurd (some-came ms r (both ms r w) old (sym count-kept ∙ h.slave_count))
    by-stage (Down h) = down h

-- the slave answers
pub slave_brought : (ms : MasterSettings) (r : Partner ms) (y : Noted) (t : List Noted) (events : List Event) (w : List Entry) (s : Reaches ms r events w end_name.Slave) → IsPlain ms → turn (y ∷ t) ≡ end_name.Slave
    → LeaveNonces w → Tells ms (y ∷ t) end_name.Slave (both ms r w) → Brought ms r (y ∷ t) end_name.Slave s.entry.sent (s.entry ∷ s.set)
slave_brought ms r y t events w s plain turned-to nonces told = by-stage s.on.stage
  where
    x' : Both
    x' = both ms r (s.entry ∷ s.set)

    ended : s.entry.end ≡ end_name.Slave
    ended = entry_end ms r events w end_name.Slave s

    same : x'.master ≡ (both ms r w).master
    same = ap (λ (e : List Deed). chained (master_of ms) (since e)) (deeds-other end_name.Slave s.entry s.set ended) ∙ ap (λ (b : Both). b.master) s.same

    up : (h : IsUp ms r x') → Brought ms r (y ∷ t) end_name.Slave s.entry.sent (s.entry ∷ s.set)
    up h = subst (λ (g : List ℕ). Brought ms r (y ∷ t) end_name.Slave g (s.entry ∷ s.set)) (sym is) (record {
      next = from_up ms r y t (both ms r w) x' h plain turned-to told same id-is;
      tells = told_up ms r (y ∷ t) (both ms r w) x' h told same;
    })
      where
        is : s.entry.sent ≡ h.frame
        is = same_head s.entry.sent h.frame _ _ (sym (all-sent ms r events w end_name.Slave s) ∙ h.last.is)

        id-is : h.command ≡ command.Session → (frame_of ms.lengths.slave h.frame).load ≡ padded (piece (session_payload r.slave.nonce ms.profile) (width ms) h.a) ms.lengths.slave
        id-is session =
            ap (λ (g : List ℕ). (frame_of ms.lengths.slave g).load) (sym is)
            ∙ (answer-id ms r events w s nonces (ap (has_command command.Session) (is ∙ h.way.head) ∙ ap (λ (c : Command). command_byte c == 0x4E) session)
            (ap (has_command command.Reset) is ∙ not_reset h.command h.frame h.way.tail h.way.head h.in_session)
            ∙ ap (λ (n : ℕ). padded (piece (session_payload r.slave.nonce ms.profile) (width ms) n) ms.lengths.slave) h.slave.ids)

    replied : (h : IsReplied ms x') → Brought ms r (y ∷ t) end_name.Slave s.entry.sent (s.entry ∷ s.set)
    replied h = subst (λ (g : List ℕ). Brought ms r (y ∷ t) end_name.Slave g (s.entry ∷ s.set)) (sym is) (record {
      next = reset_is_next ms r (y ∷ t) end_name.Slave due;
      tells = told_replied ms (y ∷ t) (both ms r w) x' (reset_frame 0 ms.lengths.slave) refl refl h told same;
    })
      where
        is : s.entry.sent ≡ reset_frame 0 ms.lengths.slave
        is = same_head s.entry.sent (reset_frame 0 ms.lengths.slave) _ _ (sym (all-sent ms r events w end_name.Slave s) ∙ h.begins.last.is)

        due : phase_due ms.lengths (y ∷ t) ≡ state.Reset
        due =
            ap (λ (e : End). phase_from ms.lengths (y ∷ t) e (phase_of_frame y.frame)) turned-to
            ∙ (told.phase ∙ (ap (λ (u : Chained). phase_sent u.sent) (sym same) ∙ ap phase_sent h.begins.outside.master.none_sent))

    by-stage : Stage ms r x' end_name.Master → Brought ms r (y ∷ t) end_name.Slave s.entry.sent (s.entry ∷ s.set)
    by-stage (Replied h) = replied h
    by-stage (Up h) = up h
