-- Ticks below the limits, puts, holds, nonces and repeats leave the stage of a steady run; the master's first tick begins
-- it.
use Rattle.exchange_model.proofs.Common.{Deed, End, Entry, Event, IsDropped, IsNextEntry, IsProperEvent, MasterSettings, Move, Setup, TakesDataAfter, TakesOnce, and_parts, comes_new, data_taken, deed_of, deeds, did_on, end_of_event, entry_at, entry_of, exchanges, frame_len, frames_of, had_tick, is_coming, is_delivery, kept, may_tick, number_to, peer, phase_sent, reaches_limit, receives, repeat_dropped, reset_frame, same_end, setup_of, since, state_of, step}
use Rattle.std.proofs.Common.{◌≡◌, ℕ, nat_le, List, ◌∷◌, [], Bool, true, false, not, ◌&&◌, Option, Some, None, is_some, refl, sym, ap, ◌∙◌, arith, rules}
use Rattle.fsoe_base.specs.declared.command.End.TheVariants as end_name
use Rattle.fsoe_base.specs.declared.command.State.TheVariants as state
use Rattle.fsoe_base.specs.declared.did.Dropped.{Dropped}
use Rattle.fsoe_base.specs.declared.did.Dropped.TheVariants as why
use Rattle.fsoe_base.specs.Did.{nothing}
use Rattle.fsoe_base.specs.Did as did
use Rattle.param_load.specs.declared.entry.Move.TheVariants as move
use Rattle.schedule_file.specs.declared.event.Event.TheVariants as event
use Rattle.exchange_model.proofs.Honest.OnItsWay.{fresh}
use Rattle.exchange_model.proofs.Honest.StageSteps.{ComesTo, Enters, AtStage, delivered_entry}
use Rattle.exchange_model.proofs.Honest.Stages.{both, Asked, HasKept, IsIdle}
use Rattle.exchange_model.proofs.Honest.Turns.{Partner, partner, master_of}

-- a deed in which an end takes and sends nothing
abbrev pub quiet : Move → Option Dropped → Deed
quiet what dropped = record { what = what; did = record nothing { dropped = dropped }; sent = [] }

-- the entry that tells it
abbrev pub quiet_entry : (ms : MasterSettings) → Partner ms → List Entry → End → Move → Option Dropped → Entry
quiet_entry ms r w at what dropped = entry_of (setup_of ms (partner ms r) at) (deeds at w) (quiet what dropped)

-- an event at which an end takes and sends nothing, and no frame comes for the first time
pub record IsQuiet (ms : MasterSettings) (r : Partner ms) (w : List Entry) (event : Event) (what : Move) (dropped : Option Dropped) : Type 0 where
  pub none_new : (is_delivery what && is_coming (end_of_event event) w) ≡ false
  pub is : entry_at ms (partner ms r) w event ≡ Some (quiet_entry ms r w (end_of_event event) what dropped)
  pub next : IsNextEntry (setup_of ms (partner ms r) (end_of_event event)) (quiet_entry ms r w (end_of_event event) what dropped) (deeds (end_of_event event) w)
  pub repeated : is_delivery what ≡ true → dropped ≡ Some why.Repeat

-- the test of what comes for the first time, at a quiet entry
none-new : (ms : MasterSettings) (r : Partner ms) (w : List Entry) (at : End) (what : Move) (dropped : Option Dropped) → (is_delivery what && is_coming at w) ≡ false → comes_new (quiet_entry ms r w at what dropped) w ≡ false
none-new ms r w end_name.Master what dropped h = h
none-new ms r w end_name.Slave what dropped h = h

-- an entry in which nothing is taken, and no frame comes for the first time
takes-none : (x : Entry) (w : List Entry) → x.did.took ≡ None → comes_new x w ≡ false → (is_delivery x.what ≡ true → x.did ≡ did.dropped why.Repeat) → TakesOnce x w
takes-none x w h k l = record { taken = λ b. let c : true ≡ false = sym b ∙ k in cc; repeated = λ b. IsDropped (l (and_parts (is_delivery x.what) (not (is_coming x.end w)) b).0) }

no-data : (n : ℕ) (x : Entry) (w : List Entry) → x.did.took ≡ None → comes_new x w ≡ false → TakesDataAfter comes_new n x w
no-data n x w h k = ap (λ t. is_some (data_taken t)) h ∙ sym (ap (λ b. b && nat_le n (number_to comes_new x.end w)) k)

-- the next entry of an end is that of its own setup
follows-at : (ms : MasterSettings) (r : Partner ms) (w : List Entry) (at : End) (what : Move) (dropped : Option Dropped) → IsNextEntry (setup_of ms (partner ms r) at) (quiet_entry ms r w at what dropped) (deeds at w)
    → IsNextEntry (setup_of ms (partner ms r) (quiet_entry ms r w at what dropped).end) (quiet_entry ms r w at what dropped) (deeds (quiet_entry ms r w at what dropped).end w)
follows-at ms r w end_name.Master what dropped h = h
follows-at ms r w end_name.Slave what dropped h = h

pub quiet_enters : (ms : MasterSettings) (r : Partner ms) (w : List Entry) (event : Event) (what : Move) (dropped : Option Dropped) → IsQuiet ms r w event what dropped
    → Enters ms r w event (quiet_entry ms r w (end_of_event event) what dropped)
quiet_enters ms r w event what dropped h =
    let x : Entry = quiet_entry ms r w (end_of_event event) what dropped in
    let n : comes_new x w ≡ false = none-new ms r w (end_of_event event) what dropped h.none_new in
    record {
      is = h.is;
      follows = follows-at ms r w (end_of_event event) what dropped h.next;
      not_other = refl;
      no_reset = refl;
      once = takes-none x w refl n (λ b. ap (λ (o : Option Dropped). record nothing { dropped = o }) (h.repeated b));
      takes_data = no-data (exchanges ms) x w refl n;
    }

-- the stages see nothing of it
pub both_kept : (ms : MasterSettings) (r : Partner ms) (w : List Entry) (at : End) (what : Move) (dropped : Option Dropped) → (is_delivery what && is_coming at w) ≡ false → both ms r (quiet_entry ms r w at what dropped ∷ w) ≡ both ms r w
both_kept ms r w at what dropped h = grind arith

pub coming_kept : (ms : MasterSettings) (r : Partner ms) (w : List Entry) (at which : End) (what : Move) (dropped : Option Dropped) → (is_delivery what && is_coming at w) ≡ false → is_coming which (quiet_entry ms r w at what dropped ∷ w) ≡ is_coming which w
coming_kept ms r w at which what dropped h = grind arith

pub comes_still : (ms : MasterSettings) (r : Partner ms) (w : List Entry) (at next : End) (what : Move) (dropped : Option Dropped) → (is_delivery what && is_coming at w) ≡ false → ComesTo w next → ComesTo (quiet_entry ms r w at what dropped ∷ w) next
comes_still ms r w at next what dropped h c = record { here = coming_kept ms r w at next what dropped h ∙ c.here; none_back = coming_kept ms r w at (peer next) what dropped h ∙ c.none_back }

pub quiet_tick : (ms : MasterSettings) (r : Partner ms) (w : List Entry) (at : End) → may_tick ms (partner ms r) w at ≡ true → (same_end end_name.Master at ≡ true → had_tick (deeds end_name.Master w) ≡ true)
    → IsQuiet ms r w (event.Tick at) move.Tick None
quiet_tick ms r w at h k = search rules

-- a put, a hold
pub quiet_put : (ms : MasterSettings) (r : Partner ms) (w : List Entry) (at : End) (load : List ℕ) → IsProperEvent ms (partner ms r) (event.Put at load) → IsQuiet ms r w (event.Put at load) (move.Put load) None
quiet_put ms r w at load p = record { none_new = refl; is = refl; next = record { proper = p; stepped = refl }; repeated = λ k. cc }

pub quiet_hold : (ms : MasterSettings) (r : Partner ms) (w : List Entry) (at : End) (failsafe : Bool) → IsQuiet ms r w (event.Hold at failsafe) (move.Hold failsafe) None
quiet_hold ms r w at failsafe = record { none_new = refl; is = refl; next = record { proper = tt; stepped = refl }; repeated = λ k. cc }

pub quiet_nonce : (ms : MasterSettings) (r : Partner ms) (w : List Entry) (at : End) (id : ℕ) → IsProperEvent ms (partner ms r) (event.Nonce at id) → IsQuiet ms r w (event.Nonce at id) (move.Nonce id) None
quiet_nonce ms r w at id p = record { none_new = refl; is = refl; next = record { proper = p; stepped = refl }; repeated = λ k. cc }

-- the peer's last frame comes again to an end that took it
pub quiet_repeat : (ms : MasterSettings) (r : Partner ms) (w : List Entry) (at : End) (l : ℕ) → (h : HasKept (frames_of (peer at) w) (kept (since (deeds at w))) l) → receives (setup_of ms (partner ms r) at) ≡ l → is_coming at w ≡ false
    → IsQuiet ms r w (event.Deliver at 1) (move.Deliver h.frame) (Some why.Repeat)
quiet_repeat ms r w at l h same n =
    let s : Setup = setup_of ms (partner ms r) at in
    let e : List Deed = deeds at w in
    let dropped : did_on s e (move.Deliver h.frame) ≡ did.dropped why.Repeat = repeat_dropped s e h.frame (h.long ∙ ap frame_len (sym same)) h.is in
    let stepped : step s e (move.Deliver h.frame) ≡ quiet (move.Deliver h.frame) (Some why.Repeat) = ap (deed_of s e (move.Deliver h.frame)) dropped in
    record {
      none_new = n;
      is = delivered_entry s e (frames_of (peer at) w) h.last.older h.frame _ h.last.is stepped;
      next = record { proper = tt; stepped = ap (entry_of s e) (sym stepped) };
      repeated = λ k. refl;
    }

-- before the master's first tick
abbrev pub AtIdle : (ms : MasterSettings) → Partner ms → List Entry → Type 0
AtIdle ms r w = IsIdle (both ms r w)

-- the entry of the master's first tick
abbrev pub asking_entry : (ms : MasterSettings) → Partner ms → List Entry → Entry
asking_entry ms r w = entry_of (master_of ms) (deeds end_name.Master w) (record { what = move.Tick; did = record nothing { sent = true }; sent = reset_frame 0 ms.lengths.master })

-- the master's first tick sends its Reset frame
pub first_tick : (ms : MasterSettings) (r : Partner ms) (w : List Entry) → may_tick ms (partner ms r) w end_name.Master ≡ true → had_tick (deeds end_name.Master w) ≡ false → AtIdle ms r w
    → Enters ms r w (event.Tick end_name.Master) (asking_entry ms r w) × AtStage ms r (asking_entry ms r w ∷ w) end_name.Slave
first_tick ms r w h none idle =
    let em : List Deed = deeds end_name.Master w in
    let d : Deed = record { what = move.Tick; did = record nothing { sent = true }; sent = reset_frame 0 ms.lengths.master } in
    let reaches : reaches_limit (master_of ms) em ≡ true = simp none at h in
    let now : state_of (master_of ms) em ≡ state.Reset = ap phase_sent idle.outside.master.none_sent in
    let stepped : step (master_of ms) em move.Tick ≡ d = simp (reaches, now) in (
      record {
        is = ap (λ d. Some (entry_of (master_of ms) em d)) stepped;
        follows = record { proper = tt; stepped = ap (entry_of (master_of ms) em) (sym stepped) };
        not_other = refl;
        no_reset = refl;
        once = takes-none (asking_entry ms r w) w refl refl (λ k. cc);
        takes_data = refl;
      },
      Asked (search (rules, fresh)),
    )
