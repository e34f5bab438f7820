-- The calls of a master, a delivery in one call or in two, and the deeds that they make.
use Rattle.std.specs.Prelude.{◌≡◌, ℕ, true, false, List, [], ◌∷◌, Option, Some, None, if◌then◌else◌}
use Rattle.fsoe_base.specs.declared.did.Did.{Did}
use Rattle.fsoe_base.specs.Did.{nothing}
use Rattle.param_load.specs.declared.entry.Move.{Move}
use Rattle.param_load.specs.declared.entry.Move.TheVariants as move
use Rattle.param_load.specs.declared.master_settings.MasterSettings.{MasterSettings}
use Rattle.end_model.specs.Deed.{Deed}
use Rattle.end_model.specs.Runs.{IsSetting}
use Rattle.end_model.specs.Step.{begun}
use Rattle.master_core.specs.MasterView.{MasterView}
use Rattle.master_core.specs.Now.{is_due}
use Rattle.master_core.specs.Standing.{Follows, Answers}
use Rattle.master_core.specs.Waiting.{Delivery, Accepts, Keeps, Replies}
use Rattle.master_core.specs.Due.{tells_due}

-- a call of a master, with what it told: `deliver`, `tick` or `reset` with its deed; `put`, `hold` or `nonce`; `accept`
-- of these bytes; and `reply` with the frame that it wrote
pub data Call : Type 0 where
  Event : Deed → Call
  Setting : Move → Call
  Accept : List ℕ → Did → Call
  Reply : List ℕ → Call

-- what `deliver`, `tick` and `reset` ensure: while no frame is due the master goes on by this deed, and none is due
-- then
pub record MadeEvent (old : MasterView) (x : Deed) (new : MasterView) : Type 0 where
  pub rest : is_due old.state ≡ false
  pub follows : Follows old x.what new
  pub answers : Answers old x.what x.did x.sent
  pub done : is_due new.state ≡ false

-- what `put`, `hold` and `nonce` ensure: the event counts now, or before the delivery whose frame is due, which stays
-- due
pub record MadeSetting (old : MasterView) (event : Move) (new : MasterView) : Type 0 where
  pub sets : IsSetting event
  pub follows : Follows old event new
  pub keeps : Keeps old event new
  pub due : is_due new.state ≡ is_due old.state

-- what `accept` ensures: while no frame is due the bytes are accepted, and a frame is due then exactly where it told so
pub record MadeAccept (old : MasterView) (bytes : List ℕ) (did : Did) (new : MasterView) : Type 0 where
  pub rest : is_due old.state ≡ false
  pub accepts : Accepts old bytes did new
  pub due : is_due new.state ≡ tells_due did

-- what `reply` ensures: the frame that is due is written, and none is due then
pub record MadeReply (old : MasterView) (frame : List ℕ) (new : MasterView) : Type 0 where
  pub due : is_due old.state ≡ true
  pub replies : Replies old new frame
  pub done : is_due new.state ≡ false

-- what the contract of a call says of the master before it and after it
abbrev pub Made : MasterView → Call → MasterView → Type 0
Made old (Event x) new = MadeEvent old x new
Made old (Setting event) new = MadeSetting old event new
Made old (Accept bytes did) new = MadeAccept old bytes did new
Made old (Reply frame) new = MadeReply old frame new

-- a master was called so, in any order of calls, the newest first
abbrev pub Called : MasterView → List Call → MasterView → Type 0
Called first [] last = first ≡ last
Called first (call ∷ calls) last = (v : MasterView) × Called first calls v × Made v call last

-- a delivery whose frame is due: the bytes that were accepted, and what that told
pub record Pending : Type 0 where
  pub bytes : List ℕ
  pub did : Did

-- this delivery at a master with these settings, after these deeds
abbrev pub delivery_after : MasterSettings → List Deed → Pending → Delivery
delivery_after settings deeds p = record { settings = settings; before = deeds; bytes = p.bytes; did = p.did }

-- the delivery that `accept` leaves, if a frame is due then
abbrev pub left_by : List ℕ → Did → Option Pending
left_by bytes did = if tells_due did then Some (record { bytes = bytes; did = did }) else None

-- the delivery whose frame is due after these calls, by what they told alone
abbrev pub pending : List Call → Option Pending
pending [] = None
pending (Event x ∷ calls) = pending calls
pending (Setting event ∷ calls) = pending calls
pending (Accept bytes did ∷ calls) = left_by bytes did
pending (Reply frame ∷ calls) = None

-- a reply ends the delivery that is pending: its deed has sent the frame
abbrev pub with_reply : List ℕ → Option Pending → List Deed → List Deed
with_reply frame None e = e
with_reply frame (Some p) e = record { what = move.Deliver p.bytes; did = record p.did { sent = true }; sent = frame } ∷ e

-- the deeds of these calls, newest first: a delivery in two calls counts at its reply, and at `accept` where no frame
-- is due then
abbrev pub deeds_of : List Call → List Deed
deeds_of [] = []
deeds_of (Event x ∷ calls) = x ∷ deeds_of calls
deeds_of (Setting event ∷ calls) = begun event nothing ∷ deeds_of calls
deeds_of (Accept bytes did ∷ calls) = if tells_due did then deeds_of calls else begun (move.Deliver bytes) did ∷ deeds_of calls
deeds_of (Reply frame ∷ calls) = with_reply frame (pending calls) (deeds_of calls)
