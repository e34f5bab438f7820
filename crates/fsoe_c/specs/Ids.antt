-- The session ids of an end, by looking back, and what it means that one is used again. A session begins with the deed
-- after which the state isn't Reset any more. Its id is the nonce before this deed.
use Rattle.std.specs.Prelude.{◌≡◌, ℕ, ◌==◌, ◌&&◌, List, [], ◌∷◌, Bool, true, false, not, Option, Some, None, if◌then◌else◌}
use Rattle.fsoe_base.specs.declared.command.State.{State}
use Rattle.fsoe_base.specs.declared.command.State.TheVariants as state
use Rattle.param_load.specs.declared.entry.Move.{Move}
use Rattle.end_model.specs.Deed.{Deed}
use Rattle.end_model.specs.Payloads.{nonce}
use Rattle.end_model.specs.Readiness.{state_of}
use Rattle.end_model.specs.Setup.{Setup, OfMaster}
use Rattle.end_model.specs.Step.{step}
use Rattle.master_core.specs.MasterView.{MasterView}
use Rattle.master_core.specs.Waiting.{Delivery, Waits, with_delivery}
use Rattle.fsoe_c.specs.declared.ids.Ids.{Ids}

-- whether a session is there in this state
abbrev pub is_in_session : State → Bool
is_in_session state.Reset = false
is_in_session _ = true

-- whether a session begins with this deed, which follows these
abbrev pub begins_session : Setup → Deed → List Deed → Bool
begins_session s x e = not (is_in_session (state_of s e)) && is_in_session (state_of s (x ∷ e))

-- the id of the session that began last, if one did
abbrev pub last_id : Setup → List Deed → Option ℕ
last_id s [] = None
last_id s (x ∷ e) = if begins_session s x e then Some (nonce s e) else last_id s e

-- whether a session had this id
abbrev pub had_id : Option ℕ → ℕ → Bool
had_id None id = false
had_id (Some last) id = last == id

-- whether a session begins with this deed, and has the id of the session before it
abbrev pub uses_id_again : Setup → Deed → List Deed → Bool
uses_id_again s x e = begins_session s x e && had_id (last_id s e) (nonce s e)

-- the ids that an end notes after these deeds
abbrev pub ids_of : Setup → List Deed → Ids
ids_of s e = record { nonce = nonce s e; last = last_id s e; begun = is_in_session (state_of s e) }

-- whether a session begins where an end with these ids comes to this state
abbrev pub begins_in : Ids → State → Bool
begins_in ids now = not ids.begun && is_in_session now

-- the ids where it comes to this state
abbrev pub noted_ids : Ids → State → Ids
noted_ids ids now = record ids { last = if begins_in ids now then Some ids.nonce else ids.last; begun = is_in_session now }

-- whether a session begins there with the id of the one before
abbrev pub is_again : Ids → State → Bool
is_again ids now = begins_in ids now && had_id ids.last ids.nonce

-- an end as its core shows it, with its ids
pub record WithIds (V : Type 0) : Type 0 where
  pub core : V
  pub ids : Ids

-- ids that were those after some deeds are, after this event, those after these and the next one
pub record IdsFollow {S V : Type 0} (is_after : S → V → List Deed → Type 0) (setup : S → Setup) (old : WithIds V) (event : Move) (new : WithIds V) : Type 0 where
  pub ids : (settings : S) (deeds : List Deed) → is_after settings old.core deeds → old.ids ≡ ids_of (setup settings) deeds → new.ids ≡ ids_of (setup settings) (step (setup settings) deeds event ∷ deeds)

-- ids follow an event that sets what outlasts sessions, also while a frame is due
pub record IdsKeep {S : Type 0} (setup : S → Setup) (old : Ids) (event : Move) (new : Ids) : Type 0 where
  pub ids : (settings : S) (deeds : List Deed) → old ≡ ids_of (setup settings) deeds → new ≡ ids_of (setup settings) (step (setup settings) deeds event ∷ deeds)

-- the ids of a master that waited in a delivery are those after it
pub record IdsReply (old new : WithIds MasterView) : Type 0 where
  pub ids : (d : Delivery) → Waits old.core d → old.ids ≡ ids_of (OfMaster d.settings) d.before → new.ids ≡ ids_of (OfMaster d.settings) (with_delivery d)
