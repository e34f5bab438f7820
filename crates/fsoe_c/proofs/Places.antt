-- What is told of the end in a place.
use Rattle.std.proofs.Common.{◌≡◌, ℕ, List, [], ◌∷◌, Bool, true, false, not, Option, subst, sym, refl, ap, ◌∙◌}
use Rattle.std.specs.Prelude.{◌≤◌, ◌&&◌, Some, drop, if◌then◌else◌}
use Rattle.fsoe_base.specs.declared.command.State.{State}
use Rattle.fsoe_base.specs.declared.did.Did.{Did}
use Rattle.param_load.specs.declared.entry.Move.{Move}
use Rattle.param_load.specs.declared.entry.Move.TheVariants as event
use Rattle.end_model.specs.Deed.{Deed}
use Rattle.end_model.specs.Payloads.{nonce, nonce_after}
use Rattle.end_model.specs.Readiness.{state_of}
use Rattle.end_model.specs.Runs.{IsSetting}
use Rattle.end_model.specs.Setup.{Setup, OfMaster, OfSlave}
use Rattle.end_model.specs.Step.{step}
use Rattle.master_core.specs.MasterView.{MasterView}
use Rattle.master_core.specs.Now.{is_due}
use Rattle.master_core.specs.Standing.{Shows}
use Rattle.master_core.specs.Waiting.{Accepts, Replies, ShowsDue, with_delivery}
use Rattle.c_values.proofs.Places.{there_is}
use Rattle.c_values.specs.Numbers.{flag}
use Rattle.fsoe_c.specs.Ids.{IdsFollow, IdsKeep, IdsReply, WithIds, ids_of, is_again, is_in_session, last_id, noted_ids, uses_id_again}
use Rattle.fsoe_c.specs.Settings.{IsNew}
use Rattle.c_values.specs.Told.{ShowsDid, frame_of}
use Rattle.fsoe_c.specs.Told.{AcceptsTelling, Tells}
use Rattle.fsoe_c.specs.declared.ids.Ids.{Ids}
use Rattle.c_values.specs.declared.told.GpDid.{GpDid}
use Rattle.c_values.specs.declared.told.GpFrame.{GpFrame}

-- by the ids after some deeds and the state after the next one, whether this begins a session with a used id
again_told : (s : Setup) (x : Deed) (e : List Deed) (ids : Ids) (now : State) → ids ≡ ids_of s e → now ≡ state_of s (x ∷ e) → is_again ids now ≡ uses_id_again s x e
again_told s x e ids now ids_are now_is = ap (λ (i : Ids). is_again i now) ids_are ∙ ap (is_again (ids_of s e)) now_is

-- the ids after the next deed, where it sets no nonce
noted_after : (s : Setup) (e : List Deed) (m : Move) (ids : Ids) (now : State) → ids ≡ ids_of s e → now ≡ state_of s (step s e m ∷ e) → nonce_after m (nonce s e) ≡ nonce s e
    → noted_ids ids now ≡ ids_of s (step s e m ∷ e)
noted_after s e m ids now ids_are now_is stays =
    ap (λ (i : Ids). noted_ids i now) ids_are ∙ ap (noted_ids (ids_of s e)) now_is ∙ ap (λ (n : ℕ). record (ids_of s (step s e m ∷ e)) { nonce = n }) (sym stays)

-- what shows what an end did and sent tells its next deed
pub tells : {S V : Type 0} (is_after : S → V → List Deed → Type 0) (setup : S → Setup) (o : Option (WithIds V)) (x v : WithIds V) (y : V) (event : Move) (d : Did) (sent : List ℕ) (now : State) (again : Bool) (was g : GpDid) (had f : GpFrame)
    → o ≡ Some x → o ≡ Some v
    → ((settings : S) (deeds : List Deed) → is_after settings x.core deeds → d ≡ (step (setup settings) deeds event).did)
    → ((settings : S) (deeds : List Deed) → is_after settings x.core deeds → sent ≡ (step (setup settings) deeds event).sent)
    → ((settings : S) (deeds : List Deed) → is_after settings x.core deeds → is_after settings y (step (setup settings) deeds event ∷ deeds))
    → ((settings : S) (deeds : List Deed) → is_after settings y deeds → now ≡ state_of (setup settings) deeds)
    → again ≡ is_again x.ids now
    → ShowsDid g d → g.used ≡ flag again → frame_of f ≡ sent → f.len ≤ 255
    → drop g.load_len g.load ≡ drop g.load_len was.load → drop f.len f.bytes ≡ drop f.len had.bytes → Tells is_after setup v event was g had f
tells {V = V} is_after setup o x v y event d sent now again was g had f held there did_is sent_is follows shown again_is shows used is within past_load past_out =
    subst (λ (w : WithIds V). Tells is_after setup w event was g had f) (there_is o x v held there) (record {
      did = λ settings deeds after. subst (ShowsDid g) (did_is settings deeds after) shows;
      used = λ settings deeds after ids_are. used ∙ ap flag (again_is ∙ again_told (setup settings) (step (setup settings) deeds event) deeds x.ids now ids_are (shown settings _ (follows settings deeds after)));
      sent = λ settings deeds after. is ∙ sent_is settings deeds after;
      len = within;
      past_load = past_load;
      past_out = past_out;
    })

-- an end that notes the state after a step has the ids of its next deed
pub ids_follow : {S V : Type 0} (is_after : S → V → List Deed → Type 0) (setup : S → Setup) (o p : Option (WithIds V)) (x y v new : WithIds V) (event : Move) (now : State)
    → o ≡ Some x → o ≡ Some v → p ≡ Some y → p ≡ Some new
    → ((settings : S) (deeds : List Deed) → is_after settings x.core deeds → is_after settings y.core (step (setup settings) deeds event ∷ deeds))
    → ((settings : S) (deeds : List Deed) → is_after settings y.core deeds → now ≡ state_of (setup settings) deeds)
    → y.ids ≡ noted_ids x.ids now → nonce_after event x.ids.nonce ≡ x.ids.nonce → IdsFollow is_after setup v event new
ids_follow {V = V} is_after setup o p x y v new event now held there left there_now follows shown ids_are stays =
    subst (λ (w : WithIds V). IdsFollow is_after setup w event new) (there_is o x v held there) (subst (IdsFollow is_after setup x event) (there_is p y new left there_now) (record {
      ids = λ settings deeds after were. ids_are ∙ noted_after (setup settings) deeds event x.ids now were (shown settings _ (follows settings deeds after)) (subst (λ (i : Ids). nonce_after event i.nonce ≡ i.nonce) were stays);
    }))

-- an event that sets what outlasts sessions leaves the state
state_stays : (s : Setup) (e : List Deed) (m : Move) → IsSetting m → state_of s (step s e m ∷ e) ≡ state_of s e
state_stays (OfMaster ms) e (event.Put load) sets = refl
state_stays (OfMaster ms) e (event.Hold failsafe) sets = refl
state_stays (OfMaster ms) e (event.Nonce id) sets = refl
state_stays (OfSlave ss) e (event.Put load) sets = refl
state_stays (OfSlave ss) e (event.Hold failsafe) sets = refl
state_stays (OfSlave ss) e (event.Nonce id) sets = refl
state_stays s e _ sets = absurd sets

-- where no session begins, the id of the last one stays
none_begins : (b : Bool) (id : ℕ) (last : Option ℕ) → last ≡ (if not b && b then Some id else last)
none_begins true id last = refl
none_begins false id last = refl

-- the ids after such an event
set_ids : (s : Setup) (e : List Deed) (m : Move) → IsSetting m → record (ids_of s e) { nonce = nonce_after m (nonce s e) } ≡ ids_of s (step s e m ∷ e)
set_ids s e m sets =
    let after : State → Ids = λ now. record { nonce = nonce_after m (nonce s e); last = if not (is_in_session (state_of s e)) && is_in_session now then Some (nonce s e) else last_id s e; begun = is_in_session now } in
    ap (λ (last : Option ℕ). record { nonce = nonce_after m (nonce s e); last = last; begun = is_in_session (state_of s e) }) (none_begins (is_in_session (state_of s e)) (nonce s e) (last_id s e))
    ∙ ap after (sym (state_stays s e m sets))

-- an end of which something was set has the ids of its next deed
pub ids_keep : {S V : Type 0} (setup : S → Setup) (o p : Option (WithIds V)) (x y v new : WithIds V) (event : Move)
    → o ≡ Some x → o ≡ Some v → p ≡ Some y → p ≡ Some new → IsSetting event → y.ids ≡ record x.ids { nonce = nonce_after event x.ids.nonce } → IdsKeep setup v.ids event new.ids
ids_keep {V = V} setup o p x y v new event held there left there_now sets ids_are =
    subst (λ (w : WithIds V). IdsKeep setup w.ids event new.ids) (there_is o x v held there) (subst (λ (w : WithIds V). IdsKeep setup x.ids event w.ids) (there_is p y new left there_now) (record {
      ids = λ settings deeds were. ids_are ∙ ap (λ (i : Ids). record i { nonce = nonce_after event i.nonce }) were ∙ set_ids (setup settings) deeds event sets;
    }))

-- what a master did in accepting a frame is told
pub master_accepts : (o p : Option (WithIds MasterView)) (x y v new : WithIds MasterView) (bytes : List ℕ) (d : Did) (now : State) (due : Bool) (g : GpDid) → o ≡ Some x → o ≡ Some v → p ≡ Some y → p ≡ Some new
    → Accepts x.core bytes d y.core → ShowsDue y.core now state_of → ShowsDid g d → g.used ≡ flag (is_again x.ids now) → due ≡ is_due y.core.state → y.ids ≡ (if due then x.ids else noted_ids x.ids now) → AcceptsTelling v bytes g new
master_accepts o p x y v new bytes d now due g held there left there_now accepts shown shows used is ids_are =
    subst (λ (w : WithIds MasterView). AcceptsTelling w bytes g new) (there_is o x v held there) (subst (AcceptsTelling x bytes g) (there_is p y new left there_now) (record {
      did = d;
      told = shows;
      used = λ settings deeds after ids_are. used ∙ ap flag (again_told (OfMaster settings) (step (OfMaster settings) deeds (event.Deliver bytes)) deeds x.ids now ids_are (shown.shows _ (accepts.under_way settings deeds after).waits));
      accepts = accepts;
      kept = λ owes. ids_are ∙ rw (is ∙ owes) refl;
      ids = λ rests settings deeds after were. ids_are ∙ rw (is ∙ rests) (noted_after (OfMaster settings) deeds (event.Deliver bytes) x.ids now were (shown.shows _ (accepts.under_way settings deeds after).waits) refl);
    }))

-- a master that notes the state after its due frame was sent has the ids after the delivery
pub ids_reply : (o p : Option (WithIds MasterView)) (x y v new : WithIds MasterView) (frame : List ℕ) (now : State) → o ≡ Some x → o ≡ Some v → p ≡ Some y → p ≡ Some new
    → Replies x.core y.core frame → Shows y.core now state_of
    → y.ids ≡ noted_ids x.ids now → IdsReply v new
ids_reply o p x y v new frame now held there left there_now replies shown ids_are =
    subst (λ (w : WithIds MasterView). IdsReply w new) (there_is o x v held there) (subst (IdsReply x) (there_is p y new left there_now) (record {
      ids = λ d waits were. ids_are ∙ noted_after (OfMaster d.settings) d.before (event.Deliver d.bytes) x.ids now were (shown.shows d.settings (with_delivery d) (replies.is_after d waits)) refl;
    }))

-- an end that was made with such settings and moved in is new
pub new_end : {S V : Type 0} (are_set : S → Type 0) (is_after : S → V → List Deed → Type 0) (setup : S → Setup) (s : S) (o : Option (WithIds V)) (x v : WithIds V) → are_set s → is_after s x.core [] → x.ids ≡ ids_of (setup s) [] → o ≡ Some x → o ≡ Some v → IsNew are_set is_after setup v
new_end {V = V} are_set is_after setup s o x v set_so after ids made there = subst (IsNew are_set is_after setup) (there_is o x v made there) (record {
  settings = s;
  set_so = set_so;
  after_none = after;
  ids = ids;
})
