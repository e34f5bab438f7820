-- What accepting a frame does to a master, whatever its offer and its nonce: the frame is dropped, or another one is
-- due then.
use Rattle.master_core.proofs.Common.{Accepted, Code, Did, Dropped, KitView, MasterView, OfMaster, OfferView, Opened, Phase, SessionFrameView, accepted, accepted_by, accepted_of, bytes_of, code, drops, fault, is_due, is_repeat, kept_in, makes_due, no_session, on_session, opened, receives, refuses, resets, settles, takes, tells_due}
use Rattle.master_core.specs.Phase.{is_reset}
use Rattle.std.proofs.Common.{◌≡◌, ℕ, List, ◌==◌, Bool, true, false, ◌||◌, is_some, Option, Result, Ok, Err, if◌then◌else◌, refl, sym, subst, arith, rules}
use Rattle.fsoe_base.specs.declared.command.Command.TheVariants as command
use Rattle.fsoe_base.specs.declared.did.Cause.TheVariants as cause
use Rattle.fsoe_base.specs.declared.did.Dropped.TheVariants as dropped
use Rattle.seq_chain.specs.declared.opened.Opened.TheVariants as opened_as
use Rattle.master_core.specs.declared.phase.Phase.TheVariants as phase

-- a kit with another offer and another nonce
abbrev with_both : KitView → OfferView → ℕ → KitView
with_both k o n = record { settings = k.settings; offer = o; nonce = n }

abbrev pub view_with : MasterView → OfferView → ℕ → MasterView
view_with v o n = record { kit = with_both v.kit o n; state = v.state; timer = v.timer }

-- both masters drop a frame, or the same frame is due at both, and is told to be
pub data Alike (v w : MasterView) : Accepted → Accepted → Type 0 where
  Drops : (why : Dropped) → Alike v w (drops v why) (drops w why)
  MakesDue : (p : Phase) (x : Code) (did : Did) → tells_due did ≡ true → Alike v w (makes_due v p x did) (makes_due w p x did)

either : (b : Bool) (v w : MasterView) (x y x' y' : Accepted) → Alike v w x x' → Alike v w y y' → Alike v w (if b then x else y) (if b then x' else y')
either b v w x y x' y' h k = grind arith

settled : (r : Result Phase Code) (v w : MasterView) (f : SessionFrameView) → Alike v w (settles v f r) (settles w f r)
settled (Ok n) v w f = MakesDue n (code 0) (takes f.command f.frame.load true) refl
settled (Err x) v w f = MakesDue (phase.Reset no_session) x (resets true (cause.Found x)) refl

refused : (x : Code) (v : MasterView) (o : OfferView) (n : ℕ) → Alike v (view_with v o n) (refuses v x) (refuses (view_with v o n) x)
refused x v o n = either (is_reset v.state.phase) v (view_with v o n) _ _ _ _ (Drops dropped.InReset) (MakesDue (phase.Reset no_session) x (resets false (cause.Found x)) refl)

in_session : (found : Option Code) (v : MasterView) (o : OfferView) (n : ℕ) (f : SessionFrameView) → Alike v (view_with v o n) (on_session v f found) (on_session (view_with v o n) f found)
in_session found v o n f = search (rules, settled, refused)

by_opened : (w : Opened) (v : MasterView) (o : OfferView) (n : ℕ) → Alike v (view_with v o n) (accepted_by v w) (accepted_by (view_with v o n) w)
by_opened (opened_as.Drop why) v o n = Drops why
by_opened (opened_as.Refuse x) v o n = refused x v o n
by_opened (opened_as.ResetFrame x f) v o n =
    either (is_reset v.state.phase) v (view_with v o n) _ _ _ _
    (either (x.0 == 0) v (view_with v o n) _ _ _ _ (MakesDue (phase.Begin (bytes_of f)) (code 0) (takes command.Reset f.load false) refl) (Drops dropped.InReset))
    (MakesDue (phase.Reset no_session) (code 0) (resets false (cause.Peer x)) refl)
by_opened (opened_as.OfSession f) v o n = in_session (fault v.kit.settings v.state.phase f) v o n f

pub accepts_alike : (v : MasterView) (o : OfferView) (n : ℕ) (bytes : List ℕ) → Alike v (view_with v o n) (accepted v bytes) (accepted (view_with v o n) bytes)
accepts_alike v o n bytes = by_opened (opened (receives (OfMaster v.kit.settings)) (is_repeat (kept_in v.state.phase) bytes) bytes) v o n

-- the kit stays
pub kit_kept : (v w : MasterView) (a b : Accepted) → Alike v w a b → a.master.kit ≡ v.kit
kit_kept v w a b h = grind arith

-- what sets the offer and the nonce may come before the frame as well as after it
pub commutes : (o : OfferView → OfferView) (n : ℕ → ℕ) (v : MasterView) (a b : Accepted) → Alike v (view_with v (o v.kit.offer) (n v.kit.nonce)) a b
    → (view_with a.master (o a.master.kit.offer) (n a.master.kit.nonce) ≡ b.master) × (a.did ≡ b.did)
commutes o n v a b (Drops why) = (refl, refl)
commutes o n v a b (MakesDue next x did told) = (refl, refl)

-- a frame is due exactly where something was taken or a reset came, and the age is 0 then
due_by : (v w : MasterView) (a b : Accepted) → Alike v w a b → is_due v.state ≡ false → is_due a.master.state ≡ tells_due a.did
due_by v w a b (Drops why) h = h
due_by v w a b (MakesDue n x did told) h = sym told

pub due_told : (v m : MasterView) (d : Did) (bytes : List ℕ) → is_due v.state ≡ false → accepted_of m d ≡ accepted v bytes → is_due m.state ≡ (is_some d.took || is_some d.reset)
due_told v m d bytes h i = due_by v _ _ _ (subst (λ (a : Accepted). Alike v (view_with v v.kit.offer v.kit.nonce) a (accepted (view_with v v.kit.offer v.kit.nonce) bytes)) (sym i) (accepts_alike v v.kit.offer v.kit.nonce bytes)) h

pub age_by : (v w : MasterView) (a b : Accepted) → Alike v w a b → is_due v.state ≡ false → is_due a.master.state ≡ true → a.master.timer.age ≡ 0
age_by v w a b h k l = grind arith
