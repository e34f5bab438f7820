-- Where no event sets a nonce, the session ids are those of the settings.
use Rattle.trace_diag.proofs.Common.{Deed, End, Entry, Setup, deeds, first_nonce, has_command, id_sent, nonce, nonce_after, option_or, session_id}
use Rattle.std.proofs.Common.{◌≡◌, ℕ, List, [], ◌∷◌, Bool, Option, Some, None, refl, ◌∙◌, if◌then◌else◌, arith, rules}
use Rattle.fsoe_base.specs.declared.command.Command.TheVariants as command

-- no event of these deeds sets another nonce
abbrev pub LeaveNonce : List Deed → Type 0
LeaveNonce [] = Unit {0}
LeaveNonce (x ∷ e) = ((n : ℕ) → nonce_after x.what n ≡ n) × LeaveNonce e

-- nor one of these entries, at either end
abbrev pub LeaveNonces : List Entry → Type 0
LeaveNonces w = (which : End) → LeaveNonce (deeds which w)

pub nonces_left : (x : Entry) (w : List Entry) → ((n : ℕ) → nonce_after x.what n ≡ n) → LeaveNonces w → LeaveNonces (x ∷ w)
nonces_left x w h k = grind arith

pub nonce_is : (s : Setup) (e : List Deed) → LeaveNonce e → nonce s e ≡ first_nonce s
nonce_is s [] k = refl
nonce_is s (x ∷ e) k = k.0 (nonce s e) ∙ nonce_is s e k.1

-- the session id that was sent, if one was
abbrev IsIf : ℕ → Option ℕ → Type 0
IsIf n None = Unit {0}
IsIf n (Some id) = id ≡ n

id-if : (n : ℕ) (reset session : Bool) (before : Option ℕ) (now : ℕ) → IsIf n before → now ≡ n → IsIf n (if reset then None else if session then option_or before (Some now) else before)
id-if n reset session before now h k = grind arith

ids-are : (s : Setup) (e : List Deed) → LeaveNonce e → IsIf (first_nonce s) (id_sent s e)
ids-are s [] k = tt
ids-are s (x ∷ e) k = id-if (first_nonce s) (has_command command.Reset x.sent) (has_command command.Session x.sent) (id_sent s e) (nonce s e) (ids-are s e k.1) (nonce_is s e k.1)

pub sent_id_is : (s : Setup) (e : List Deed) (id : ℕ) → LeaveNonce e → id_sent s e ≡ Some id → id ≡ first_nonce s
sent_id_is s e id h k = search (rules, ids-are)

pub session_id_is : (s : Setup) (e : List Deed) → LeaveNonce e → session_id s e ≡ first_nonce s
session_id_is s e h = search (rules, ids-are, nonce_is)
