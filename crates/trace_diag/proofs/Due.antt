-- Which phase the master's next frame is of, by the pieces that it sent.
use Rattle.trace_diag.proofs.Common.{Command, FirstConnection, FirstParameter, FirstValues, FirstZeros, IsBegun, MasterSettings, MoreConnection, MoreParameter, MoreSession, Profile, State, Turn, all_come, connection_payload, connection_pieces, front, front_begun, front_long, phase_following, id_len, nat_tests, not_yet, number_at, parameter_payload, parameter_pieces, pay, phase_of, pieces_for, session_payload, session_pieces, some_width, width}
use Rattle.end_model.specs.Payloads.{whole}
use Rattle.std.proofs.Common.{◌≡◌, ℕ, ◌+◌, ◌*◌, ◌<◌, ◌≤◌, nat_le, List, length, Bool, true, false, refl, ap, subst, ◌∙◌, arith, if◌then◌else◌, rules}
use Rattle.fsoe_base.specs.declared.command.State.TheVariants as state
use Rattle.param_load.specs.declared.profile.Profile.TheVariants as profile
use Rattle.end_model.proofs.WholeUploads.{by_count}
use Rattle.exchange_model.proofs.Honest.UploadTests.{parameters_count}
use Rattle.trace_diag.proofs.SentRows.{IsPlain}

-- of so many pieces of the three payloads, those of a phase
abbrev pub pieces_in : State → ℕ → ℕ → ℕ → ℕ
pieces_in state.Session a b d = a
pieces_in state.Connection a b d = b
pieces_in _ a b d = d

-- the first pieces of the payload of a phase, of which so many were sent
abbrev pub front_in : MasterSettings → State → ℕ → ℕ → ℕ → List ℕ
front_in ms p a b d = front (pay ms ms.nonce p) (width ms) (pieces_in p a b d)

not-done : (n c k : ℕ) (p : List ℕ) → 0 < c → k < pieces_for n c → nat_le n (length (front p c k)) ≡ false
not-done n c k p h g = let f : k * c < n = not_yet n c k h g in let e = front_long p c k in grind (arith, nat_tests)

done : (n c k : ℕ) (p : List ℕ) → 0 < c → k ≡ pieces_for n c → nat_le n (length (front p c k)) ≡ true
done n c k p h g = let f : n ≤ k * c = all_come n c k h (omega (arith, g)) in let e = front_long p c k in grind (arith, nat_tests)

-- parameters are whole where all their bytes have come
whole-by : (w k c : ℕ) (app : List ℕ) → 0 < c → whole profile.One state.Parameter (front (parameter_payload w profile.One app) c k) ≡ nat_le (6 + length app) (length (front (parameter_payload w profile.One app) c k))
whole-by w k c app some =
    let u : List ℕ = front (parameter_payload w profile.One app) c k in
    let b : IsBegun u (parameter_payload w profile.One app) = front_begun (parameter_payload w profile.One app) c k some in
    by_count 2 (length app) (number_at 4 u) (length u) _ refl (λ h. parameters_count w profile.One app u b h)

session-plain : (ms : MasterSettings) → IsPlain ms → session_pieces ms ≡ pieces_for 2 (width ms)
session-plain ms plain = ap (λ (p : Profile). pieces_for (id_len p) (width ms)) plain.one

parameter-plain : (ms : MasterSettings) → IsPlain ms → parameter_pieces ms ≡ pieces_for (6 + length ms.app) (width ms)
parameter-plain ms plain = ap (λ (p : Profile). pieces_for (id_len p + 4 + length ms.app) (width ms)) plain.one

parameter-whole : (ms : MasterSettings) (a b d : ℕ) → IsPlain ms → whole profile.One state.Parameter (front_in ms state.Parameter a b d) ≡ nat_le (6 + length ms.app) (length (front_in ms state.Parameter a b d))
parameter-whole ms a b d h = search (rules, whole-by)

stays : (now next : State) (b : Bool) → b ≡ false → (if b then next else now) ≡ now
stays now next b h = ap (λ (b : Bool). if b then next else now) h

goes : (now next : State) (b : Bool) → b ≡ true → (if b then next else now) ≡ next
goes now next b h = ap (λ (b : Bool). if b then next else now) h

pub due_next : (ms : MasterSettings) (c : Command) (p : State) (a b d k : ℕ) → IsPlain ms → Turn (session_pieces ms) (connection_pieces ms) (parameter_pieces ms) c p a b d k → phase_following p (front_in ms p a b d) ≡ phase_of c
due_next ms c p a b d k plain (MoreSession _ h) =
    stays state.Session state.Connection _ (not-done 2 (width ms) a (session_payload ms.nonce ms.profile) (some_width ms) (subst (λ (n : ℕ). a < n) (session-plain ms plain) h))
due_next ms c p a b d k plain FirstConnection =
    goes state.Session state.Connection _ (done 2 (width ms) a (session_payload ms.nonce ms.profile) (some_width ms) (session-plain ms plain))
due_next ms c p a b d k plain (MoreConnection _ _ h e) =
    stays state.Connection state.Parameter _ (not-done 4 (width ms) b (connection_payload ms.conn ms.address) (some_width ms) h)
due_next ms c p a b d k plain (FirstParameter _ e) =
    goes state.Connection state.Parameter _ (done 4 (width ms) b (connection_payload ms.conn ms.address) (some_width ms) refl)
due_next ms c p a b d k plain (MoreParameter _ _ h e) =
    stays state.Parameter state.Data _
    (parameter-whole ms a b d plain ∙ not-done (6 + length ms.app) (width ms) d (parameter_payload ms.watchdog ms.profile ms.app) (some_width ms) (subst (λ (n : ℕ). d < n) (parameter-plain ms plain) h))
due_next ms c p a b d k plain (FirstZeros _ e) =
    goes state.Parameter state.Data _
    (parameter-whole ms a b d plain ∙ done (6 + length ms.app) (width ms) d (parameter_payload ms.watchdog ms.profile ms.app) (some_width ms) (parameter-plain ms plain))
due_next ms c p a b d k plain (FirstValues _ e) =
    goes state.Parameter state.Data _
    (parameter-whole ms a b d plain ∙ done (6 + length ms.app) (width ms) d (parameter_payload ms.watchdog ms.profile ms.app) (some_width ms) (parameter-plain ms plain))
due_next ms c p a b d k plain _ = refl
