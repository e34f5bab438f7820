-- A slave that uploaded what a master downloaded has the master's terms.
use Rattle.exchange_model.proofs.Common.{MasterSettings, OfMaster, Profile, SlaveSettings, Terms, drop-replicate, id_len, length-append, length-replicate, mul-le-mul_left, number_at, padded, parameter_payload, pieces, take-add, take-append_seam, take-replicate, take_all, terms, terms_in, word_is}
use Rattle.std.proofs.Common.{◌≡◌, ℕ, suc, zero, ◌+◌, ◌-◌, ◌*◌, ◌/◌, ◌%◌, ◌<◌, ◌≤◌, List, [], ◌∷◌, ◌++◌, length, take, drop, replicate, true, refl, sym, ap, ap₂, ◌∙◌, arith, rules}
use Rattle.exchange_model.proofs.Alone.Framed.{connection_of, parameters_of}
use Rattle.exchange_model.proofs.Alone.Pieces.{front}
use Rattle.exchange_model.proofs.Alone.Uploads.{Tested}

-- the first bytes, filled up with zeros, are those of the list with zeros after it
take-filled : (q : List ℕ) (c n : ℕ) → c ≤ length q + n → padded (take c q) c ≡ take c (q ++ replicate n 0)
take-filled q zero n h = refl
take-filled [] (suc c) n h = let e : suc c - 0 ≡ suc c = omega arith in ap (λ k. replicate k 0) e ∙ sym (take-replicate (suc c) n 0 (omega arith))
take-filled (x ∷ q) (suc c) n h =
    let e : suc c - suc (length (take c q)) ≡ c - length (take c q) = omega arith in
    ap (λ k. x ∷ (take c q ++ replicate k 0)) e ∙ ap (λ t. x ∷ t) (take-filled q c n (omega arith))

-- so is a piece
piece-filled : (p : List ℕ) (c m n : ℕ) → m + c ≤ length p + n → padded (take c (drop m p)) c ≡ take c (drop m (p ++ replicate n 0))
piece-filled p c zero n h = take-filled p c n (omega arith)
piece-filled [] c (suc m) n h = take-filled [] c (n - suc m) (omega arith) ∙ ap (take c) (sym (drop-replicate (suc m) n 0))
piece-filled (x ∷ p) c (suc m) n h = piece-filled p c m n (omega arith)

-- the first k pieces are the first bytes of the payload with zeros after it
pub front_take : (p : List ℕ) (c k n : ℕ) → k * c ≤ length p + n → front p c k ≡ take (k * c) (p ++ replicate n 0)
front_take p c zero n h = let e : 0 ≡ zero * c = omega arith in ap (λ m. take m (p ++ replicate n 0)) e
front_take p c (suc k) n h =
    let a : suc k - 1 ≡ k = omega arith in
    let e : k * c + c ≡ suc k * c = omega arith in
    ap₂ (λ (t u : List ℕ). t ++ u) (front_take p c k n (omega arith)) (ap (λ m. padded (take c (drop (m * c) p)) c) a ∙ piece-filled p c (k * c) n (omega arith))
    ∙ (sym (take-add (k * c) c (p ++ replicate n 0)) ∙ ap (λ m. take m (p ++ replicate n 0)) e)

-- all pieces are the payload, and zeros after it
pub front_whole : (p : List ℕ) (c k : ℕ) → 0 < c → pieces p c ≤ k → front p c k ≡ p ++ replicate (k * c - length p) 0
front_whole p c k h g =
    let n : ℕ = k * c - length p in
    let m : c * ((length p + c - 1) / c) ≤ c * k = mul-le-mul_left c g in
    front_take p c k n (omega arith) ∙ take_all (k * c) (p ++ replicate n 0) (omega (arith, length-append p (replicate n 0), length-replicate {A = ℕ} n 0))

-- two bytes say their number
pub number-back : (n : ℕ) → n % 256 + 256 * (n / 256) ≡ n
number-back n = omega arith

app-back : (app zs : List ℕ) → take (length app % 256 + 256 * (length app / 256)) (app ++ zs) ≡ app
app-back app zs = ap (λ n. take n (app ++ zs)) (number-back (length app)) ∙ take-append_seam app zs

-- the terms of a master's settings, with this profile
abbrev terms_with : MasterSettings → Profile → Terms
terms_with ms p = record { conn = ms.conn; address = ms.address; watchdog = ms.watchdog; app = ms.app; profile = p }

-- the parameters that a master downloads in this profile
abbrev parameters_in : MasterSettings → Profile → List ℕ
parameters_in ms p = parameter_payload ms.watchdog p ms.app

-- a slave's profile is the master's, by the length of the communication parameters and the word among them
agree-in : (ms : MasterSettings) (q p : Profile) (zc zp : List ℕ) → number_at 0 (parameters_in ms p ++ zp) ≡ id_len q → word_is q (parameters_in ms p ++ zp) ≡ true
    → terms_in q (connection_of ms ++ zc) (parameters_in ms p ++ zp) ≡ terms_with ms p
agree-in ms q p zc zp h k = search (rules, app-back)

-- a slave that uploaded both payloads whole has the master's terms
pub agree : (ms : MasterSettings) (ss : SlaveSettings) (zc zp connection parameters : List ℕ) → connection ≡ connection_of ms ++ zc → parameters ≡ parameters_of ms ++ zp → Tested ss parameters
    → terms_in ss.profile connection parameters ≡ terms (OfMaster ms) []
agree ms ss zc zp connection parameters h k l = search (rules, agree-in)
