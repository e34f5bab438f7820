-- A frame that an end would take, at another end that refuses its CRCs alone.
use Rattle.end_model.proofs.Common.{Code, Command, Deed, Fails, IsRead, IsValid, NotAllowed, Refused, Setup, UnknownCommand, Valid, Verdict, WrongConnection, WrongContents, WrongCrc, WrongReset, allowed, fits_session, has_conn, parts, since, verdict}
use Rattle.fsoe_base.specs.Codes.{wrong_crc}
use Rattle.std.proofs.Common.{◌≡◌, ◌≢◌, ℕ, List, Bool, true, false, Some, None, refl, sym, ap, subst, ◌∙◌}
use Rattle.fsoe_base.specs.declared.command.Command.TheVariants as command
use Rattle.end_model.proofs.Judged.{Judged, HasOtherLength, IsKept, FailsTest, FailsContents, ResetsFrame, IsNext, is_judged}

by_verdict : (s : Setup) (e : List Deed) (bytes : List ℕ) (c : Command) (load : List ℕ) (w : Verdict) → c ≢ command.Reset → Judged s e bytes w → w ≡ Valid c load → IsValid s e bytes c load
by_verdict s e bytes c load _ n (IsNext c' load' n' valid) h =
    let same : c' ≡ c = cc in
    let same_load : load' ≡ load = cc in
    subst (λ (l : List ℕ). IsValid s e bytes c l) same_load (subst (λ (k : Command). IsValid s e bytes k load') same valid)
by_verdict s e bytes c load _ n (ResetsFrame load' frame) h = let same : command.Reset ≡ c = cc in absurd (n (sym same))
by_verdict s e bytes c load _ n _ h = cc

-- a frame of a session that an end would take has passed each test
pub valid_is : (s : Setup) (e : List Deed) (bytes : List ℕ) (c : Command) (load : List ℕ) → c ≢ command.Reset → verdict s e bytes ≡ Valid c load → IsValid s e bytes c load
valid_is s e bytes c load n h = by_verdict s e bytes c load (verdict s e bytes) n (is_judged s e bytes) h

-- a frame that comes as far as the test of its CRCs, and doesn't pass it
pub record ComesToCrcs (s : Setup) (e : List Deed) (bytes : List ℕ) (c : Command) : Type 0 where
  pub other : c ≢ command.Reset
  pub is_read : IsRead s e bytes (Some c)
  pub is_allowed : allowed s e c ≡ true
  pub has_conn_id : has_conn s e c (parts s bytes).conn ≡ true
  pub does_not_fit : fits_session s (since e) (parts s bytes) ≡ false

one_command : (s : Setup) (e : List Deed) (bytes : List ℕ) (c c' : Command) → IsRead s e bytes (Some c) → IsRead s e bytes (Some c') → c ≡ c'
one_command s e bytes c c' one two = let same : Some c ≡ Some c' = sym one.command_is ∙ two.command_is in cc

not_reset : (s : Setup) (e : List Deed) (bytes : List ℕ) (c : Command) → ComesToCrcs s e bytes c → IsRead s e bytes (Some command.Reset) → ⊥
not_reset s e bytes c is read = is.other (one_command s e bytes c command.Reset is.is_read read)

by_test : (s : Setup) (e : List Deed) (bytes : List ℕ) (c : Command) (passed : Bool) (found : Code) → ComesToCrcs s e bytes c → Fails s e bytes passed found → passed ≡ false → found ≡ wrong_crc
by_test s e bytes c _ _ is (UnknownCommand read) h = let none : Some c ≡ None = sym is.is_read.command_is ∙ read.command_is in absurd (cc none)
by_test s e bytes c _ _ is (WrongReset found read fault) h = absurd (not_reset s e bytes c is read)
by_test s e bytes c _ _ is (NotAllowed c' n read test) h =
    let same : c' ≡ c = one_command s e bytes c' c read is.is_read in
    let both : true ≡ false = sym is.is_allowed ∙ ap (allowed s e) (sym same) ∙ test in
    absurd (cc both)
by_test s e bytes c _ _ is (WrongConnection c' n read may test) h =
    let same : c' ≡ c = one_command s e bytes c' c read is.is_read in
    let both : true ≡ false = sym is.has_conn_id ∙ ap (λ k. has_conn s e k (parts s bytes).conn) (sym same) ∙ test in
    absurd (cc both)
by_test s e bytes c _ _ is (WrongCrc c' n read may conn test) h = refl
by_test s e bytes c _ _ is (WrongContents c' found n read may conn fit test) h = absurd (cc h)

by_judged : (s : Setup) (e : List Deed) (bytes : List ℕ) (c : Command) (w : Verdict) → ComesToCrcs s e bytes c → Judged s e bytes w → w ≡ Refused wrong_crc
by_judged s e bytes c _ is (HasOtherLength other) = absurd (other is.is_read.has_length)
by_judged s e bytes c _ is (IsKept len again) = absurd (is.is_read.is_new again)
by_judged s e bytes c _ is (FailsTest found fails) = ap Refused (by_test s e bytes c false found is fails refl)
by_judged s e bytes c _ is (FailsContents found (WrongContents c' _ n read may conn fit test)) =
    let both : true ≡ false = sym fit ∙ is.does_not_fit in
    absurd (cc both)
by_judged s e bytes c _ is (ResetsFrame load frame) = absurd (not_reset s e bytes c is frame.is_read)
by_judged s e bytes c _ is (IsNext c' load n valid) = let both : true ≡ false = sym valid.does_fit ∙ is.does_not_fit in absurd (cc both)

pub crc_refused : (s : Setup) (e : List Deed) (bytes : List ℕ) (c : Command) → ComesToCrcs s e bytes c → verdict s e bytes ≡ Refused wrong_crc
crc_refused s e bytes c is = by_judged s e bytes c (verdict s e bytes) is (is_judged s e bytes)
