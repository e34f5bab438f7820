-- What each verdict says of the frame that it is on.
use Rattle.end_model.proofs.Common.{Code, Command, Deed, Drop, Fails, IsRead, IsResetFrame, IsValid, NotAllowed, Refused, Setup, UnknownCommand, Valid, Verdict, Wrong, WrongConnection, WrongContents, WrongCrc, WrongReset, allowed, code, contents, fits_session, frame_len, has_conn, is_repeat, judged, judged_contents, judged_session, kept, parts, receives, session_fault, since, verdict}
use Rattle.seq_chain.specs.declared.opened.Opened.{Opened}
use Rattle.std.proofs.Common.{◌≡◌, ◌≢◌, ℕ, List, length, Bool, true, false, Option, Some, None, Ok, refl, ap, sym, ◌∙◌, rules}
use Rattle.std.specs.Cmp.Lexicographic.{same_text}
use Rattle.fsoe_base.specs.declared.command.Command.TheVariants as command
use Rattle.fsoe_base.specs.declared.did.Dropped.TheVariants as why
use Rattle.seq_chain.proofs.OpenedFrame as opens
use Rattle.seq_chain.proofs.OpenedFrame.{ComesToCommand, Tested, tested}

-- how the tests of a frame can end, and what they said
pub data Judged (s : Setup) (e : List Deed) (bytes : List ℕ) : Verdict → Type 0 where
  HasOtherLength : length bytes ≢ frame_len (receives s) → Judged s e bytes (Drop why.Length)
  IsKept : length bytes ≡ frame_len (receives s) → kept (since e) ≡ Some bytes → Judged s e bytes (Drop why.Repeat)
  FailsTest : (found : Code) → Fails s e bytes false found → Judged s e bytes (Refused found)
  FailsContents : (found : Code) → Fails s e bytes true found → Judged s e bytes (Wrong found)
  ResetsFrame : (load : List ℕ) → IsResetFrame s e bytes load → Judged s e bytes (Valid command.Reset load)
  IsNext : (c : Command) (load : List ℕ) → c ≢ command.Reset → IsValid s e bytes c load → Judged s e bytes (Valid c load)

is-kept : (o : Option (List ℕ)) (bytes : List ℕ) → is_repeat o bytes ≡ true → o ≡ Some bytes
is-kept None bytes h = cc
is-kept (Some last) bytes h = ap Some (same_text last bytes (sym h))

-- a frame of a session, by its contents
by-contents : (s : Setup) (e : List Deed) (bytes : List ℕ) (c : Command) (w : Option Code) → c ≢ command.Reset → IsRead s e bytes (Some c)
    → allowed s e c ≡ true → has_conn s e c (parts s bytes).conn ≡ true → fits_session s (since e) (parts s bytes) ≡ true → contents s e c (parts s bytes) ≡ w
    → Judged s e bytes (judged_contents c (parts s bytes).load w)
by-contents s e bytes c None n is h i j w = IsNext c (parts s bytes).load n (record { is_read = is; load_is = refl; is_allowed = h; has_conn_id = i; does_fit = j; is_sound = w })
by-contents s e bytes c (Some found) n is h i j w = FailsContents found (WrongContents c found n is h i j w)

-- the same, by the three tests of the session
by-session : (s : Setup) (e : List Deed) (bytes : List ℕ) (c : Command) (a b k : Bool) → c ≢ command.Reset → IsRead s e bytes (Some c)
    → allowed s e c ≡ a → has_conn s e c (parts s bytes).conn ≡ b → fits_session s (since e) (parts s bytes) ≡ k
    → Judged s e bytes (judged_session s e (record { command = c; frame = parts s bytes }) (session_fault a b k))
by-session s e bytes c true true true n is h i j = by-contents s e bytes c (contents s e c (parts s bytes)) n is h i j refl
by-session s e bytes c true true false n is h i j = FailsTest (code 0x04) (WrongCrc c n is h i j)
by-session s e bytes c true false k n is h i j = FailsTest (code 0x03) (WrongConnection c n is h i)
by-session s e bytes c false b k n is h i j = FailsTest (code 0x01) (NotAllowed c n is h)

-- how far a frame came
read : (s : Setup) (e : List Deed) (bytes : List ℕ) (c : Option Command) → ComesToCommand (receives s) (is_repeat (kept (since e)) bytes) bytes c → IsRead s e bytes c
read s e bytes c h = search rules

by-opened : (s : Setup) (e : List Deed) (bytes : List ℕ) (w : Opened) → Tested (receives s) (is_repeat (kept (since e)) bytes) bytes w → Judged s e bytes (judged s e w)
by-opened s e bytes w (opens.HasOtherLength other) = HasOtherLength other
by-opened s e bytes w (opens.IsRepeat len again) = IsKept len (is-kept (kept (since e)) bytes again)
by-opened s e bytes w (opens.UnknownCommand is) = FailsTest (code 0x02) (UnknownCommand (read s e bytes None is))
by-opened s e bytes w (opens.WrongReset found is h) = FailsTest found (WrongReset found (read s e bytes (Some command.Reset) is) h)
by-opened s e bytes w (opens.IsReset said is h i) = ResetsFrame (parts s bytes).load (record { is_read = read s e bytes (Some command.Reset) is; load_is = refl; is_sound = h ∙ ap Ok i })
by-opened s e bytes w (opens.IsOfSession c n is) =
    by-session s e bytes c (allowed s e c) (has_conn s e c (parts s bytes).conn) (fits_session s (since e) (parts s bytes)) n (read s e bytes (Some c) is) refl refl refl

-- the verdict on a frame
pub is_judged : (s : Setup) (e : List Deed) (bytes : List ℕ) → Judged s e bytes (verdict s e bytes)
is_judged s e bytes = by-opened s e bytes _ (tested (receives s) (is_repeat (kept (since e)) bytes) bytes)
