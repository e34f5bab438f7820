-- The line of each slot of which something is told.
use Rattle.std.specs.Prelude.{◌≡◌, ℕ, suc, List, [], ◌∷◌, ◌++◌, codes, decimal, Option, Some, None, if◌then◌else◌}
use Rattle.fsoe_base.specs.declared.did.Did.{Did}
use Rattle.entry_text.specs.EntryText.{entry_text}
use Rattle.end_model.specs.Deed.{Deed}
use Rattle.end_model.specs.Outputs.{out}
use Rattle.end_model.specs.Readiness.{state_of}
use Rattle.end_model.specs.Setup.{Setup}
use Rattle.process_image.specs.Calls.{last_frame}
use Rattle.process_image.specs.Standing.{ImagesView, ShowsAt}

-- the line of a slot whose end did this at the event of this number, sent this frame, and is after these deeds
abbrev pub entry_told : ℕ → ℕ → Did → List ℕ → Setup → List Deed → List ℕ
entry_told n slot did sent s e = decimal n ++ codes " " ++ decimal slot ++ codes " " ++ entry_text did (state_of s e) (out s e) sent ++ codes "\n"

-- the line of a slot whose end did this, where its last frame is the one that it sent, if it sent one
abbrev pub told_line : ℕ → ℕ → Did → Setup → List Deed → List ℕ
told_line n slot did s e = entry_told n slot did (if did.sent then last_frame s e else []) s e

-- this is the line of what is told of a slot at the event of this number; nothing is told by no line
abbrev pub IsLineOf : ImagesView → ℕ → ℕ → Option Did → List ℕ → Type 0
IsLineOf v number slot None line = line ≡ []
IsLineOf v number slot (Some did) line = ShowsAt v slot line (told_line number slot did)

-- this text is the lines of slots that are numbered from `slot` on, where `told` says what each of these tells
abbrev pub AreLinesOf : {T : Type 0} → (T → Option Did) → ImagesView → ℕ → ℕ → List T → List ℕ → Type 0
AreLinesOf told v number slot [] text = text ≡ []
AreLinesOf told v number slot (x ∷ later) text = (line : List ℕ) × (rest : List ℕ) × IsLineOf v number slot (told x) line × AreLinesOf told v number (suc slot) later rest × (text ≡ line ++ rest)

-- a text, and behind it a line that shows this word of what the end of a slot did
pub record AddsLine (v : ImagesView) (slot : ℕ) (word : Setup → List Deed → List ℕ) (text text' : List ℕ) : Type 0 where
  pub line : List ℕ
  pub shows : ShowsAt v slot line word
  pub text_is : text' ≡ text ++ line
