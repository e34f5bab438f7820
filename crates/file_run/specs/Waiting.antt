-- A text that is handed out part by part.
use Rattle.std.specs.Prelude.{ℕ, List, drop}

-- a text, of which so many bytes were handed out
pub record WaitingText : Type 0 where
  pub text : List ℕ
  pub given : ℕ

-- what wasn't
abbrev pub waits : WaitingText → List ℕ
waits w = drop w.given w.text
