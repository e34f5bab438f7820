-- What a call answers and leaves that copies the text to memory.
use Rattle.std.specs.Prelude.{ℕ, List, ◌==◌, length, if◌then◌else◌}
use Rattle.build_text.specs.declared.text.TheConstants.{BUILD, BUILD_LENGTH}

-- one number where the memory has the text's number of bytes, else the other
abbrev pub build_answer : (fits misfits : ℕ) → List ℕ → ℕ
build_answer fits misfits memory = if length memory == BUILD_LENGTH then fits else misfits

-- the text where the memory has its number of bytes, else what the memory held
abbrev pub build_copied : List ℕ → List ℕ
build_copied memory = if length memory == BUILD_LENGTH then BUILD else memory
