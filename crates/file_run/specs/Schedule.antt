-- What a line of a schedule says by a grammar.
use Rattle.std.specs.Prelude.{ℕ, List, Result}
use Rattle.fsoe_base.specs.LengthsOf.{length_of}
use Rattle.schedule_file.specs.Event.{profile_of}
use Rattle.schedule_file.specs.Input.{said_by}
use Rattle.schedule_file.specs.declared.event.ScheduleLine.{ScheduleLine}
use Rattle.schedule_file.specs.declared.line_cause.LineCause.{LineCause}
use Rattle.file_run.specs.declared.schedule.Grammar.{Grammar}

-- what a line says for the ends of a grammar, with its lengths and profiles
abbrev pub grammar_says : Grammar → List ℕ → Result ScheduleLine LineCause
grammar_says grammar text = said_by grammar.kind (length_of grammar.lengths) (profile_of grammar.profiles) text
