-- The words that name a command, and what is written where they name none.
use Rattle.std.specs.Prelude.{ℕ, ◌-◌, ◌^◌, ◌==◌, List, [], ◌∷◌, codes, Some, None, if◌then◌else◌}
use Rattle.std.specs.declared.option.Option.{Option}
use Rattle.std.specs.Str.{bytes_eq}
use Rattle.fsoe_base.specs.declared.command.End.TheVariants as side
use Rattle.schedule_file.specs.Field.{number_said, word_in}
use Rattle.schedule_file.specs.Limits.{max_events}
use Rattle.fsoe_tool.specs.declared.command.Command.{Command}
use Rattle.fsoe_tool.specs.declared.command.Command.TheVariants as tool

-- the command of one word
abbrev pub command_alone : List ℕ → Option Command
command_alone = word_in (
    (codes "replay", tool.Replay) ∷ (codes "image", tool.Image) ∷ (codes "diagnose", tool.Diagnose)
    ∷ (codes "convert", tool.Convert) ∷ [])

-- the node at the end that a word names
abbrev pub node_at : List ℕ → Option Command
node_at = word_in ((codes "master", tool.Node side.Master) ∷ (codes "slave", tool.Node side.Slave) ∷ [])

-- the schedule of this number, for so many events, from 1 on
abbrev pub bulk_of : Option ℕ → Option ℕ → Option Command
bulk_of None events = None
bulk_of (Some number) None = None
bulk_of (Some number) (Some events) = if events == 0 then None else Some (tool.Bulk number events)

-- the command of two words
abbrev pub command_of_two : List ℕ → List ℕ → Option Command
command_of_two first word =
    if bytes_eq first (codes "node") then node_at word
    else if bytes_eq first (codes "plant") then Some tool.Plant
    else None

-- the command that words name: `node master`, `node slave`, `replay`, `image`, `diagnose`, `convert`, `plant` with the
-- name of a file, or `bulk` with a number of at most 64 bits and from 1 to 200,000 events
abbrev pub command_said : List (List ℕ) → Option Command
command_said [] = None
command_said (word ∷ []) = command_alone word
command_said (first ∷ word ∷ []) = command_of_two first word
command_said (first ∷ number ∷ events ∷ []) =
    if bytes_eq first (codes "bulk") then bulk_of (number_said (2 ^ 64 - 1) number) (number_said max_events events) else None
command_said (first ∷ second ∷ third ∷ fourth ∷ words) = None

-- the file that words name: the second of two
abbrev pub file_named : List (List ℕ) → List ℕ
file_named (first ∷ file ∷ []) = file
file_named words = []

-- the line that is written where the words name no command
abbrev pub usage_line : List ℕ
usage_line = codes "usage: fsoe_tool node master|slave, replay, bulk <number> <events>, plant <file>, image, diagnose, convert\n"
