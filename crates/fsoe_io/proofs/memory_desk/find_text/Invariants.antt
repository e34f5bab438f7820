use Rattle.std.proofs.Common.{◌≡◌, drop, map}
use Rattle.fsoe_io.specs.Desk.{named, text_under}
use Rattle.fsoe_io.proofs.memory_desk.find_text.Given as goal

abbrev pub invariant-loop-file : goal.invariant-loop-file
invariant-loop-file l = text_under (map named l.files) l.name ≡ text_under (map named (drop l.file-index l.files)) l.name
