use Rattle.std.proofs.Common.{◌≡◌, map, drop}
use Rattle.schedule_file.specs.Field.{word_in}
use Rattle.schedule_file.proofs.field.find_word.Given as goal

abbrev pub invariant-loop-word : goal.invariant-loop-word
invariant-loop-word g l = word_in (map (λ row. (row.0.now, row.1)) l.words) l.text ≡ word_in (map (λ row. (row.0.now, row.1)) (drop l.word-index l.words)) l.text
