-- The lines of deeds one after another.
use Rattle.std.proofs.Common.{◌≡◌, ℕ, ◌+◌, List, [], ◌∷◌, ◌++◌, length, map, arith, ap, ◌∙◌, sym, append_assoc}
use Rattle.std.proofs.lemmas.List.{append-nil, map-append, length-map}
use Rattle.param_load.specs.declared.entry.Move.{Move}
use Rattle.schedule_file.specs.declared.event.Event.{Event}
use Rattle.end_model.proofs.Runs.{run_append}
use Rattle.end_model.specs.Deed.{Deed}
use Rattle.end_model.specs.Setup.{Setup}
use Rattle.end_model.specs.Step.{step, run, continued}
use Rattle.file_run.specs.Reporting.{IsPrefix}
use Rattle.node_runner.specs.Report.{deed_line, deed_lines, node_deeds}
use Rattle.node_runner.specs.Move.{move_of}

-- there is a deed for each event
count_continued : (s : Setup) (moves : List Move) (e : List Deed) → length (continued s e moves) ≡ length e + length moves
count_continued s [] e = omega arith
count_continued s (m ∷ moves) e = omega (arith, count_continued s moves (step s e m ∷ e))

pub count_deeds : (s : Setup) (events : List Event) → length (node_deeds s events) ≡ length events
count_deeds s events = omega (arith, count_continued s (map move_of events) [], length-map events move_of)

-- one event more is one deed more
pub deeds_more : (s : Setup) (events : List Event) (event : Event) → node_deeds s (events ++ event ∷ []) ≡ step s (node_deeds s events) (move_of event) ∷ node_deeds s events
deeds_more s events event = ap (run s) (map-append move_of events (event ∷ [])) ∙ run_append s (map move_of events) (move_of event ∷ [])

-- the lines of the first deeds come first
lines_continued : (s : Setup) (moves : List Move) (e : List Deed) → IsPrefix (deed_lines s e) (deed_lines s (continued s e moves))
lines_continued s [] e = ([], sym (append-nil (deed_lines s e)))
lines_continued s (m ∷ moves) e =
    let line : List ℕ = deed_line s e (step s e m) in
    let later = lines_continued s moves (step s e m ∷ e) in
    (line ++ later.0, later.1 ∙ append_assoc (deed_lines s e) line later.0)

pub lines_begin : (s : Setup) (events more : List Event) → IsPrefix (deed_lines s (node_deeds s events)) (deed_lines s (node_deeds s (events ++ more)))
lines_begin s events more =
    let later = lines_continued s (map move_of more) (node_deeds s events) in (
      later.0,
      ap (λ (moves : List Move). deed_lines s (run s moves)) (map-append move_of events more)
          ∙ ap (deed_lines s) (run_append s (map move_of events) (map move_of more))
          ∙ later.1,
    )
