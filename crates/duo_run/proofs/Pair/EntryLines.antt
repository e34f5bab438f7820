-- The lines of entries one after another.
use Rattle.duo_run.proofs.Common.{Entry, Event, IsPrefix, MasterSettings, SlaveSettings, append-nil, entry_at, entry_line, entry_lines, going_on, world, world_after, world_on}
use Rattle.std.proofs.Common.{◌≡◌, ℕ, ◌+◌, List, [], ◌∷◌, ◌++◌, length, Option, Some, None, ap, ◌∙◌, sym, append_assoc}

lines_on : (ms : MasterSettings) (ss : SlaveSettings) (events : List Event) (w : List Entry) (next : Option Entry) → ((x : Entry) → IsPrefix (entry_lines (x ∷ w)) (entry_lines (world_after ms ss events (x ∷ w))))
    → IsPrefix (entry_lines w) (entry_lines (going_on w next (world_after ms ss events)))
lines_on ms ss events w None later = ([], sym (append-nil (entry_lines w)))
lines_on ms ss events w (Some x) later =
    let line : List ℕ = entry_line (length w + 1) x in
    let rest = later x in
    (line ++ rest.0, rest.1 ∙ append_assoc (entry_lines w) line rest.0)

lines_after : (ms : MasterSettings) (ss : SlaveSettings) (events : List Event) (w : List Entry) → IsPrefix (entry_lines w) (entry_lines (world_after ms ss events w))
lines_after ms ss [] w = ([], sym (append-nil (entry_lines w)))
lines_after ms ss (event ∷ events) w = lines_on ms ss events w (entry_at ms ss w event) (λ x. lines_after ms ss events (x ∷ w))

-- the lines of the first entries come first, where each of the first events has its entry
pub lines_begin : (ms : MasterSettings) (ss : SlaveSettings) (log more : List Event) → length (world ms ss log) ≡ length log → IsPrefix (entry_lines (world ms ss log)) (entry_lines (world ms ss (log ++ more)))
lines_begin ms ss log more whole =
    let rest = lines_after ms ss more (world ms ss log) in
    (rest.0, ap entry_lines (world_on ms ss log more whole) ∙ rest.1)
