-- An input whose first line doesn't come, or is too long.
use Rattle.file_run.proofs.Common.{Blames, Ended, Err, FindsLine, Goes, Halt, HaltsHeader, InputFormat, LeavesUnbegun, Option, Outside, RanOver, Reporting, Stalls, TakesMemory, Writes, halted_by, last_of, most_held, prepend_known}
use Rattle.std.proofs.Common.{◌≡◌, ◌≤◌, ℕ, List, [], length, arith}
use Rattle.file_run.proofs.Running.{HasReports, unbegun}
use Rattle.file_run.proofs.Taken.{halts_after, took_none}

-- a reader that holds nothing changes nothing of what is to come
pub nothing_held : (held : List ℕ) (told : Option (List ℕ)) → held ≡ [] → prepend_known held told ≡ told
nothing_held held told h = grind arith

unread_halts : {H L E : Type 0} (f : InputFormat H L E) (wants : Type 0) (why : Halt) (text : List ℕ) (told new : Option (List ℕ)) (lines : ℕ) → FindsLine (Err why) text told new → Goes {T = Unit {0}} (Err why) 0 lines told new → HaltsHeader f wants why told new
unread_halts f wants why text told new lines h k = grind arith

-- whatever machine was to run over it, its report is the line of the refusal, and it wasn't begun
pub unread : {H L E : Type 0} (r : Reporting H L E) (o : Outside) (first held text : List ℕ) (from lines : ℕ) (why : Halt) (result : Ended) → HasReports r → first ≡ [] → from ≡ 0 → FindsLine (Err why) text (prepend_known first o.source.before) (prepend_known held o.source.after)
    → Goes {T = Unit {0}} (Err why) from lines (prepend_known first o.source.before) (prepend_known held o.source.after) → Stalls {T = Unit {0}} (Err why) held → length held ≤ most_held
    → Blames {T = Unit {0}} (Err why) o.source.faults_before o.source.faults_after → o.source.faults_before ≤ o.source.faults_after → Writes 0 (last_of why) (halted_by why) result o.sink → o.sink.faults_before ≤ o.sink.faults_after
    → RanOver r result o × LeavesUnbegun r result o
unread r o first held text from lines why result has none zero finds goes stalls most blames later writes wrote =
    let found = rw (nothing_held first o.source.before none) at finds in
    let gone = rw (nothing_held first o.source.before none, zero) at goes in
    unbegun r o held why result has (unread_halts r.format (TakesMemory r.memory) why text o.source.before (prepend_known held o.source.after) lines found gone)
    (halts_after o.source.before o.source.before o.source.after held 0 lines why (took_none o.source.before) gone stalls most) stalls blames later writes wrote
