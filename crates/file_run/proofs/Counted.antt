-- What the counts of faults say at the end of a run.
use Rattle.file_run.proofs.Common.{Blames, CountsFaults, Ended, EndsAs, Err, Halt, Option, Outside, RanOver, Reporting, Told, Writes, common_steps, halted_by, last_of}
use Rattle.std.proofs.Common.{◌≡◌, ◌≤◌, ◌<◌, ℕ, List, ◌++◌, length, ◌∙◌, inl, inr, arith, rules}
use Rattle.std.specs.Prelude.{◌≢◌}
use Rattle.fsoe_io.specs.declared.status.Status.TheVariants as status

-- a write failed, and nothing before it
pub counted_write : (ended : Ended) (o : Outside) → ended.status ≡ status.Write → o.source.faults_after ≡ o.source.faults_before → o.sink.faults_before ≤ o.sink.faults_after → CountsFaults ended.status o
counted_write ended o is source later = record { source_later = omega (arith, source); sink_later = later; source_stayed = λ other. source; sink_stayed = λ other. absurd (other is) }

sink_stayed : (sent : ℕ) (text : List ℕ) (ended result : Ended) (sink : Told) → Writes sent text ended result sink → result.status ≢ status.Write → sink.faults_after ≡ sink.faults_before
sink_stayed sent text ended result sink writes other = elim writes [ inl whole ↦ whole.2 | inr cut ↦ absurd (other cut.status_is) ]

-- what is written last, after nothing failed
pub counted_last : (o : Outside) (between : Option (List ℕ)) (faults sent : ℕ) (text : List ℕ) (ended result : Ended) → o.source.faults_after ≡ o.source.faults_before → faults ≡ o.sink.faults_before
    → Writes sent text ended result (record { before = between; after = o.sink.after; faults_before = faults; faults_after = o.sink.faults_after }) → faults ≤ o.sink.faults_after → CountsFaults result.status o
counted_last o between faults sent text ended result source same writes later = record {
  source_later = omega (arith, source);
  sink_later = omega (arith, same, later);
  source_stayed = λ other. source;
  sink_stayed = λ other. sink_stayed sent text ended result (record { before = between; after = o.sink.after; faults_before = faults; faults_after = o.sink.faults_after }) writes other ∙ same;
}

-- a source's count stayed unless its read failed; then a write fails only where bytes wait
source_stayed : (T : Type 0) (sent : ℕ) (waiting : List ℕ) (why : Halt) (result : Ended) (sink : Told) (before after : ℕ) → Blames {T = T} (Err why) before after → (0 < length waiting → after ≡ before)
    → Writes sent (waiting ++ last_of why) (halted_by why) result sink → result.status ≢ status.Read → after ≡ before
source_stayed T sent waiting why result sink before after h k l m = grind (arith, common_steps)

-- the input goes no further, after nothing failed; where a read fails, nothing waits
pub counted_halted : (T : Type 0) (o : Outside) (between : Option (List ℕ)) (read faults sent : ℕ) (waiting : List ℕ) (why : Halt) (result : Ended) → Blames {T = T} (Err why) read o.source.faults_after → read ≤ o.source.faults_after → read ≡ o.source.faults_before
    → (0 < length waiting → o.source.faults_after ≡ read) → faults ≡ o.sink.faults_before
    → Writes sent (waiting ++ last_of why) (halted_by why) result (record { before = between; after = o.sink.after; faults_before = faults; faults_after = o.sink.faults_after }) → faults ≤ o.sink.faults_after → CountsFaults result.status o
counted_halted T o between read faults sent waiting why result h k l m n p q = search rules

-- where neither a read nor a write failed, the status says how the input stops
pub ran_by : {H L E : Type 0} (r : Reporting H L E) (ended : Ended) (o : Outside) → EndsAs r ended.status ended o → CountsFaults ended.status o → RanOver r ended o
ran_by r ended o h k = grind arith
