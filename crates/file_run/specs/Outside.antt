-- What the outside tells of a run.
use Rattle.std.specs.Prelude.{◌≡◌, ◌≢◌, ◌≤◌, ◌-◌, ◌^◌, ℕ, List, IfSome}
use Rattle.std.specs.declared.option.Option.{Option}
use Rattle.fsoe_io.specs.Sink.{Grew}
use Rattle.fsoe_io.specs.declared.status.Status.{Status}
use Rattle.fsoe_io.specs.declared.status.Status.TheVariants as status

-- what a source or a sink tells before and after a run: its bytes, where it tells them, and how often it failed
pub record Told : Type 0 where
  pub before : Option (List ℕ)
  pub after : Option (List ℕ)
  pub faults_before : ℕ
  pub faults_after : ℕ

-- what a source or a sink tells of its bytes and of its faults, as it is before a run and after it
abbrev pub told : {A : Type 0} → (A → Option (List ℕ)) → (A → ℕ) → A → A → Told
told bytes faults before after = record { before = bytes before; after = bytes after; faults_before = faults before; faults_after = faults after }

-- nothing failed at it, as its count tells: the count stayed, and isn't 2^64 - 1, where a count of 64 bits always stays
abbrev pub HadNoFault : Told → Type 0
HadNoFault t = (t.faults_after ≡ t.faults_before) × (t.faults_after ≢ 2 ^ 64 - 1)

-- a source tells the bytes that are to come from it, a sink those that were written to it
pub record Outside : Type 0 where
  pub source : Told
  pub sink : Told

-- where both tell their bytes, the input and the text that was appended are related so
abbrev pub Wrote : Outside → (List ℕ → List ℕ → Type 0) → Type 0
Wrote o says = IfSome o.source.before (λ input. (text : List ℕ) × Grew o.sink.before o.sink.after text × says input text)

-- no count of faults fell; that of the source stayed unless a read failed, and that of the sink unless a write failed
pub record CountsFaults (s : Status) (o : Outside) : Type 0 where
  pub source_later : o.source.faults_before ≤ o.source.faults_after
  pub sink_later : o.sink.faults_before ≤ o.sink.faults_after
  pub source_stayed : s ≢ status.Read → o.source.faults_after ≡ o.source.faults_before
  pub sink_stayed : s ≢ status.Write → o.sink.faults_after ≡ o.sink.faults_before
