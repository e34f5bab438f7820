-- The frames of an input are bytes, so that what a run reports of it has the verdict on them.
use Rattle.trace_diag.proofs.Common.{BeginsReport, CutsReport, Ended, EndsAs, RanOver, ReportsReadLines, input_read, judge_reporting, refused_at, trace_format}
use Rattle.std.proofs.Common.{ℕ, ◌+◌, List, Option, arith}
use Rattle.fsoe_io.specs.declared.status.Status.{Status}
use Rattle.fsoe_io.specs.declared.status.Status.TheVariants as status
use Rattle.file_run.specs.Outside.{Outside, Wrote}
use Rattle.trace_diag.specs.Ran.{diagnose_reporting, DiagnosesInput}
use Rattle.trace_diag.proofs.Inputs.{input_bytes}

reported : (bytes : List ℕ) (ended : Ended) (text : List ℕ) → judge_reporting.reports (input_read trace_format bytes) ended text → DiagnosesInput (input_read trace_format bytes) ended text
reported bytes ended text h = h (input_bytes bytes)

begun : (bytes text : List ℕ) → BeginsReport judge_reporting (input_read trace_format bytes) text → BeginsReport diagnose_reporting (input_read trace_format bytes) text
begun bytes text h = (h.0, h.1, reported bytes h.1 h.0 h.2, h.3)

cut : (bytes text : List ℕ) → CutsReport judge_reporting (input_read trace_format bytes) text → CutsReport diagnose_reporting (input_read trace_format bytes) text
cut bytes text h = (h.0, h.1, reported bytes h.1 h.0 h.2, h.3, h.4)

wrote : (o : Outside) (P Q : List ℕ → List ℕ → Type 0) → ((input text : List ℕ) → P input text → Q input text) → Wrote o P → Wrote o Q
wrote o P Q h k = grind arith

read-lines : (lines : ℕ) (input : List ℕ) (left : Option (List ℕ)) (text : List ℕ) → ReportsReadLines judge_reporting lines input left text → ReportsReadLines diagnose_reporting lines input left text
read-lines lines input left text k = record {
  taken = k.taken;
  held = k.held;
  goes = k.goes;
  open_line = k.open_line;
  stops = k.stops;
  writes = reported k.taken (refused_at (lines + 1)) _ k.writes;
  begins = begun input text k.begins;
}

ends-as : (s : Status) (ended : Ended) (o : Outside) → EndsAs judge_reporting s ended o → EndsAs diagnose_reporting s ended o
ends-as status.Ok ended o k = record { ends = k.ends; read = k.read; wrote = wrote o _ _ (λ input. reported input ended) k.wrote }
ends-as status.Other ended o k = record { ends = k.ends; read = k.read; wrote = wrote o _ _ (λ input. reported input ended) k.wrote }
ends-as status.Line ended o k = record { number = k.number; read = k.read; wrote = wrote o _ _ (λ input. reported input ended) k.wrote }
ends-as status.Read ended o k = record { read = k.read; wrote = wrote o _ _ (λ input. read-lines ended.place input o.source.after) k.wrote; cause = k.cause }
ends-as status.Write ended o k = record { appended = k.appended; wrote = wrote o _ _ (λ input text w. (w.0, cut input text w.1)) k.wrote; cause = k.cause }
ends-as status.Memory ended o k = record { place_is = k.place_is; takes = k.takes; wrote = wrote o _ _ begun k.wrote }
ends-as _ ended o k = k

pub ran : (ended : Ended) (o : Outside) → RanOver judge_reporting ended o → RanOver diagnose_reporting ended o
ran ended o k = record {
  ends = ends-as ended.status ended o k.ends;
  completes = λ source sink memory. wrote o _ _ (λ input. reported input ended) (k.completes source sink memory);
  faults = k.faults;
}
