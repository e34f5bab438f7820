use Rattle.pair_convert.proofs.Common.{left_to_take, prepend_known}
use Rattle.std.proofs.Common.{◌≡◌}
use Rattle.pair_convert.proofs.Conversion.Converting.{Converting}
use Rattle.pair_convert.proofs.convert.run_convert.Given as goal

abbrev pub invariant-loop-output : goal.invariant-loop-output
invariant-loop-output g l = record {
  source_stays : g.S.Source.faults l.source ≡ g.S.Source.faults l.fn.source;
  sink_stays : g.K.Sink.faults l.sink ≡ g.K.Sink.faults l.fn.sink;
  running : Converting (g.S.Source.left l.fn.source) (prepend_known l.reader.bytes (g.S.Source.left l.source)) (g.K.Sink.written l.fn.sink) (g.K.Sink.written l.sink) l.output l.reading l.reader.lines;
}

abbrev pub decreases-loop-output : goal.decreases-loop-output
decreases-loop-output g l = left_to_take l.reading
