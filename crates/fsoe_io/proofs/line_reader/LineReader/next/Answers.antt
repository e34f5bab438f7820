use Rattle.fsoe_io.proofs.line_reader.LineReader.next.Goals as goal

pub returns-in-Err : goal.returns-in-Err
returns-in-Err g c = record {
  bytes = c.in-Err.ensures.bytes;
  lines = c.in-Err.ensures.lines;
  stalls = c.in-Err.ensures.stalls;
  unread = c.in-Err.ensures.unread;
  later = c.in-Err.ensures.later;
  cause = c.in-Err.ensures.cause;
}
