-- The names that more than one file of these proofs cites, passed on from one place. Declares nothing.
pub use Rattle.pair_convert.specs.Convert.{ConvertWrite, ConvertedAs, ConvertsReadLines, IsOnePair, RanConvert, SaysTheSame, WroteAll, converted, converted_by, ended_at_stop, event_text, header_text, last_text, line_text, lines_before, only_pair, title_text}
pub use Rattle.pair_convert.specs.Converting.{FindsTaken, LineTaken, PairRead, end_taken, event_taken, full_taken, header_piece, header_taken, later_taken, left_to_take, line_taken, read_none, taken_by}
pub use Rattle.duo_run.specs.Pairs.{Pair, done_after, entries_over, entry_after, events_done, events_to, world_of}
pub use Rattle.exchange_model.proofs.Worlds.Longer.{world_missed, world_next}
pub use Rattle.file_run.proofs.Lines.{by_line, lines_whole}
pub use Rattle.file_run.proofs.Sending.{Sent, cut_part, grew_written, piece_part, rose_since, sent_flushed, sent_none, sent_piece, text_part}
pub use Rattle.file_run.proofs.Taken.{halts_after, took_line, took_none, took_one}
pub use Rattle.file_run.specs.ByTitle.{first_line}
pub use Rattle.file_run.specs.Ending.{AppendedPart, Writes}
pub use Rattle.file_run.specs.Outside.{CountsFaults, Outside, Wrote}
pub use Rattle.file_run.specs.Ran.{line_of_end}
pub use Rattle.file_run.specs.Refusal.{input_cause}
pub use Rattle.file_run.specs.Report.{refused_line}
pub use Rattle.file_run.specs.Reporting.{IsPrefix, refused_at}
pub use Rattle.fsoe_base.specs.LengthsOf.{length_of}
pub use Rattle.fsoe_base.specs.declared.command.End.{End}
pub use Rattle.fsoe_io.specs.Line.{HasNoNewline, IsLine, is_newline, most_held}
pub use Rattle.fsoe_io.specs.declared.status.Ended.{Ended}
pub use Rattle.param_load.specs.declared.entry.Entry.{Entry}
pub use Rattle.param_load.specs.declared.profile.Profile.{Profile}
pub use Rattle.schedule_file.proofs.Sound.{IfOk-every, IfOk-map, each}
pub use Rattle.schedule_file.specs.Event.{profile_of}
pub use Rattle.schedule_file.specs.Field.{bytes_said, fields_of, is_number, number_said}
pub use Rattle.schedule_file.specs.Fields.{by_word, one_field, value_or}
pub use Rattle.schedule_file.specs.Header.{Heading, fields_taken, heading_after, heading_is_whole, heading_new, heading_with, profile_given, profile_taken, rule_place, title_taken}
pub use Rattle.schedule_file.specs.Input.{AtEnd, Input, InputCause, InputOf, Line, Long, NoLine, Refused, Stop, TooMany, WholeHeader, WholeHeaderOf, event_of, header_in, header_of, header_step, heading_profile, input_after, input_by, input_of, is_full, lines_in, lines_of, open_line, own_length, said_after, schedule_format, steps, stop_at, stop_by, stop_full, texts, with_room}
pub use Rattle.schedule_file.specs.NodeHeader.{may_end}
pub use Rattle.schedule_file.specs.PairEvent.{pair_event, pair_line, pair_said, pair_word_of}
pub use Rattle.schedule_file.specs.PairsEvent.{pairs_line}
pub use Rattle.schedule_file.specs.PairsHeader.{PairsHeading, last_taken, pair_begun, pair_taken, pairs_heading_after, pairs_line_taken, pairs_of, stage_after}
pub use Rattle.schedule_file.specs.PairsInput.{pairs_are_full, pairs_format, pairs_input, pairs_said_after}
pub use Rattle.schedule_file.specs.Place.{admitted, header_word_of, is_start}
pub use Rattle.schedule_file.specs.declared.event.Event.{Event}
pub use Rattle.schedule_file.specs.declared.event.ScheduleLine.{ScheduleLine}
pub use Rattle.schedule_file.specs.declared.line_cause.LineCause.{LineCause}
pub use Rattle.schedule_file.specs.declared.pairs_header.PairsStage.{PairsStage}
pub use Rattle.schedule_file.specs.declared.pairs_line.PairsEvent.{PairsEvent}
pub use Rattle.std.proofs.lemmas.Bool.{and_parts, leb-true, ltb-true}
pub use Rattle.std.proofs.lemmas.Grind.{common_steps}
pub use Rattle.std.proofs.lemmas.List.{append-nil, length-append, length_push, map-append}
pub use Rattle.std.proofs.lemmas.List.Elements.{All-nil}
pub use Rattle.std.proofs.lemmas.Option.{IfSome_then}
pub use Rattle.std.proofs.lemmas.Result.{IfOk-at_ok}
pub use Rattle.std.specs.Io.KnownBytes.{Consumes, prepend_known}
pub use Rattle.std.specs.List.{flat_map, join_with_byte, slice_split}
pub use Rattle.std.specs.Prelude.{Err, IfOk, IfSome, IsSomeAnd, None, Ok, Result, Some, codes, decimal, is_some, nat_le, nat_lt, slice_get, slice_index}
pub use Rattle.std.specs.Str.{all_ascii_digits, bytes_eq}
pub use Rattle.std.specs.declared.option.Option.{Option}
