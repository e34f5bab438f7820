-- The names that more than one file of these proofs cites, passed on from one place. Declares nothing.
pub use Rattle.end_core.proofs.Either.{set_answers, setup_is}
pub use Rattle.end_core.specs.Core.{IsAtRest, setup_of}
pub use Rattle.end_core.specs.Standing.{Answers, IsAfter, IsNew}
pub use Rattle.end_core.specs.declared.one_end.Core.{Core}
pub use Rattle.end_model.specs.Deed.{Deed, is_empty}
pub use Rattle.end_model.specs.Readiness.{held, offer}
pub use Rattle.end_model.specs.Runs.{IsProper, IsRun, IsSetting, profile_of}
pub use Rattle.end_model.specs.Setup.{OfMaster, OfSlave, Setup, piece_len, receives, sends}
pub use Rattle.end_model.specs.Step.{after_phase, download_frame, goes_on, master_answer, run, sealed_next, sent_on, slave_answer, step, with_data, with_piece}
pub use Rattle.file_run.specs.Reporting.{IsPrefix, ReportsSoFar, ended_at}
pub use Rattle.file_run.specs.Waiting.{WaitingText, waits}
pub use Rattle.fsoe_base.specs.Did.{nothing}
pub use Rattle.fsoe_base.specs.Lengths.{frame_len, is_length}
pub use Rattle.fsoe_base.specs.declared.did.Did.{Did}
pub use Rattle.hex.proofs.HexLemmas.{length-encode_with}
pub use Rattle.hex.specs.Hex.{encode_lower, lower_digits}
pub use Rattle.image_file.specs.EventLine.{end_at, id_at, image_line, image_said, word_of}
pub use Rattle.image_file.specs.Fault.{IsMadeOf, first_fault, first_outside, first_pair, first_with, pair_or, places_from, plan_of}
pub use Rattle.image_file.specs.Header.{ImageHeading, slots_of}
pub use Rattle.image_file.specs.Input.{end_terms, event_in, image_format}
pub use Rattle.image_file.specs.Made.{IsEndOf, IsPlanOf, IsSlotOf}
pub use Rattle.image_file.specs.Places.{AreNumbered, Place, Plan, lie_inside, overlap, share, slot_numbered, spans_of}
pub use Rattle.image_file.specs.declared.event.ImageEvent.{ImageEvent}
pub use Rattle.image_file.specs.declared.header.SlotHeader.{SlotHeader}
pub use Rattle.image_file.specs.declared.slot.Slot.{Slot}
pub use Rattle.param_load.specs.Profile.{allows_id}
pub use Rattle.param_load.specs.declared.entry.Move.{Move}
pub use Rattle.param_load.specs.declared.master_settings.MasterSettings.{MasterSettings}
pub use Rattle.param_load.specs.declared.slave_settings.SlaveSettings.{SlaveSettings}
pub use Rattle.process_image.specs.Calls.{and_move, if_named, last_frame, move_in, moves, output, slot_contents, slot_deeds, slot_delivery, slot_frame, slot_next_deed, with_frames}
pub use Rattle.process_image.specs.Image.{bytes_at, input, sampled, with_bytes}
pub use Rattle.process_image.specs.Own.{Unwritten, WritesFit, at_samples, distinct_after, frames_in}
pub use Rattle.process_image.specs.Ran.{image_reporting}
pub use Rattle.process_image.specs.Report.{IsImageReport, image_event_lines, image_last_lines, image_lines, image_report, move_line, slot_entry_line}
pub use Rattle.process_image.specs.SlotLines.{AreLinesOf, IsLineOf, entry_told, told_line}
pub use Rattle.process_image.specs.Sound.{IsNewSeat, IsSound, IsSoundSeat, MaySend}
pub use Rattle.process_image.specs.Standing.{AnswersReset, AnswersSample, AnswersTick, Follows, HasSlot, HoldsFrames, ImagesView, IsBeside, IsSeatOf, Keeps, ShowsAt, ShowsFrames, StandsFor, TellsEach, setups_of, told}
pub use Rattle.process_image.specs.Steps.{Does, DoesEach, IsSampleStep, IsSeatStep, IsStepOf, Makes, SeatStep, after_steps, did_in, seat_contents, told_by, with_sent}
pub use Rattle.process_image.specs.Telling.{DoesEvent, FitsImages, IsDidOf, RunStands, RunView, TellsEvent, slot_in}
pub use Rattle.process_image.specs.declared.seat.Seat.{Seat}
pub use Rattle.schedule_file.proofs.Sound.{each, known}
pub use Rattle.schedule_file.specs.Field.{bytes_said, fields_of}
pub use Rattle.schedule_file.specs.Fields.{map_ok, next_field, no_field, number_16, number_32, one_field, value_or}
pub use Rattle.schedule_file.specs.Input.{Refused, Stop, input_read}
pub use Rattle.schedule_file.specs.declared.line_cause.LineCause.{LineCause}
pub use Rattle.std.proofs.Math.Seq.{map-set_same}
pub use Rattle.std.proofs.lemmas.Bool.Decides.{nat_tests}
pub use Rattle.std.proofs.lemmas.Grind.{common_steps}
pub use Rattle.std.proofs.lemmas.List.{append-nil, length-append, length-replicate, length-set, length-take, length-take-le, reverse-append, take_all, take_more}
pub use Rattle.std.proofs.lemmas.List.Elements.{All-cons, All-get_or, All-head, All-nil, All-push, All-tail}
pub use Rattle.std.proofs.lemmas.Option.{get_or_from_slice_get, slice_get-map, slice_get_read, slice_get_within}
pub use Rattle.std.proofs.lemmas.Slice.Zip.{AllZip-long, AllZip-right, all_zipped_more}
pub use Rattle.std.specs.Cmp.Lexicographic.{pointwise, same_text}
pub use Rattle.std.specs.List.{AllZip}
pub use Rattle.std.specs.Prelude.{All, Err, IfOk, IsSomeAnd, IsTrue, Ok, Result, nat_le, option_map, slice_index}
