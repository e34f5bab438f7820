-- The names that more than one file of these proofs cites, passed on from one place. Declares nothing.
pub use Rattle.end_core.specs.Core.{setup_of}
pub use Rattle.end_core.specs.declared.one_end.Core.{Core}
pub use Rattle.end_model.specs.Setup.{OfMaster, OfSlave, Setup}
pub use Rattle.fsoe_base.specs.Lengths.{frame_len, is_length}
pub use Rattle.image_file.specs.EventLine.{write_behind, write_line, written_at}
pub use Rattle.image_file.specs.Fault.{IsMadeOf, first_fault, first_outside, first_pair, first_with, outside_or, pair_or, places_from, plan_of, slot_spans}
pub use Rattle.image_file.specs.Header.{ImageHeading, fits_images, heading_spans, image_heading_is_whole, image_line_taken, is_open, own_taken, size_line, size_taken, slot_begun, slot_end, slot_line, slot_taken, slots_begun, slots_of, with_last_slot}
pub use Rattle.image_file.specs.Input.{end_terms, image_format}
pub use Rattle.image_file.specs.Made.{IsEndOf, IsPlanOf, IsSlotOf}
pub use Rattle.image_file.specs.Places.{AreNumbered, Place, Plan, lie_inside, overlap}
pub use Rattle.image_file.specs.Tested.{Fit, IsApart, IsTested, is_placed, tested_by}
pub use Rattle.image_file.specs.declared.header.SlotHeader.{SlotHeader}
pub use Rattle.image_file.specs.declared.header.Stage.{Stage}
pub use Rattle.image_file.specs.declared.slot.Slot.{Slot}
pub use Rattle.schedule_file.proofs.Headed.{either, headed}
pub use Rattle.schedule_file.proofs.Sound.{Sound, after_sound, each, known, master_settings, new_sound, slave_settings}
pub use Rattle.schedule_file.specs.Field.{bytes_said, fields_of}
pub use Rattle.schedule_file.specs.Fields.{map_ok, next_field, no_field, number_16, one_hex_field, value_or}
pub use Rattle.schedule_file.specs.Header.{Heading, fields_taken, heading_after, heading_is_whole, heading_with, profile_given, profile_taken, title_taken}
pub use Rattle.schedule_file.specs.Input.{input_read}
pub use Rattle.schedule_file.specs.NodeHeader.{is_end_line, kind_after, may_end, node_heading_after}
pub use Rattle.schedule_file.specs.declared.line_cause.LineCause.{LineCause}
pub use Rattle.std.proofs.lemmas.Bool.Decides.{nat_tests}
pub use Rattle.std.proofs.lemmas.Grind.{common_steps}
pub use Rattle.std.proofs.lemmas.List.{length-append, take_all, take_more}
pub use Rattle.std.proofs.lemmas.List.Elements.{All-head, All-nil, All-push, All-tail}
pub use Rattle.std.proofs.lemmas.Slice.Zip.{AllZip-long, all_zipped_more}
pub use Rattle.std.specs.List.{AllZip, list_any}
pub use Rattle.std.specs.Prelude.{Err, IfOk, IsTrue, None, Ok, Option, Result, Some, codes, not}
pub use Rattle.std.specs.Str.{bytes_eq}
