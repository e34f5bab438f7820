-- The names that more than one file of these proofs cites, passed on from one place. Declares nothing.
pub use Rattle.black_channel.specs.Altered.{back_th}
pub use Rattle.end_model.proofs.ReadBack.{count_crcs, count_groups, halves, parts_made}
pub use Rattle.end_model.proofs.SealedFrames.{padded_len}
pub use Rattle.end_model.specs.Chain.{newest_crc, own, seal, since, taken}
pub use Rattle.end_model.specs.Deed.{Deed, is_empty}
pub use Rattle.end_model.specs.Payloads.{conn_id, conn_in, count_in, first_conn, id_sent, nonce, nonce_after, pay, piece, pieces, pieces_for, session_id}
pub use Rattle.end_model.specs.Phases.{command_in, has_command, is_data_frame, is_guarded_command, is_reset, phase_of, phase_of_frame, phase_of_known, same_phase}
pub use Rattle.end_model.specs.Readiness.{held, held_after, offer, offer_after, phase_sent, phase_taken}
pub use Rattle.end_model.specs.Setup.{OfMaster, OfSlave, Setup, end_of, first_nonce, sends}
pub use Rattle.end_model.specs.Step.{after_phase, answer, begun, did_on, download_frame, id_piece, master_answer, sealed_next, sent_on, slave_answer, step, with_data, with_piece}
pub use Rattle.end_model.specs.Verdict.{is_slave_conn, judged, judged_session}
pub use Rattle.exchange_model.proofs.Alone.Framed.{command_back, piece_fits, piece_frame, sealed_frame}
pub use Rattle.exchange_model.proofs.Alone.Pieces.{front, piece_in, piece_short, take_padded}
pub use Rattle.exchange_model.proofs.Alone.Uploads.{since_on}
pub use Rattle.exchange_model.proofs.Honest.Fronts.{IsBegun, all_come, front_begun, front_long, not_yet, padded_twice}
pub use Rattle.exchange_model.proofs.Honest.OnItsWay.{Chained, chained, groups_long, head_on}
pub use Rattle.exchange_model.proofs.Honest.QuietEvents.{AtIdle, IsQuiet, asking_entry, both_kept, comes_still, first_tick, quiet, quiet_enters, quiet_entry, quiet_hold, quiet_put}
pub use Rattle.exchange_model.proofs.Honest.ResetFrames.{is_reset_frame, zeros_all}
pub use Rattle.exchange_model.proofs.Honest.SlaveTurn.{Accepts, Carries, Replies, some_width}
pub use Rattle.exchange_model.proofs.Honest.StageSteps.{AtStage, ComesTo, Goes, Takes, asked_delivered, coming_back, down_delivered, replied_delivered, some_connection, up_delivered}
pub use Rattle.exchange_model.proofs.Honest.Stages.{Asked, Both, Down, IsAsked, IsDown, IsReplied, IsUp, Replied, Stage, Up, both}
pub use Rattle.exchange_model.proofs.Honest.Turns.{FirstConnection, FirstParameter, FirstValues, FirstZeros, MoreConnection, MoreParameter, MoreSession, Partner, Spot, Turn, as_partner, conn_after, connection_pieces, master_of, more, parameter_pieces, partner, session_long, session_pieces, slave_of, width}
pub use Rattle.exchange_model.proofs.Offering.Offered.{same_itself}
pub use Rattle.exchange_model.proofs.Worlds.Longer.{world_on}
pub use Rattle.exchange_model.specs.Ends.{peer, same_end}
pub use Rattle.exchange_model.specs.Worlds.{IsProperEvent, IsWorld}
pub use Rattle.exchange_model.specs.Serving.{HasNoReset, TakesDelivery, comes_new, is_coming, number_to}
pub use Rattle.exchange_model.specs.World.{deed_in, deeds, delivery, end_of_event, entry_at, entry_on, frames_of, going_on, next_entry, setup_of, world, world_after}
pub use Rattle.file_run.proofs.OnePart.{ends_one, takes_one}
pub use Rattle.file_run.specs.Ran.{EndsAs, EndsWhole, RanOver, ReportsReadLines}
pub use Rattle.file_run.specs.Reporting.{BeginsReport, CutsReport, ReportsSoFar, refused_at}
pub use Rattle.fsoe_base.specs.Bytes.{all_zero}
pub use Rattle.fsoe_base.specs.Command.{command_byte, command_of}
pub use Rattle.fsoe_base.specs.Data.{is_data}
pub use Rattle.fsoe_base.specs.Lengths.{frame_len, group_count, is_length}
pub use Rattle.fsoe_base.specs.LengthsOf.{length_of}
pub use Rattle.fsoe_base.specs.declared.command.Command.{Command}
pub use Rattle.fsoe_base.specs.declared.command.End.{End}
pub use Rattle.fsoe_base.specs.declared.command.State.{State}
pub use Rattle.fsoe_base.specs.declared.lengths.Lengths.{Lengths}
pub use Rattle.fsoe_frame.proofs.Places.{frame_at, frame_layout, whole}
pub use Rattle.fsoe_frame.specs.Layout.{groups}
pub use Rattle.fsoe_frame.specs.Parts.{AreBytes, Frame, bytes_of, frame_of}
pub use Rattle.fsoe_io.specs.declared.status.Ended.{Ended}
pub use Rattle.param_load.specs.Payload.{connection_payload, is_padded, number_at, padded, parameter_payload, session_payload}
pub use Rattle.param_load.specs.Profile.{allows_id, id_len}
pub use Rattle.param_load.specs.declared.entry.Entry.{Entry}
pub use Rattle.param_load.specs.declared.entry.Move.{Move}
pub use Rattle.param_load.specs.declared.master_settings.MasterSettings.{MasterSettings}
pub use Rattle.param_load.specs.declared.profile.Profile.{Profile}
pub use Rattle.param_load.specs.declared.slave_settings.SlaveSettings.{SlaveSettings}
pub use Rattle.schedule_file.specs.Input.{AtEnd, InputCause, Refused, Stop, WholeHeaderOf, before_more, header_in, header_read, header_step, input_by, input_read, lines_of, steps, with_room}
pub use Rattle.schedule_file.specs.declared.event.Event.{Event}
pub use Rattle.seq_chain.specs.Chain.{after_sent, after_taken, fresh, sealed_by, turned}
pub use Rattle.seq_chain.specs.Reset.{reset_crcs, reset_frame, reset_load}
pub use Rattle.seq_chain.specs.declared.chain.Chain.{Chain}
pub use Rattle.std.proofs.lemmas.Bool.{cases_eq, cases_lt, eq-eqb, eqb-true, le-leb, le-ltb, leb-true, lt-ltb, ltb-true, ne_eqb}
pub use Rattle.std.proofs.lemmas.Bool.Decides.{nat_tests}
pub use Rattle.std.proofs.lemmas.Grind.{common_steps}
pub use Rattle.std.proofs.lemmas.List.{append-nil, append_assoc, append_cancel_left, ext_get_or, get_or-append-add, get_or-drop, get_or-take, get_or_append_left, get_or_past, length-append, length-drop, length-replicate, length-reverse, length-take, reverse-append, take_all}
pub use Rattle.std.proofs.lemmas.Option.{same_Some}
pub use Rattle.std.proofs.lemmas.List.Elements.{All-append, All-cons, All-head, All-nil, All-tail}
pub use Rattle.std.specs.List.{list_all}
pub use Rattle.std.specs.Option.{option_or}
pub use Rattle.trace_diag.specs.Before.{Before, before, chain_at, chain_of, chain_with, phase_following, newest_load, newest_piece, phase_due, phase_from, piece_asked, piece_place}
pub use Rattle.trace_diag.specs.Conforms.{Conforms, ConformsThroughout, has_length, sent_in}
pub use Rattle.trace_diag.specs.Judged.{AreOfBytes, DiagnosisStands, KnowsUnless, NotesFrame, TraceStands, TraceView, first_difference, first_of_both, judge_reporting}
pub use Rattle.trace_diag.specs.Kept.{chain_after, conn_with, connection_with, due_made, kept_from, parameters_with, phase_when, piece_of, place_when}
pub use Rattle.trace_diag.specs.Lines.{TraceHeading, frame_said, trace_heading_new, lengths_taken, line_taken, trace_format, trace_heading_after, trace_is_whole, trace_line, trace_said}
pub use Rattle.trace_diag.specs.Schedule.{answer_events, events_before, read_schedule, set_for}
pub use Rattle.trace_diag.specs.Settings.{AreReadOff, byte_or, connection_from, parameters_from, read_address, read_app, read_app_len, read_conn, read_id, read_watchdog, settings_by, settings_told, word_or}
pub use Rattle.trace_diag.specs.Table.{conn_holds, connection_holds, crcs_due, field_by, field_of, first_differing, first_failing, frame_field, id_holds, is_of, parameter_holds, payload_holds, piece_holds, wrong_byte, wrong_in_data, wrong_in_echo, wrong_in_piece}
pub use Rattle.trace_diag.specs.Trace.{Noted, carried, frames_from, payload_from, trace_piece_len, turn}
pub use Rattle.trace_diag.specs.Verdicts.{DiffersFirst, IsConforming, IsVerdict}
pub use Rattle.trace_diag.specs.declared.difference.Difference.{Difference}
pub use Rattle.trace_diag.specs.declared.field.Field.{Field}
