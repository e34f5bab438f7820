-- The names that more than one file of these proofs cites, passed on from one place. Declares nothing.
pub use Rattle.end_model.proofs.Repeats.{repeat_dropped}
pub use Rattle.end_model.proofs.Heads.{IsInSession}
pub use Rattle.end_model.proofs.Reactions.{phase_of_data}
pub use Rattle.end_model.proofs.ReadBack.{count_crcs, count_groups, halves, parts_made, read_back}
pub use Rattle.end_model.proofs.SealedFrames.{offer_len, padded_len}
pub use Rattle.end_model.proofs.Shown.{fail_safe, looking_back}
pub use Rattle.end_model.proofs.SoundRuns.{answer_sent, handshake-data, next-data, reacted}
pub use Rattle.end_model.proofs.Taken.{answer_is, data_after, exchange_of}
pub use Rattle.end_model.specs.Chain.{fits_session, kept, newest_crc, own, own_link, seal, since, taken, taken_link}
pub use Rattle.end_model.specs.Deed.{Deed, delivered, is_empty, ticked}
pub use Rattle.end_model.specs.Entries.{entry_of}
pub use Rattle.end_model.specs.Neighbours.{IsOtherThanNewest, NeighboursDiffer}
pub use Rattle.end_model.specs.Outputs.{shown_after, out, out_after, outputs, zeros}
pub use Rattle.end_model.specs.Payloads.{conn_id, count_in, first_conn, id_sent, joined, nonce, pay, piece, pieces, pieces_for, session_id, terms, terms_in, uploaded, whole}
pub use Rattle.end_model.specs.Phases.{command_in, has_command, is_data_frame, is_data_if, is_guarded_command, is_reset, phase_of, phase_of_frame, phase_of_known, same_phase}
pub use Rattle.end_model.specs.Reactions.{AfterConnection, AfterSession, Answers, Expires, IsReaction, IsRead, IsResetFrame, IsValid, MasterFirstData, MasterGoesOn, MasterMoreData, MasterNextPhase, MasterStarts, OfConnection, OfParameter, OfSession, PeerResets, Reaction, Refuses, ResetsItself, SendsAgain, SlaveFirstData, SlaveGoesOn, SlaveMoreData, SlaveNextPhase, Taking, parts, received, with_answer}
pub use Rattle.end_model.specs.Readiness.{held, master_allows, offer, phase_sent, phase_taken, reaches_limit, slave_allows, state_of, ticks, told_in, told_terms, upload_is_whole}
pub use Rattle.end_model.specs.Runs.{IsNext, IsProper, IsRun, entries}
pub use Rattle.end_model.specs.Setup.{OfMaster, OfSlave, Setup, piece_len, receives, sends}
pub use Rattle.end_model.specs.Step.{after_phase, answer, begun, deed_of, did_on, download_frame, id_piece, on_verdict, run, sealed_next, slave_answer, step, takes_frame, with_data, with_piece}
pub use Rattle.end_model.specs.Verdict.{Valid, Verdict, contents, has_conn, judged, verdict}
pub use Rattle.exchange_model.specs.Ends.{of_end, peer, same_end}
pub use Rattle.exchange_model.specs.Fair.{Fair, IsFromItem, IsTakenFrom, OutputsAreDue, TakesAwaited, data_taken, frame_if, frame_with, in_time, numbers_taken, offers_bit, outputs_after, outputs_at, outputs_by, outputs_due, received_len, with_number}
pub use Rattle.exchange_model.specs.Honest.{IsHonest, IsSteady, Match, exchanges, had_tick, if_on, in_turn, is_plain, is_tick, keeps_time, may_happen, may_tick, slave_first, ticks_first}
pub use Rattle.exchange_model.specs.Items.{Item, Offered, answer_among, answers_to, awaited, has_bytes, is_held, item_of, item_taken, items, items_of, last_put, newest, newest_answer, next_offered, number_if, offered_of, offered_put}
pub use Rattle.exchange_model.specs.ListMonitor.{ListView, ListsEntry, answer_in, is_answer_to, last_answer, last_sent, list_after, list_of, listed, listed_next, listing, lists_after, looked_up}
pub use Rattle.exchange_model.specs.Monitor.{HasParts, MonitorView, NotesEntry, NotesParts, Side, is_answer, is_other_to, kept_of, next_number, next_sent, noted_next, number_taken, own_after, peer_after, sent_number, sent_of, side_of, view_of}
pub use Rattle.exchange_model.specs.Offering.{WasOffered, ticks_of}
pub use Rattle.exchange_model.specs.Other.{NoOther, before_other, first_of_both, first_other, is_other, item_number}
pub use Rattle.exchange_model.specs.Schedules.{moves}
pub use Rattle.exchange_model.specs.Worlds.{IsNextEntry, IsProperEvent, IsWorld}
pub use Rattle.exchange_model.specs.Serving.{HasNoReset, InDataAfter, InDataThroughout, IsAnswered, IsDropped, Serves, ServesSteadily, TakesDataAfter, TakesDataThroughout, TakesDelivery, TakesOnce, TakesOnceThroughout, comes, comes_new, is_coming, is_delivery, number_to, state_told}
pub use Rattle.exchange_model.specs.World.{SameLengths, deed_in, deeds, delivery, end_of_event, entry_at, entry_on, frames_of, going_on, move_from, setup_of, world, world_after}
pub use Rattle.exchange_model.specs.declared.side.Sent.{Sent}
pub use Rattle.fsoe_base.specs.Bytes.{all_zero}
pub use Rattle.fsoe_base.specs.Command.{code, command_byte, command_of}
pub use Rattle.fsoe_base.specs.Data.{is_data}
pub use Rattle.fsoe_base.specs.Image.{bit_of}
pub use Rattle.fsoe_base.specs.Lengths.{frame_len, is_length}
pub use Rattle.fsoe_base.specs.declared.command.Code.{Code}
pub use Rattle.fsoe_base.specs.declared.command.Command.{Command}
pub use Rattle.fsoe_base.specs.declared.command.End.{End}
pub use Rattle.fsoe_base.specs.declared.command.State.{State}
pub use Rattle.fsoe_base.specs.declared.did.Did.{Did}
pub use Rattle.fsoe_base.specs.declared.did.Took.{Took}
pub use Rattle.fsoe_frame.specs.Layout.{groups, with_crcs}
pub use Rattle.fsoe_frame.specs.Parts.{Frame, bytes_of, frame_of, one_byte, pairs}
pub use Rattle.param_load.specs.AppRule.{allows, is_acceptable, rule_len}
pub use Rattle.param_load.specs.Contents.{contents_fault, expected_len, fails, padding_fault, word_is}
pub use Rattle.param_load.specs.Download.{terms_of}
pub use Rattle.param_load.specs.Payload.{connection_payload, is_echo, is_padded, number_at, padded, parameter_payload, session_payload}
pub use Rattle.param_load.specs.Profile.{allows_id, id_len}
pub use Rattle.param_load.specs.declared.app_rule.AppRule.{AppRule}
pub use Rattle.param_load.specs.declared.entry.Entry.{Entry}
pub use Rattle.param_load.specs.declared.entry.Move.{Move}
pub use Rattle.param_load.specs.declared.master_settings.MasterSettings.{MasterSettings}
pub use Rattle.param_load.specs.declared.profile.Profile.{Profile}
pub use Rattle.param_load.specs.declared.slave_settings.SlaveSettings.{SlaveSettings}
pub use Rattle.param_load.specs.declared.terms.Terms.{Terms}
pub use Rattle.schedule_file.specs.declared.event.Event.{Event}
pub use Rattle.seq_chain.specs.Reset.{reset_crcs, reset_frame}
pub use Rattle.std.proofs.Math.Nat.{mul-le-mul_left}
pub use Rattle.std.proofs.Math.Seq.{drop-append-add, take-add, take-append-add, take-append_seam}
pub use Rattle.std.proofs.lemmas.Bool.{and_parts, eq-eqb, eqb-true, le-leb, leb-true, lt-ltb, ltb-false, ltb-true}
pub use Rattle.std.proofs.lemmas.Grind.{common_steps}
pub use Rattle.std.proofs.lemmas.List.{drop-replicate, drop_all, length-append, length-replicate, length-take, replicate-append-replicate, take-replicate, take_all, take_more}
pub use Rattle.std.proofs.lemmas.List.Elements.{All-cons, All-head, All-nil, All-tail}
pub use Rattle.std.specs.Cmp.Lexicographic.{bytes_decides}
pub use Rattle.std.specs.List.{AllByRecursion, list_all}
pub use Rattle.std.specs.Option.{option_or}
