-- The names that more than one file of these proofs cites, passed on from one place. Declares nothing.
pub use Rattle.end_model.specs.Chain.{fits_session, kept, newest_crc, own, own_link, seal, since, taken, taken_link}
pub use Rattle.end_model.specs.Deed.{Deed, delivered, is_empty, of_session}
pub use Rattle.end_model.specs.FreshIds.{DifferInFront, EndsByCrcs, NotByStep, id_front}
pub use Rattle.end_model.specs.Outputs.{out, out_after, outputs, zeros}
pub use Rattle.end_model.specs.Payloads.{conn_id, count_in, has_all, id_sent, joined, joined_with, nonce, pay, piece, session_id, uploaded, whole}
pub use Rattle.end_model.specs.Phases.{has_command, is_guarded_command, is_reset, phase_of, phase_of_frame, same_phase}
pub use Rattle.end_model.specs.Reactions.{AfterConnection, AfterSession, Ages, Answers, DropsInReset, DropsLength, DropsRepeat, DropsReset, Expires, Fails, HasNoSession, Holds, IsExchange, IsHandshake, IsInSession, IsNextPhase, IsReaction, IsRead, IsResetFrame, IsValid, MasterFirstData, MasterGoesOn, MasterMoreData, MasterNextPhase, MasterStarts, NotAllowed, OfConnection, OfParameter, OfSession, PeerResets, Puts, Reaction, Refuses, ResetsItself, Rests, SendsAgain, SetsNonce, SlaveFirstData, SlaveGoesOn, SlaveMoreData, SlaveNextPhase, SlaveRejoins, SlaveStarts, Taking, UnknownCommand, WrongConnection, WrongContents, WrongCrc, WrongReset, all_pieces, failed_with, parts, pieces_sent, received, with_answer}
pub use Rattle.end_model.specs.Readiness.{age, allowed, held, limit, master_allows, offer, offer_after, phase_after, phase_taken, slave_age, slave_allows, slave_limit, state_of, ticks, upload_is_whole}
pub use Rattle.end_model.specs.Runs.{IsProper, IsRun, IsSetting, events_of}
pub use Rattle.end_model.specs.Setup.{OfMaster, OfSlave, Setup, piece_len, receives, sends}
pub use Rattle.end_model.specs.Step.{after_phase, after_pieces, answer, begun, continued, deed_of, download_frame, id_piece, master_answer, on_expiry, on_fault, on_reset_frame, on_verdict, run, sealed_next, slave_answer, step, takes_frame, with_data, with_piece}
pub use Rattle.end_model.specs.Verdict.{Drop, Refused, Valid, Verdict, Wrong, contents, data_fault, has_conn, is_repeat, judged, judged_contents, judged_session, session_fault, slave_fault, slave_upload_fault, verdict}
pub use Rattle.fsoe_base.specs.Command.{code, command_byte, command_of}
pub use Rattle.fsoe_base.specs.Data.{is_data}
pub use Rattle.fsoe_base.specs.Did.{at_most_one, dropped, nothing}
pub use Rattle.fsoe_base.specs.Lengths.{frame_len, group_count, is_length}
pub use Rattle.fsoe_base.specs.declared.command.Code.{Code}
pub use Rattle.fsoe_base.specs.declared.command.Command.{Command}
pub use Rattle.fsoe_base.specs.declared.command.State.{State}
pub use Rattle.fsoe_base.specs.declared.did.Cause.{Cause}
pub use Rattle.fsoe_base.specs.declared.did.Did.{Did}
pub use Rattle.fsoe_base.specs.declared.did.Dropped.{Dropped}
pub use Rattle.fsoe_frame.proofs.Places.{frame_layout}
pub use Rattle.fsoe_frame.specs.Parts.{AreBytes, Frame, bytes_of, frame_of}
pub use Rattle.param_load.proofs.Watchdog.{first, joined_watchdog}
pub use Rattle.param_load.specs.AppRule.{rule_len}
pub use Rattle.param_load.specs.Contents.{contents_fault, fails, field_fault}
pub use Rattle.param_load.specs.Payload.{number_at, padded, session_payload}
pub use Rattle.param_load.specs.Profile.{id_len}
pub use Rattle.param_load.specs.declared.app_rule.AppRule.{AppRule}
pub use Rattle.param_load.specs.declared.entry.Move.{Move}
pub use Rattle.param_load.specs.declared.master_settings.MasterSettings.{MasterSettings}
pub use Rattle.param_load.specs.declared.profile.Profile.{Profile}
pub use Rattle.param_load.specs.declared.slave_settings.SlaveSettings.{SlaveSettings}
pub use Rattle.seq_chain.specs.Cover.{crc_0, crcs_from, first_of}
pub use Rattle.seq_chain.specs.FreshIds.{first_number, step_in_last}
pub use Rattle.seq_chain.specs.declared.link.Link.{Link}
pub use Rattle.std.proofs.lemmas.Bool.{eq-eqb, eqb-false, eqb-true, leb-false, leb-true, lt-ltb, ltb-false, ltb-true}
pub use Rattle.std.proofs.lemmas.Bool.Decides.{leb_tells, nat_tests}
pub use Rattle.std.proofs.lemmas.List.{get_or_append_left, length-append, length-replicate, length-take}
pub use Rattle.std.specs.Option.{option_or}
