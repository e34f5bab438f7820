-- The names that more than one file of these proofs cites, passed on from one place. Declares nothing.
pub use Rattle.end_model.proofs.Common.{AreBytes, Code, Command, Deed, Did, Dropped, Frame, IsProper, IsRun, IsSetting, Move, OfSlave, SlaveSettings, State, age, allowed, begun, bytes_of, code, command_byte, command_of, conn_id, contents, count_in, deed_of, dropped, events_of, first_of, fits_session, frame_len, frame_of, has_command, held, id_len, id_piece, is_reset, judged_contents, kept, length-replicate, limit, nonce, nothing, number_at, offer, on_expiry, on_fault, on_reset_frame, on_verdict, option_or, out, outputs, padded, phase_of, phase_of_frame, piece_len, rule_len, run, same_phase, session_payload, since, slave_age, slave_allows, slave_limit, state_of, step, takes_frame, ticks, uploaded, whole, with_data}
pub use Rattle.end_model.proofs.GoesOn.{ap₃, chain_after, filled, is_there, keeps, later, meets, one_more, piece_own, taking, there}
pub use Rattle.end_model.proofs.Links.{own_crc}
pub use Rattle.end_model.proofs.Shown.{fail_safe, looking_back, slave-run}
pub use Rattle.end_model.proofs.SlaveShown.{parameters}
pub use Rattle.end_model.proofs.WholeUploads.{whole_parameters}
pub use Rattle.end_model.specs.Outputs.{is_process}
pub use Rattle.end_model.specs.Payloads.{slave_conn, terms, terms_in}
pub use Rattle.end_model.specs.Readiness.{told_in, told_terms}
pub use Rattle.end_model.specs.Step.{code_sent, did_on}
pub use Rattle.fsoe_base.specs.Did.{resets}
pub use Rattle.param_load.specs.Payload.{piece_from}
pub use Rattle.param_load.specs.Upload.{advanced, is_whole, outcome_by}
pub use Rattle.param_load.specs.UploadView.{UploadView, upload_fault}
pub use Rattle.param_load.specs.declared.terms.Terms.{Terms}
pub use Rattle.seq_chain.specs.Chain.{after_taken, fresh}
pub use Rattle.seq_chain.specs.Session.{chain_sent, fits_next, frame_sent}
pub use Rattle.seq_chain.specs.SessionFrame.{SessionFrameView}
pub use Rattle.seq_chain.specs.declared.chain.Chain.{Chain}
pub use Rattle.slave_core.specs.Kit.{KitView}
pub use Rattle.slave_core.specs.Phase.{limit_of}
pub use Rattle.slave_core.specs.Slave.{Outcome, after, drops, fallen, falls, first_slave, on_frame, on_opened, on_session, quiet, refuses, reset_by_peer, settles, taken, tick_in_session, tick_of}
pub use Rattle.slave_core.specs.SlaveView.{IsSoundSlave, SlaveView}
pub use Rattle.slave_core.specs.States.{answered, connection_taking, no_session, or_reset, parameter_taking, running, session_taking}
pub use Rattle.slave_core.specs.Taken.{entered, next_in, next_state, reply, reply_in}
pub use Rattle.slave_core.specs.ViewOf.{Notes, kit_of, notes_of, phase_in, session_of, upload_of, view_in, view_of}
pub use Rattle.slave_core.specs.declared.phase.Phase.{Phase}
pub use Rattle.slave_core.specs.declared.states.InConnection.{InConnection}
pub use Rattle.slave_core.specs.declared.states.InData.{InData}
pub use Rattle.slave_core.specs.declared.states.InParameter.{InParameter}
pub use Rattle.slave_core.specs.declared.states.InReset.{InReset}
pub use Rattle.slave_core.specs.declared.states.InSession.{InSession}
