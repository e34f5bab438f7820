-- The names that more than one file of these proofs cites, passed on from one place. Declares nothing.
pub use Rattle.end_model.proofs.Common.{AreBytes, Cause, Code, Command, Deed, Did, Dropped, Frame, IsProper, IsRun, IsSetting, MasterSettings, Move, OfMaster, Setup, State, Valid, Wrong, age, begun, bytes_of, code, command_byte, contents, deed_of, dropped, events_of, first_of, frame_len, frame_of, held, is_empty, is_repeat, is_reset, judged_contents, kept, length-replicate, master_allows, newest_crc, nonce, nothing, offer, on_expiry, on_fault, on_reset_frame, on_verdict, option_or, out, outputs, own_link, padded, pay, piece_len, receives, run, seal, sends, session_payload, since, state_of, step, taken, takes_frame, ticks, with_data}
pub use Rattle.end_model.proofs.GoesOn.{ap₃, chain_after, chain_at, filled, is_there, keeps, later, meets, one_more, piece_own, taking, there}
pub use Rattle.end_model.proofs.Links.{own_crc, taken_crc}
pub use Rattle.end_model.proofs.ReadBack.{read_back}
pub use Rattle.end_model.proofs.Runs.{deed, run_of_events, same_deed, set_deed}
pub use Rattle.end_model.specs.Outputs.{is_process}
pub use Rattle.end_model.specs.Payloads.{pieces, terms}
pub use Rattle.end_model.specs.Readiness.{told_in, told_terms}
pub use Rattle.end_model.specs.Step.{did_on}
pub use Rattle.end_model.specs.Verdict.{unless}
pub use Rattle.failsafe_io.specs.Offer.{OfferView, data_command, data_load}
pub use Rattle.fsoe_base.specs.Did.{takes as accepts, resets, takes}
pub use Rattle.master_core.specs.Calls.{Accept, Call, Called, Event, MadeAccept, MadeEvent, MadeReply, MadeSetting, Pending, Reply, Setting, deeds_of, delivery_after, left_by, pending, with_reply}
pub use Rattle.master_core.specs.Due.{tells_due}
pub use Rattle.master_core.specs.Kit.{KitView, connection_download, parameter_download}
pub use Rattle.master_core.specs.Master.{Accepted, Outcome, accepted, accepted_by, accepted_of, after, answered_by, at_limit, begins, drops, ends, first_master, makes_due, on_reset_view, on_session, refuses, replies, settles, tick_of}
pub use Rattle.master_core.specs.MasterView.{MasterView}
pub use Rattle.master_core.specs.Now.{Now, at_rest, is_due, replied, reply}
pub use Rattle.master_core.specs.Phase.{fault, kept_in, next_phase}
pub use Rattle.master_core.specs.Standing.{Answers, Follows, MasterIsAfter, Shows}
pub use Rattle.master_core.specs.States.{answered, data_answered, first_data, next_by, no_session, with_download}
pub use Rattle.master_core.specs.ViewOf.{Notes, exchange_of, kit_of, notes_of, phase_in, session_of, view_in, view_of}
pub use Rattle.master_core.specs.Waiting.{Accepts, Delivery, Keeps, Replies, ShowsDue, Waits, its_deed, with_delivery}
pub use Rattle.master_core.specs.declared.phase.Phase.{Phase}
pub use Rattle.master_core.specs.declared.states.Exchange.{Exchange}
pub use Rattle.param_load.specs.Download.{advanced, is_answer, is_whole, terms_of}
pub use Rattle.param_load.specs.Payload.{is_padded, piece_from}
pub use Rattle.param_load.specs.declared.terms.Terms.{Terms}
pub use Rattle.seq_chain.specs.Chain.{after_taken, fresh}
pub use Rattle.seq_chain.specs.Opened.{opened}
pub use Rattle.seq_chain.specs.Session.{chain_sent, frame_sent}
pub use Rattle.seq_chain.specs.SessionFrame.{SessionFrameView}
pub use Rattle.seq_chain.specs.declared.chain.Chain.{Chain}
pub use Rattle.seq_chain.specs.declared.opened.Opened.{Opened}
