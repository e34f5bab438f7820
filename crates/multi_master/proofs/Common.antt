-- The names that more than one file of these proofs cites, passed on from one place. Declares nothing.
pub use Rattle.end_model.proofs.Runs.{deed, run_append, same_deed}
pub use Rattle.end_model.specs.Deed.{Deed}
pub use Rattle.end_model.specs.Outputs.{out, outputs, shown_after, zeros}
pub use Rattle.end_model.specs.Runs.{IsRun, events_of}
pub use Rattle.end_model.specs.Setup.{Setup}
pub use Rattle.end_model.specs.Step.{run, step}
pub use Rattle.failsafe_io.specs.Application.{Answer, GuardsBy}
pub use Rattle.fsoe_base.specs.declared.did.Cause.{Cause}
pub use Rattle.fsoe_base.specs.declared.did.Did.{Did}
pub use Rattle.master_core.specs.Due.{tells_due}
pub use Rattle.master_core.specs.MasterView.{MasterView}
pub use Rattle.master_core.specs.Waiting.{Accepts, Delivery, Replies, ShowsDue, Waits}
pub use Rattle.multi_master.specs.Calls.{AppView, Call, ChangeApp, Deliver, Hold, IsSound, Meant, Nonce, Reset, Tick, after, all_tick, app_answer, changed_by, changed_from, numbered_connection, cycle_in, moved_at, event_on, meant, with_cycle}
pub use Rattle.multi_master.specs.Connection.{Connection, new_connection, is_offer, next_deed, offer_at, offer_len, connection_outputs, setup, with_event, with_offer, with_offers}
pub use Rattle.multi_master.specs.Puts.{AddsOne, AreNew, MayBePut, MayBeRead, PutsAnswer, PutsEach, RunsBy, RunsCycle, TicksEach, TicksOne}
pub use Rattle.multi_master.specs.Standing.{AddsNew, AnswersFrame, AnswersReset, AnswersTick, AreNumbers, Follows, IsMulti, IsNumber, IsWhere, MultiView, ShowsAt, StandsFor, due_in, newest_at, numbers_of, own_len, settings_in}
pub use Rattle.param_load.specs.declared.entry.Move.{Move}
pub use Rattle.param_load.specs.declared.master_settings.MasterSettings.{MasterSettings}
pub use Rattle.std.proofs.lemmas.Grind.{common_steps}
pub use Rattle.std.proofs.lemmas.List.{append-nil, length-map, map-append, map-set, set-set, take_more, take_more_set}
pub use Rattle.std.proofs.lemmas.List.Elements.{All-append, All-get_or, All-head, All-nil, All-push, All-tail, All-weaker}
pub use Rattle.std.proofs.lemmas.Option.{get_or_from_slice_get, slice_get-get_or, slice_get_read, slice_get_within}
pub use Rattle.std.specs.List.{AllZip}
