-- The names that more than one file of these proofs cites, passed on from one place. Declares nothing.
pub use Rattle.black_channel.specs.Altered.{altered, back_th}
pub use Rattle.black_channel.specs.Window.{Pushes, WindowView, window_of}
pub use Rattle.duo_run.specs.Acts.{Comes, Hears, move_at}
pub use Rattle.duo_run.specs.Bulk.{bulk_entries, number_line, report_of, summary_lines}
pub use Rattle.duo_run.specs.Duo.{Advances, CountsEntry, DuoStands, DuoView, IsDuo, Misses, NextEntry, ReplayStands, ShowsLast, Steps, lengths_of, profiles_of, sent_by, steps_done}
pub use Rattle.duo_run.specs.Pairs.{Pair, done_after, entries_over, entry_after, events_by, events_done, events_to, is_met, is_met_by, least, less_of, other_event, other_events, world_of}
pub use Rattle.duo_run.specs.PairsReport.{ArePairs, IsPairOf, PairsInput, PairsReports, PairsRunFairly, RanPairs, closing_line, closing_lines, each_line, event_lines, line_if, lines_of_events, one_line, pairs_ended, pairs_last_lines, pairs_reporting, pairs_stop, tick_lines, with_tick}
pub use Rattle.duo_run.specs.PairsStanding.{AllStandOver, CanStep, NotesOthers, PairsStand, StandsOver, TellsNext, Ticks, ToldNext}
pub use Rattle.duo_run.specs.Replay.{AreEntries, AreSetTo, RanPair, ReplayReports, RunsFairly, ServesIfHonest, ServesIfSteady, WithSettings, pair_ended_at, entry_line, entry_lines, last_lines, replay_reporting, run_stop, told_line}
pub use Rattle.duo_run.specs.Summary.{summary_of}
pub use Rattle.duo_run.specs.declared.summary.Summary.{Summary}
pub use Rattle.end_model.specs.Deed.{Deed, is_empty}
pub use Rattle.end_model.specs.Runs.{IsProper, IsRun}
pub use Rattle.end_model.specs.Setup.{OfMaster, OfSlave, Setup}
pub use Rattle.end_model.specs.Step.{step}
pub use Rattle.exchange_model.proofs.Fairness.Headline.{fair_before, fair_world}
pub use Rattle.exchange_model.proofs.Honest.ServingRuns.{honest_fair, honest_serves, steady_fair, steady_serves}
pub use Rattle.exchange_model.proofs.Worlds.Longer.{world_missed, world_next, world_on}
pub use Rattle.exchange_model.proofs.Worlds.Others.{before_is_clean, before_is_world, number_of_first}
pub use Rattle.exchange_model.specs.Ends.{peer}
pub use Rattle.exchange_model.specs.Fair.{Fair, data_taken}
pub use Rattle.exchange_model.specs.Honest.{IsHonest, if_on, in_turn, is_plain, keeps_time, slave_first}
pub use Rattle.exchange_model.specs.Monitor.{NotesParts}
pub use Rattle.exchange_model.specs.Other.{before_other, first_of_both, first_other}
pub use Rattle.exchange_model.specs.Worlds.{IsNextEntry, IsProperEvent, IsWorld}
pub use Rattle.exchange_model.specs.Serving.{HasNoReset, Serves, ServesSteadily, TakesDelivery}
pub use Rattle.exchange_model.specs.World.{SameLengths, altered_delivery, deed_in, deeds, delivery, end_of_event, entry_at, entry_on, frames_of, going_on, move_from, next_entry, setup_of, world, world_after}
pub use Rattle.file_run.specs.ByTitle.{ByTitle, IsTitled}
pub use Rattle.file_run.specs.Ending.{Writes}
pub use Rattle.file_run.specs.Machine.{EndsReport, EndsUnmet, MayCome, TakesEvent}
pub use Rattle.file_run.specs.Outside.{Outside, Told}
pub use Rattle.file_run.specs.Ran.{EndsWhole, RanOver}
pub use Rattle.file_run.specs.Report.{ended_with, events_line, other_line, refused_line}
pub use Rattle.file_run.specs.Reporting.{IsPrefix, ReportsSoFar, input_stopped}
pub use Rattle.file_run.specs.Waiting.{WaitingText}
pub use Rattle.fsoe_base.specs.LengthsOf.{length_of}
pub use Rattle.fsoe_base.specs.declared.command.End.{End}
pub use Rattle.fsoe_base.specs.declared.command.State.{State}
pub use Rattle.fsoe_base.specs.declared.did.Did.{Did}
pub use Rattle.fsoe_io.specs.declared.status.Ended.{Ended}
pub use Rattle.master_core.specs.Standing.{MasterIsAfter}
pub use Rattle.param_load.specs.declared.entry.Entry.{Entry}
pub use Rattle.param_load.specs.declared.entry.Move.{Move}
pub use Rattle.param_load.specs.declared.master_settings.MasterSettings.{MasterSettings}
pub use Rattle.param_load.specs.declared.profile.Profile.{Profile}
pub use Rattle.param_load.specs.declared.slave_settings.SlaveSettings.{SlaveSettings}
pub use Rattle.param_load.specs.declared.terms.Terms.{Terms}
pub use Rattle.schedule_file.proofs.Fitting.{events_fit, pair_event_fits}
pub use Rattle.schedule_file.proofs.OneSetting.{one_master, one_slave}
pub use Rattle.schedule_file.proofs.PairsFitting.{pairs_event_fits, pairs_events_fit}
pub use Rattle.schedule_file.proofs.Sound.{Sound, after_sound, each, gives_master, gives_slave, known, master_settings, new_sound, slave_settings}
pub use Rattle.schedule_file.specs.Event.{Fits, IsWritable, made_profiles, profile_of}
pub use Rattle.schedule_file.specs.Field.{fields_of}
pub use Rattle.schedule_file.specs.Header.{Heading, IsMasterOf, IsSlaveOf, heading_after}
pub use Rattle.schedule_file.specs.Input.{AtEnd, Input, NoFrame, Refused, Stop, heading_profile, input_of, own_length, schedule_format}
pub use Rattle.schedule_file.specs.Made.{event_at, event_by, event_in_turn, is_switch_on, load_of, made, made_lengths, made_master, made_slave, mask_of, altered_place, word_after}
pub use Rattle.schedule_file.specs.NodeHeader.{may_end}
pub use Rattle.schedule_file.specs.PairsEvent.{numbered}
pub use Rattle.schedule_file.specs.PairsFit.{FitsPair, PairsLineFits, line_of_event}
pub use Rattle.schedule_file.specs.PairsHeader.{PairsHeading, is_done, last_taken, next_pair, pair_begun, pair_taken, pairs_begun, pairs_heading_is_whole, pairs_line_taken, pairs_of}
pub use Rattle.schedule_file.specs.PairsInput.{entries_by, pairs_format, pairs_input}
pub use Rattle.schedule_file.specs.declared.event.Event.{Event}
pub use Rattle.schedule_file.specs.declared.line_cause.LineCause.{LineCause}
pub use Rattle.schedule_file.specs.declared.pairs_header.PairsStage.{PairsStage}
pub use Rattle.schedule_file.specs.declared.pairs_line.PairsEvent.{PairsEvent}
pub use Rattle.slave_core.specs.Standing.{SlaveIsAfter}
pub use Rattle.std.proofs.lemmas.Bool.{eqb-false, eqb-true}
pub use Rattle.std.proofs.lemmas.Grind.{common_steps}
pub use Rattle.std.proofs.lemmas.List.{append-nil, length-append, length-map, length-set, length-take-le, length_push, take_all, take_at}
pub use Rattle.std.proofs.lemmas.List.Elements.{All-append, All-cons, All-head, All-nil, All-push, All-tail}
pub use Rattle.std.proofs.lemmas.Option.{IfSome_then, MatchOption-at_some, same_Some, slice_get-get_or, slice_get_read, slice_get_within}
pub use Rattle.std.proofs.lemmas.Slice.Zip.{AllZip-left, AllZip-long, AllZip-right, all_zipped_more}
pub use Rattle.std.specs.List.{AllZip, list_all}
pub use Rattle.std.specs.Prelude.{Err, IfOk, IfSome, IsOk, IsSomeAnd, None, Ok, OnErr, OnOk, Result, Some, codes, decimal, is_some, nat_le, slice_get}
pub use Rattle.std.specs.Str.{bytes_eq}
pub use Rattle.std.specs.declared.option.Option.{Option}
