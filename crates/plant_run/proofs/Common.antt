-- The names that more than one file of these proofs cites, passed on from one place. Declares nothing.
pub use Rattle.black_channel.specs.Told.{ChannelTold}
pub use Rattle.black_channel.specs.declared.channel.Parcel.{Parcel}
pub use Rattle.fb_net.specs.declared.kind_of.EntryOf.{EntryOf}
pub use Rattle.fb_net.specs.declared.kind_of.KindOf.{KindOf}
pub use Rattle.file_run.specs.Machine.{EndsReport, EndsStopped, IsSaid}
pub use Rattle.file_run.specs.Ran.{EndsWhole, RanOver}
pub use Rattle.file_run.specs.Report.{ended_with, other_line}
pub use Rattle.file_run.specs.Reporting.{IsPrefix, Reporting, ReportsSoFar, input_stopped}
pub use Rattle.fsoe_base.specs.declared.lengths.Lengths.{Lengths}
pub use Rattle.fsoe_io.specs.declared.status.Ended.{Ended}
pub use Rattle.multi_master.specs.Calls.{AppView}
pub use Rattle.plant_conf.specs.declared.conf.BoundSpec.{BoundSpec}
pub use Rattle.plant_conf.specs.declared.conf.LinkConf.{LinkConf}
pub use Rattle.plant_core.proofs.Acting.{same_count, trace_append}
pub use Rattle.plant_core.proofs.Made.{lengths_made, made_count}
pub use Rattle.plant_core.specs.Making.{is_named, links_made}
pub use Rattle.plant_core.specs.Standing.{Follows, IsAged, PlantStands, PlantView, Plays, ShowsOn, ShowsPair, Starts, TellsOther, TellsStill, fixed_in, lengths_kept, seen}
pub use Rattle.plant_model.proofs.Lines.{line_said, no_lines_by, no_lines_pulled}
pub use Rattle.plant_model.specs.Acts.{Act, App, Beginning, Happen, PullFrom, Said, Start, journal, line_step, offers, uses}
pub use Rattle.plant_model.specs.BoundLines.{bound_line, bound_lines, heard, heard_before, heard_of, is_driven, is_ticking, limit_of, line_by}
pub use Rattle.plant_model.specs.Fits.{Fits, lengths_at, lengths_in}
pub use Rattle.plant_model.specs.JournalLaws.{line_steps}
pub use Rattle.plant_model.specs.Pair.{has_other, is_tick_step, link_at, lowest_other, end_outputs, pair, pulls_after, state_at, journal_ticks}
pub use Rattle.plant_model.specs.Past.{IsPast, Named, Taken, passed, said, said_in, said_with, take_app, with_line}
pub use Rattle.plant_model.specs.PlantReport.{in_tick, is_line, plant_last_lines, lines_due, lines_from, link_line, link_lines, report_end, report_text, plant_tick_lines, ticks_text}
pub use Rattle.plant_model.specs.declared.event.PlantLine.{PlantLine}
pub use Rattle.plant_model.specs.declared.journal.JournalStep.{JournalStep}
pub use Rattle.plant_run.specs.Given.{named}
pub use Rattle.plant_run.specs.Ran.{IsReportOf, RanPlant}
pub use Rattle.plant_run.specs.Reporting.{PlantReports, Terms, plant_reporting, script_stop}
pub use Rattle.plant_run.specs.Running.{AreAged, HasRoom, HearsOne, LineFits, RunCloses, RunStands, RunView, ShowsBound, lines_by, rest_in, watched_after, watched_by, watching}
pub use Rattle.plant_run.specs.Script.{Script, ScriptHeading, happening, script_format}
pub use Rattle.plant_run.specs.declared.watching.Watched.{Watched}
pub use Rattle.plant_setup.specs.Names.{IsTaken, name_place}
pub use Rattle.reaction_bound.specs.Kept.{Hears, ReactionView, view_of}
pub use Rattle.reaction_bound.specs.Reaction.{Quiet, Tick, broken_of}
pub use Rattle.schedule_file.specs.Field.{bytes_said, fields_of}
pub use Rattle.schedule_file.specs.Fields.{next_field, no_field, number_16, one_field, value_or}
pub use Rattle.std.proofs.lemmas.Bool.{eq-eqb, eqb-true}
pub use Rattle.std.proofs.lemmas.Grind.{common_steps}
pub use Rattle.std.proofs.lemmas.List.{append-nil, length-map, length_push, take_all}
pub use Rattle.std.proofs.lemmas.List.Elements.{All-map}
pub use Rattle.std.proofs.lemmas.Option.{slice_get-get_or, slice_get_read, slice_get_within}
pub use Rattle.std.proofs.lemmas.Result.{IfOk-at_ok, err_from_is_err_and}
pub use Rattle.std.specs.List.{position_from, remove}
pub use Rattle.std.specs.Prelude.{IfOk, IfSome, IsSome, IsSomeAnd, None, Ok, Option, Some, codes, decimal, option_map, string_bytes}
