-- The names that more than one file of these proofs cites, passed on from one place. Declares nothing.
pub use Rattle.end_model.specs.Deed.{Deed, delivered, is_empty, ticked}
pub use Rattle.exchange_model.proofs.Joint.Taking.{NoneOther, none_other}
pub use Rattle.exchange_model.proofs.Worlds.Projection.{deeds_are_run, entry_reacted, next_told, same}
pub use Rattle.exchange_model.specs.Ends.{of_end, peer, same_end}
pub use Rattle.exchange_model.specs.Fair.{IsTakenFrom, TakesAwaited, data_taken, in_time, outputs_after, outputs_at, outputs_by, outputs_due, received_len}
pub use Rattle.exchange_model.specs.Honest.{is_tick}
pub use Rattle.exchange_model.specs.Items.{Item, awaited, items, items_of}
pub use Rattle.exchange_model.specs.Monitor.{HasParts, MonitorView, Side, heard_next, is_answer, next_number, next_sent, noted_next, sent_next, sent_number, side_of}
pub use Rattle.exchange_model.specs.Other.{NoOther, first_of_both, is_other, item_number}
pub use Rattle.exchange_model.specs.Worlds.{IsWorld}
pub use Rattle.exchange_model.specs.World.{SameLengths, deed_in, deeds, setup_of}
pub use Rattle.fsoe_base.specs.Data.{is_data}
pub use Rattle.fsoe_base.specs.declared.command.Command.{Command}
pub use Rattle.fsoe_base.specs.declared.command.End.{End}
pub use Rattle.fsoe_base.specs.declared.did.Did.{Did}
pub use Rattle.fsoe_base.specs.declared.did.Took.{Took}
pub use Rattle.param_load.specs.declared.entry.Entry.{Entry}
pub use Rattle.param_load.specs.declared.entry.Move.{Move}
pub use Rattle.param_load.specs.declared.master_settings.MasterSettings.{MasterSettings}
pub use Rattle.param_load.specs.declared.slave_settings.SlaveSettings.{SlaveSettings}
pub use Rattle.param_load.specs.declared.terms.Terms.{Terms}
pub use Rattle.reaction_bound.specs.Age.{age_of, greater, sends_item, source, source_after, source_at, source_by, source_in, ticked_at, ticks_since, told_ticks, told_age, worst_of}
pub use Rattle.reaction_bound.specs.Ages.{AgesView, NotesEntry, NotesParts, acted_next, age_in, awaited_by, counted, kept_of, left_after, left_at, left_by, standing_at, standing_counted, standing_next, standing_of, standing_taken, standing_ticked, view_of, waited, waited_next, watchdog_in}
pub use Rattle.reaction_bound.specs.declared.end_age.Standing.{Standing}
pub use Rattle.std.proofs.lemmas.Bool.{eq-eqb, ltb-true}
