-- The names that more than one file of these proofs cites, passed on from one place. Declares nothing.
pub use Rattle.black_channel.specs.declared.channel.Parcel.{Parcel}
pub use Rattle.end_model.specs.Deed.{Deed, is_empty, ticked}
pub use Rattle.end_model.specs.Outputs.{out}
pub use Rattle.end_model.specs.Phases.{is_data_frame}
pub use Rattle.end_model.specs.Setup.{OfMaster, OfSlave, Setup, sends}
pub use Rattle.end_model.specs.Step.{step}
pub use Rattle.exchange_model.proofs.Fairness.Headline.{fair_before, fair_world}
pub use Rattle.exchange_model.proofs.Offering.Older.{older_clean}
pub use Rattle.exchange_model.specs.Ends.{of_end, peer, same_end}
pub use Rattle.exchange_model.specs.Fair.{Fair, offers_bit, outputs_due, received_len}
pub use Rattle.exchange_model.specs.Items.{FailSafe, Offered, Unset, next_offered, offered_put}
pub use Rattle.exchange_model.specs.Offering.{WasOffered, ticks_of}
pub use Rattle.exchange_model.specs.Other.{NoOther, before_other, first_of_both}
pub use Rattle.exchange_model.specs.Worlds.{IsNextEntry, IsProperEvent, IsWorld}
pub use Rattle.exchange_model.specs.World.{SameLengths, deed_in, deeds, end_of_event, entry_at, entry_on, frames_of, going_on, move_from, next_entry, setup_of, world_after}
pub use Rattle.failsafe_io.specs.Application.{Answer}
pub use Rattle.failsafe_io.specs.Bits.{bit_at}
pub use Rattle.failsafe_io.specs.declared.bit.Bit.{Bit}
pub use Rattle.fsoe_base.specs.Image.{bit_of}
pub use Rattle.fsoe_base.specs.declared.command.End.{End}
pub use Rattle.fsoe_base.specs.declared.lengths.Lengths.{Lengths}
pub use Rattle.multi_master.proofs.Neighbours.{event_keeps, settings_alone}
pub use Rattle.multi_master.specs.Calls.{AppView, Call, ChangeApp, Deliver, Hold, IsSound, Meant, Nonce, Reset, Tick, after, all_tick, app_answer, changed_by, changed_from, numbered_connection, cycle_in, moved_at, event_on, is_heard, meant, with_cycle}
pub use Rattle.multi_master.specs.Connection.{Connection, new_connection, is_offer, offer_at, offer_len, connection_outputs, with_event, with_offers}
pub use Rattle.param_load.specs.declared.entry.Entry.{Entry}
pub use Rattle.param_load.specs.declared.entry.Move.{Move}
pub use Rattle.param_load.specs.declared.master_settings.MasterSettings.{MasterSettings}
pub use Rattle.param_load.specs.declared.slave_settings.SlaveSettings.{SlaveSettings}
pub use Rattle.plant_conf.specs.Kept.{HasSameLengths}
pub use Rattle.plant_conf.specs.declared.conf.BoundSpec.{BoundSpec}
pub use Rattle.plant_conf.specs.declared.conf.LinkConf.{LinkConf}
pub use Rattle.plant_model.specs.Acts.{Act, App, Beginning, Event, Happen, PullFrom, Said, Event as SaysEvent, Start, all_pushes, call_of, calls, act_cycle, delivery_call, is_cut, journal, line_step, masters, newer, offer_step, offers, push_to, pushes_of, settings, steps_of, uses, uses_of}
pub use Rattle.plant_model.specs.Bound.{HasLinks, Reacts, StaysOff, inputs_after, is_drive_on, is_still, reaction_limit, offers_after}
pub use Rattle.plant_model.specs.FairPairs.{PairsAreFair, StepFits}
pub use Rattle.plant_model.specs.Gifts.{EmptiesRose, GivesHeld, GrewBy, RoseBy, ToldHolds, ToldLists, each_uses, empty_pulls, gifts, place_of, pushes, sent_uses}
pub use Rattle.plant_model.specs.JournalLaws.{Cycles, PullsFit, line_steps, master_hears, one_if_left, pulled_in, short_ticks, tells_hearing}
pub use Rattle.plant_model.specs.Pair.{if_same, is_tick_step, link_at, next_of, own_events, own_part, pair, pairs_by, pulls_after, journal_ticks}
pub use Rattle.plant_model.specs.Past.{AppsAreSpare, IsPast, Named, Taken, passed, said, said_in, said_with, take_app, with_line}
pub use Rattle.plant_model.specs.Promises.{AllSound}
pub use Rattle.plant_model.specs.Uses.{Begin, Pull, Push, Trace, Use}
pub use Rattle.plant_model.specs.declared.event.PlantEvent.{PlantEvent}
pub use Rattle.plant_model.specs.declared.journal.JournalStep.{JournalStep}
pub use Rattle.std.proofs.lemmas.Bool.{cases_lt, eq-eqb}
pub use Rattle.std.proofs.lemmas.Grind.{common_steps, flat_map-append}
pub use Rattle.std.proofs.lemmas.List.{append-nil, map-append}
pub use Rattle.std.proofs.lemmas.List.Sums.{sum_by-append}
pub use Rattle.std.specs.Option.{option_map_or}
pub use Rattle.std.specs.Prelude.{IfSome, IsSomeAnd, IsTrue, None, Option, Some, cond, is_some, option_and_then, option_map, option_to_list}
