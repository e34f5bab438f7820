-- The names that more than one file of these proofs cites, passed on from one place. Declares nothing.
pub use Rattle.black_channel.specs.Told.{Begins, PullsParcel, ChannelTold}
pub use Rattle.black_channel.specs.declared.channel.Parcel.{Parcel}
pub use Rattle.end_model.specs.Deed.{Deed, delivered}
pub use Rattle.end_model.specs.Outputs.{out}
pub use Rattle.end_model.specs.Readiness.{held, offer, state_of, told_terms}
pub use Rattle.end_model.specs.Runs.{IsRun}
pub use Rattle.end_model.specs.Setup.{OfMaster, OfSlave, Setup}
pub use Rattle.exchange_model.specs.Ends.{of_end, peer, same_end}
pub use Rattle.exchange_model.specs.Fair.{offers_bit}
pub use Rattle.exchange_model.specs.Items.{Unset, next_offered}
pub use Rattle.exchange_model.specs.Monitor.{view_of}
pub use Rattle.exchange_model.specs.World.{deed_in, deeds, frames_of, next_entry}
pub use Rattle.fsoe_base.specs.Did.{nothing}
pub use Rattle.fsoe_base.specs.Image.{bit_of}
pub use Rattle.fsoe_base.specs.declared.command.End.{End}
pub use Rattle.fsoe_base.specs.declared.did.Did.{Did}
pub use Rattle.fsoe_base.specs.declared.lengths.Lengths.{Lengths}
pub use Rattle.multi_master.proofs.Keeping.{written_back}
pub use Rattle.multi_master.proofs.Places.{Placed, all_at, map_set, placed, same_length, some_at}
pub use Rattle.multi_master.specs.Calls.{AppView, Call, ChangeApp, Deliver, IsSound, Meant, Nonce, Tick, changed_by, changed_from, numbered_connection, meant}
pub use Rattle.multi_master.specs.Connection.{Connection, is_offer, next_deed, offer_at, setup}
pub use Rattle.multi_master.specs.Standing.{AllSound, AnswersFrame, AnswersTick, IsNumber, IsWhere, MultiValue, MultiView, ShowsApp, ShowsAt, ShowsChanged, StandsFor, changed, newest_at, numbers_of, seen}
pub use Rattle.param_load.specs.declared.entry.Entry.{Entry}
pub use Rattle.param_load.specs.declared.entry.Move.{Move}
pub use Rattle.plant_conf.specs.declared.conf.BoundSpec.{BoundSpec}
pub use Rattle.plant_conf.specs.declared.conf.LinkConf.{LinkConf}
pub use Rattle.plant_core.specs.Doing.{Acted, Change, Delivers, Done, DoesLine, EachActs, GoesOn, IsReady, MasterTicked, OffersNoted, Pulls, SlaveActs, SlaveTicks, sees, slave_move}
pub use Rattle.plant_core.specs.Link.{AgesNote, Fixed, IsNoted, LinkStands, LinkView, NotesOne, fixed_of, new_ages, new_link}
pub use Rattle.plant_core.specs.Making.{AreMade, is_named, links_made}
pub use Rattle.plant_core.specs.Standing.{AllNoted, AreNoted, EachLink, HasDone, HasLink, IsPlant, LinkIs, LinksAre, PlantStands, PlantValue, PlantView, ShowsOn, ShowsPair, ShowsWorst, Starts, TellsOther, TellsStill, fixed_in, kept_at, lengths_kept}
pub use Rattle.plant_model.proofs.Growing.{IsOne, each_none, each_one, no_entry, not_same, pair_more, pair_one, pair_other, pair_own, pushes_each, sent_in, with_frame}
pub use Rattle.plant_model.proofs.Masters.{master_with, mastered, offers_by}
pub use Rattle.plant_model.specs.Acts.{Act, App, Beginning, Event, Happen, PullFrom, Said, Start, all_pushes, call_of, calls, delivery_call, is_cut, journal, line_step, masters, offer_step, offers, pushes_of, settings, steps_of, uses_after, uses_of}
pub use Rattle.plant_model.specs.Bound.{Reacts, is_drive_guarded, is_off, slave_offers}
pub use Rattle.plant_model.specs.Fits.{Fits, lengths_at, lengths_in}
pub use Rattle.plant_model.specs.Gifts.{each_uses, place_of, sent_uses}
pub use Rattle.plant_model.specs.Pair.{link_at, lowest_other, next_of, end_outputs, pair, pairs_by, pulls_after}
pub use Rattle.plant_model.specs.Uses.{Trace, Use}
pub use Rattle.plant_model.specs.declared.event.PlantEvent.{PlantEvent}
pub use Rattle.plant_model.specs.declared.journal.JournalStep.{JournalStep}
pub use Rattle.reaction_bound.specs.Ages.{AgesView, HasAgeParts, HasWatchdog, watchdog_in}
pub use Rattle.slave_core.specs.SlaveView.{SlaveView}
pub use Rattle.slave_core.specs.Standing.{Shows, SlaveIsAfter}
pub use Rattle.std.proofs.lemmas.Bool.{eq-eqb}
pub use Rattle.std.proofs.lemmas.List.{append-nil, drop-set-lt, drop_more, length-map, length-set, map-append, take_all, take_more, take_more_set}
pub use Rattle.std.proofs.lemmas.List.Elements.{All-append, All-cons, All-drop, All-head, All-nil, All-tail, All-weaker}
pub use Rattle.std.proofs.lemmas.Option.{get_or_from_slice_get, slice_get-get_or, slice_get-map, slice_get_past, slice_get_read, slice_get_within}
pub use Rattle.std.specs.Option.{option_map_or}
pub use Rattle.std.specs.Prelude.{IfSome, IsSome, IsSomeAnd, is_some, option_copied, option_to_list}
