use Rattle.std.proofs.Common.{refl, rules}
use Rattle.std.proofs.lemmas.Option.{slice_get_read}
use Rattle.multi_master.proofs.Places.{map_set}
use Rattle.plant_file.proofs.Picked.{within}
use Rattle.plant_file.proofs.SetUp.{set_up_ran, set_up_refused}
use Rattle.plant_file.proofs.plant.run_conf.Goals as goal

pub index_mut-channel-requires : goal.index_mut-channel-requires
index_mut-channel-requires c = search (rules, within)

pub returns-in-Ok : goal.returns-in-Ok
returns-in-Ok g c = record {
  ran =
      let fault = rw c.as_slice.ensures.value at c.in-Ok.ensures.fault in
      let place = rw c.as_slice.ensures.value at c.in-Ok.ensures.channel in
      set_up_ran _ _ _ _ c.args.conf c.set_up.new.conf c.args.apps.items c.in-Ok.setup.spare.items c.in-Ok.setup.app _ c.args.channels.now.items c.in-Ok.setup.channel _ c.run_wanted.new.channel _ _ _ _ _
      c.run_wanted.ensures.ran c.in-Ok.ensures.rest c.in-Ok.ensures.is_new (λ e. rw e refl) (λ x e. rw e refl) fault c.in-Ok.ensures.app place c.index_mut-channel.ensures.value;
  names_stay =
      let place = rw c.as_slice.ensures.value at c.in-Ok.ensures.channel in
      map_set _ c.args.channels.now.items c.in-Ok.setup.channel _ c.run_wanted.new.channel
      (slice_get_read c.args.channels.now.items _ c.in-Ok.setup.channel _ refl (within _ _ c.args.channels.now.items c.in-Ok.setup.channel place) c.index_mut-channel.ensures.value) c.run_wanted.ensures.name_stays;
}

pub returns : goal.returns
returns g c = record {
  ran =
      let fault = rw c.as_slice.ensures.value at c.in-Err.ensures.fault in
      set_up_refused _ _ _ _ c.args.conf c.args.apps.items c.args.channels.now.items c.in-Err.why _ _ _ _ fault (record {
        nothing = record { unread = refl; channels = refl; journal = c.requires.empty };
        wrote = c.refuse.ensures.writes;
        later = c.refuse.ensures.later;
      });
  names_stay = refl;
}
