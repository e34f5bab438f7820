-- What comes of a configuration, or of a text that is none.
use Rattle.std.proofs.Common.{◌≡◌, ℕ, List, [], length, map, refl, slice_index_or, slice_set, arith, rules}
use Rattle.std.specs.Prelude.{◌≢◌, Option, Some, None, Ok, Err, string_bytes}
use Rattle.std.proofs.lemmas.Option.{slice_get_read}
use Rattle.fsoe_io.specs.declared.status.Ended.{Ended}
use Rattle.fsoe_io.specs.declared.status.Status.TheVariants as status
use Rattle.black_channel.specs.Told.{ChannelTold}
use Rattle.fb_net.specs.Standing.{IsNewNet}
use Rattle.fb_net.specs.declared.kind_of.EntryOf.{EntryOf}
use Rattle.fb_net.specs.declared.kind_of.KindOf.{KindOf}
use Rattle.fb_net.specs.declared.kind_of.KindOf.TheVariants as kind
use Rattle.file_run.specs.Outside.{Outside}
use Rattle.plant_conf.specs.ConfView.{ConfView}
use Rattle.plant_conf.specs.declared.fault.ConfFault.{ConfFault}
use Rattle.plant_conf.specs.declared.fault.ConfFault.TheVariants as fault
use Rattle.plant_setup.specs.ConfigLine.{config_line}
use Rattle.plant_setup.specs.Names.{name_place}
use Rattle.plant_setup.specs.Setup.{IsChosen, net_of, setup_fault}
use Rattle.plant_setup.specs.declared.fault.SetupFault.{SetupFault}
use Rattle.plant_setup.specs.declared.fault.SetupFault.TheVariants as setup
use Rattle.multi_master.specs.Calls.{AppView}
use Rattle.plant_model.specs.NetCycles.{net_app}
use Rattle.plant_model.specs.Past.{Named}
use Rattle.plant_model.proofs.ByNet.{answers_by_net}
use Rattle.plant_model.specs.declared.journal.JournalStep.{JournalStep}
use Rattle.plant_file.specs.Handed.{Handed, entry_seen, handed}
use Rattle.plant_model.specs.Acts.{begins_with}
use Rattle.plant_file.specs.Plant.{PlantRun, RanSaid, RanUnless, WroteLine}
use Rattle.plant_file.proofs.Picked.{chosen_seen, map_twice, within}

-- the net was taken out of the configuration, at which a plant doesn't look
ran_whole : (Ran : PlantRun) (conf taken : ConfView) (app : AppView) (spare : List Named) (ended : Ended) (o : Outside) (before after : ChannelTold) (steps : List JournalStep)
    → taken ≡ record conf { blocks = []; drives = [] }
    → Ran (record { begins = begins_with taken app; spare = spare; bounds = taken.bounds }) ended o before after steps
    → Ran (record { begins = begins_with conf app; spare = spare; bounds = conf.bounds }) ended o before after steps
ran_whole Ran conf taken app spare ended o before after steps h k = grind arith

-- a fault of the names that were handed in is that of those that are seen
ran_unless : {X C S : Type 0} (Ran : PlantRun) (f : X → Named) (apps : List X) (conf : ConfView) (names : List (List ℕ)) (found : Option SetupFault) (ended : Ended) (o : Outside) (h : Handed C S)
    → found ≡ setup_fault conf (map (λ x. (f x).name) apps) names
    → RanUnless Ran found conf ended o h → RanUnless Ran (setup_fault conf (map (λ named. named.name) (map f apps)) names) conf ended o h
ran_unless Ran f apps conf names found ended o h k l = search (rules, map_twice)

-- the line of a fault is what its configuration comes to
pub set_up_refused : {H C S : Type 0} (Ran : PlantRun) (app_of : H → AppView) (name_of : C → List ℕ) (tells : C → ChannelTold) (conf : ConfView) (apps : List (EntryOf H)) (channels : List C) (why : SetupFault) (ended : Ended) (o : Outside)
    (source : S) (steps : List JournalStep)
    → Some why ≡ setup_fault conf (map (λ entry. string_bytes entry.name) apps) (map name_of channels)
    → WroteLine (config_line why) status.Config ended o (handed app_of name_of tells apps channels channels source source steps)
    → RanSaid Ran (Ok conf) ended o (handed app_of name_of tells apps channels channels source source steps)
set_up_refused Ran app_of name_of tells conf apps channels why ended o source steps h k = search (rules, ran_unless)

-- a plant that was set up and ran is what its configuration comes to
pub set_up_ran : {H C S : Type 0} (Ran : PlantRun) (app_of : H → AppView) (name_of : C → List ℕ) (tells : C → ChannelTold) (conf taken : ConfView) (apps spare : List (EntryOf H)) (app : KindOf H) (seen : AppView) (channels : List C)
    (place : ℕ) (before after : C) (ended : Ended) (o : Outside) (read left : S) (steps : List JournalStep)
    → Ran (record { begins = begins_with taken seen; spare = map (entry_seen app_of) spare; bounds = taken.bounds }) ended o (tells before) (tells after) steps
    → taken ≡ record conf { blocks = []; drives = [] } → IsNewNet (net_of conf)
    → (app ≡ kind.Net (net_of conf) → seen ≡ net_app (net_of conf)) → ((x : H) → app ≡ kind.Handed x → seen ≡ app_of x)
    → None ≡ setup_fault conf (map (λ entry. string_bytes entry.name) apps) (map name_of channels)
    → IsChosen (λ entry. string_bytes entry.name) conf.app apps spare (app ≡ kind.Net (net_of conf)) (λ entry. app ≡ kind.Handed entry.app)
    → name_place conf.channel (map name_of channels) ≡ Some place → before ≡ slice_index_or channels place before
    → RanSaid Ran (Ok conf) ended o (handed app_of name_of tells apps channels (slice_set channels place after) read left steps)
set_up_ran Ran app_of name_of tells conf taken apps spare app seen channels place before after ended o read left steps ran rest new net own fault chosen at is =
    ran_unless Ran (entry_seen app_of) apps conf (map name_of channels) None ended o (handed app_of name_of tells apps channels (slice_set channels place after) read left steps) fault (record {
      app = seen;
      spare = map (entry_seen app_of) spare;
      chosen = chosen_seen (entry_seen app_of) (λ (named : Named). named.name) conf.app apps spare (app ≡ kind.Net (net_of conf)) (seen ≡ net_app (net_of conf)) (λ entry. app ≡ kind.Handed entry.app)
          (λ named. seen ≡ named.app) net (λ entry e. own entry.app e) chosen;
      place = place;
      place_is = at;
      before = before;
      before_is = slice_get_read channels (length channels) place before refl (within name_of conf.channel channels place at) is;
      after = after;
      channels = refl;
      ran = ran_whole Ran conf taken seen (map (entry_seen app_of) spare) ended o (tells before) (tells after) steps rest ran;
      by_net = answers_by_net (net_of conf) new (begins_with conf seen);
    })

-- the line of the first fault of a text is what it comes to, where there was memory to read it
pub text_refused : {C S : Type 0} (Ran : PlantRun) (why : ConfFault) (ended : Ended) (o : Outside) (h : Handed C S) → why ≢ fault.Memory → WroteLine (config_line (setup.Conf why)) status.Config ended o h → RanSaid Ran (Err why) ended o h
text_refused Ran fault.Memory ended o h other wrote = absurd (other refl)
text_refused Ran _ ended o h other wrote = wrote
