-- What a plant is run with and what is left of it, as contracts see it.
use Rattle.std.specs.Prelude.{ℕ, List, map, string_bytes}
use Rattle.std.specs.declared.option.Option.{Option}
use Rattle.black_channel.specs.Told.{ChannelTold}
use Rattle.fb_net.specs.declared.kind_of.EntryOf.{EntryOf}
use Rattle.multi_master.specs.Calls.{AppView}
use Rattle.plant_model.specs.Past.{Named}
use Rattle.plant_model.specs.declared.journal.JournalStep.{JournalStep}

-- what a desk tells of one name: the text under it, where it tells that, and how often loads of it failed before a run
-- and by its end
pub record DeskTold : Type 0 where
  pub text : Option (List ℕ)
  pub faults_before : ℕ
  pub faults_after : ℕ

-- it, of this name, by the desk as it is before a run and after it
abbrev pub desk_told : {D : Type 0} → (D → List ℕ → Option (List ℕ)) → (D → List ℕ → ℕ) → List ℕ → D → D → DeskTold
desk_told holds faults name before after = record { text = holds before name; faults_before = faults before name; faults_after = faults after name }

-- an application that is handed in, under its name
abbrev pub entry_seen : {H : Type 0} → (H → AppView) → EntryOf H → Named
entry_seen app_of entry = record { name = string_bytes entry.name; app = app_of entry.app }

-- the applications that are handed in, each under its name; the channels before and after a run, each with a name and
-- what it tells; the source of the script before and after it; and the journal that the run leaves
pub record Handed (C S : Type 0) : Type 0 where
  pub apps : List Named
  pub name_of : C → List ℕ
  pub tells : C → ChannelTold
  pub channels_before : List C
  pub channels_after : List C
  pub source_before : S
  pub source_after : S
  pub journal : List JournalStep

-- it, by what is known of each application and each channel
abbrev pub handed : {H C S : Type 0} → (H → AppView) → (C → List ℕ) → (C → ChannelTold) → List (EntryOf H) → List C → List C → S → S → List JournalStep → Handed C S
handed app_of name_of tells apps before after read left steps = record {
  apps = map (entry_seen app_of) apps;
  name_of = name_of;
  tells = tells;
  channels_before = before;
  channels_after = after;
  source_before = read;
  source_after = left;
  journal = steps;
}
