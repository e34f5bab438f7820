-- What a run over a script leaves is what a plant did.
use Rattle.plant_run.proofs.Common.{Ended, IfSome, LinkConf, PlantLine, RanOver, RanPlant, Reporting, RunCloses, RunStands, RunView, ScriptHeading, Terms, ChannelTold, link_at, plant_reporting}
use Rattle.std.proofs.Common.{◌≡◌, ℕ, List, [], Option, Some, None, refl, sym, subst, inl, inr, arith}
use Rattle.std.specs.List.{IsDistinct}
use Rattle.fsoe_io.specs.declared.status.Status.{Status}
use Rattle.exchange_model.specs.Fair.{Fair}
use Rattle.file_run.specs.Left.{Done, LeavesAs}
use Rattle.file_run.specs.Running.{Leaves}
use Rattle.file_run.specs.Outside.{Outside}
use Rattle.plant_model.specs.FairPairs.{PairsAreFair}
use Rattle.plant_run.proofs.NextLine.{reported}
use Rattle.plant_run.proofs.Scripted.{said_are}
use Rattle.plant_core.proofs.Worlds.{broken_by_other, plants_are_fair, reacts, sound}

-- a relation of a header, its events, their text and an end
abbrev Closing : Type 1
Closing = ScriptHeading → List PlantLine → List ℕ → Ended → Type 0

-- what a run leaves by one closing it leaves by the other
leaves_as : (t : Terms) (one two : Closing) → ((h : ScriptHeading) (log : List PlantLine) (text : List ℕ) (e : Ended) → one h log text e → two h log text e) → (d : Done ScriptHeading PlantLine) (s : Status) (ended : Ended) (o : Outside) → LeavesAs (plant_reporting t) one d s ended o → LeavesAs (plant_reporting t) two d s ended o
leaves_as t one two h d s ended o k = grind arith

-- nothing happened to any connection in no steps
fair_if_none : (o : Option LinkConf) → IfSome o (λ link. Fair link.master.lengths [])
unfolding IsDistinct
fair_if_none None = tt
fair_if_none (Some link) = record { from_awaited = tt; master_once = tt; slave_once = tt; outputs = tt }

none_is_fair : (links : List LinkConf) → PairsAreFair links []
none_is_fair links = λ k. fair_if_none (link_at links k)

pub ran_plant : {t : Terms} {ended : Ended} {o : Outside} {before : ChannelTold} (now : RunView) {unbegun : Type 0} {stands : ScriptHeading → List PlantLine → List ℕ → Type 0} → RanOver (plant_reporting t) ended o → Leaves unbegun (plant_reporting t) stands (RunCloses t before now) ended o
    → (unbegun → (now.told ≡ before) × (now.plant.journal ≡ [])) → ((h : ScriptHeading) (log : List PlantLine) (text : List ℕ) → stands h log text → (count : ℕ) × RunStands t before now count h log text) → RanPlant t ended o before now.told now.plant.journal
ran_plant {t} {ended} {o} {before} now ran leaves nothing stood =
    elim leaves [
      | inl none ↦
          let was = nothing none.0 in
          record { run = ran; acts = []; did = inl (record { none = refl; left = none.1 }); journal_is = was.1; channel = sym was.0; fair = subst (PairsAreFair t.begins.links) (sym was.1) (none_is_fair t.begins.links) }
      | inr did ↦
          let d = did.done in
          let s = (stood d.heading d.log d.text did.stood).1 in
          record {
            run = ran;
            acts = s.acts;
            did = inr (record {
              may = s.stands.may;
              done = d;
              said_are = said_are s;
              whole = s.whole;
              sound = sound t.begins now.plant s.acts s.stands;
              reacts = reacts t.begins now.plant s.acts s.stands s.same_lengths;
              broken = broken_by_other t.begins now.plant s.acts s.stands s.same_lengths;
              text_is = s.text_is;
              begun = did.begun;
              ends = leaves_as t _ _ (λ h log text e c. reported s.acts s.stands.has_done.journal_is s.watched_are c) d ended.status ended o did.ends;
            });
            journal_is = s.stands.has_done.journal_is;
            channel = s.channel;
            fair = plants_are_fair t.begins now.plant s.acts s.stands s.same_lengths;
          }
    ]

-- what holds by either way in which a run leaves what was handed
pub left_so : {P H L E : Type 0} (r : Reporting H L E) (ended : Ended) (o : Outside) (unbegun : Type 0) (stands : H → List E → List ℕ → Type 0) (closes : H → List E → List ℕ → Ended → Type 0) → Leaves unbegun r stands closes ended o → (unbegun → P)
    → ((h : H) (log : List E) (text : List ℕ) → stands h log text → P) → P
left_so r ended o unbegun stands closes k l m = grind arith
