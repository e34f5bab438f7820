-- The pairs of a plant are worlds of proper events, since both ends of each are where their deeds leave them; so what
-- holds of worlds holds of them.
use Rattle.plant_core.proofs.Common.{Act, Beginning, Connection, IsRun, IsWhere, JournalStep, LinkConf, LinkIs, LinkView, OfMaster, PlantStands, PlantView, Reacts, all_at, deeds, is_cut, journal, master_with, mastered, masters, pair, pairs_by, slice_get_within, some_at}
use Rattle.std.proofs.Common.{◌≡◌, ℕ, zero, suc, List, [], ◌∷◌, slice_get, Some, All, sym, subst, ◌∙◌, arith}
use Rattle.std.proofs.lemmas.Option.{same_Some}
use Rattle.std.specs.List.{AllZip}
use Rattle.fsoe_base.specs.declared.command.End.TheVariants as side
use Rattle.plant_conf.specs.Kept.{HasSameLengths}
use Rattle.master_core.specs.MasterView.{MasterView}
use Rattle.plant_model.specs.FairPairs.{PairsAreFair}
use Rattle.plant_model.proofs.Cycled.{sound_acts}
use Rattle.plant_core.proofs.Linking.{each_at, each_count}
use Rattle.plant_model.proofs.FairPlant.{AreWorlds, world_of_runs, worlds_are_fair}
use Rattle.plant_model.proofs.Reacting.{worlds_react}
use Rattle.plant_model.proofs.Broken.{worlds_broken}
use Rattle.plant_model.specs.Broken.{BrokenByOther}
use Rattle.plant_model.specs.Promises.{AllSound}

-- what stands beside a place of the first list
zip_at : (cs : List Connection) (ms : List MasterView) (place : ℕ) (c : Connection) → AllZip IsWhere cs ms → slice_get cs place ≡ Some c → (m : MasterView) × IsWhere c m
zip_at [] [] place c h e = absurd (cc e)
zip_at (a ∷ cs) (m ∷ ms) zero c h e = let i : a ≡ c = cc in (m, subst (λ (z : Connection). IsWhere z m) i h.0)
zip_at (a ∷ cs) (m ∷ ms) (suc place) c h e = zip_at cs ms place c h.1 e
zip_at _ _ place c h e = absurd h

-- what the master of a pair did is a run
pub master_runs : (b : Beginning) (v : PlantView) (acts : List Act) (place : ℕ) (link : LinkConf) → PlantStands b v acts → slice_get b.links place ≡ Some link
    → IsRun (OfMaster link.master) (deeds side.Master (pair link (suc place) v.journal))
master_runs b v acts place link h e =
    let done = h.has_done in
    let c : Connection = master_with link (pair link (suc place) (journal b acts)) in
    let beside = zip_at (masters b acts).connections v.master.masters place c done.master.masters (mastered b acts place link e) in
    subst (λ (js : List JournalStep). IsRun (OfMaster link.master) (deeds side.Master (pair link (suc place) js))) (sym done.journal_is) beside.1.reached

pub worlds : (b : Beginning) (v : PlantView) (acts : List Act) → PlantStands b v acts → All HasSameLengths b.links → AreWorlds b.links v.journal
worlds b v acts h same = λ place link e.
    let P : ℕ → LinkConf → LinkView → Type 0 = LinkIs (λ j. is_cut j acts) (pairs_by v.journal) in
    let count = each_count P 1 b.links v.links h.has_done.links in
    let within = slice_get_within b.links place link e in
    let there = some_at v.links place (omega arith) in
    let beside = each_at P 1 b.links v.links place (suc place) there.0 h.has_done.links there.1 (omega arith) in
    let reached = rw (same_Some beside.link link (sym beside.is ∙ e)) at beside.holds.stands.slave.reached in
    world_of_runs link (suc place) v.journal (all_at HasSameLengths b.links place link same e) (master_runs b v acts place link h e) reached

-- by the journal of its acts
by_acts : (b : Beginning) (v : PlantView) (acts : List Act) → PlantStands b v acts → All HasSameLengths b.links → AreWorlds b.links (journal b acts)
by_acts b v acts h same = subst (λ (steps : List JournalStep). AreWorlds b.links steps) h.has_done.journal_is (worlds b v acts h same)

pub plants_are_fair : (b : Beginning) (v : PlantView) (acts : List Act) → PlantStands b v acts → All HasSameLengths b.links → PairsAreFair b.links v.journal
plants_are_fair b v acts h same = worlds_are_fair b.links v.journal (worlds b v acts h same)

pub sound : (b : Beginning) (v : PlantView) (acts : List Act) → PlantStands b v acts → AllSound b acts
sound b v acts h = sound_acts b acts h.has_done.master.sound

pub reacts : (b : Beginning) (v : PlantView) (acts : List Act) → PlantStands b v acts → All HasSameLengths b.links → Reacts b acts
reacts b v acts h same = worlds_react b acts (by_acts b v acts h same)

pub broken_by_other : (b : Beginning) (v : PlantView) (acts : List Act) → PlantStands b v acts → All HasSameLengths b.links → BrokenByOther b acts
broken_by_other b v acts h same = worlds_broken b acts (by_acts b v acts h same) (sound b v acts h)
