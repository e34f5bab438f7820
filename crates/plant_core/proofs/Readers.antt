-- What a plant shows of an end is what the pair of its connection tells.
use Rattle.plant_core.proofs.Common.{Connection, Deed, Did, HasLink, IsPlant, IsSomeAnd, JournalStep, LinkConf, LinkIs, LinkView, OfMaster, OfSlave, Placed, PlantValue, PlantView, Setup, ShowsAt, ShowsPair, calls, deeds, is_cut, journal, kept_at, master_with, mastered, masters, out, pair, pairs_by, settings, setup, some_at, state_of}
use Rattle.multi_master.specs.Connection.{connection_outputs}
use Rattle.fsoe_base.specs.declared.command.State.{State}
use Rattle.std.proofs.Common.{◌≡◌, ◌≤◌, ℕ, zero, suc, List, length, slice_get, Option, Some, option_map, sym, ap, subst, ◌∙◌, arith}
use Rattle.fsoe_base.specs.declared.command.End.TheVariants as side
use Rattle.slave_core.specs.Standing as slave_core
use Rattle.multi_master.specs.Standing as multi
use Rattle.plant_model.specs.Pair as pairs
use Rattle.plant_core.proofs.Found.{found}
use Rattle.plant_core.proofs.Linking.{each_count}

-- a word of the slave is that word of its deeds in the pair
pub slave_shown : {X : Type 0} (v : PlantView) (k place : ℕ) (l : LinkView) (shown : X) (word : Setup → List Deed → X) → Placed v.links k place l → slave_core.Shows l.slave shown word
    → ShowsPair v k shown (λ link w. word (OfSlave link.slave) (deeds side.Slave w))
slave_shown v k place l shown word p s = record {
  shows = λ b acts h.
      let f = found b v acts k l h (ap (kept_at v.links) p.number ∙ p.at) in
      rw f.is (s.shows f.link.slave (deeds side.Slave (pair f.link k v.journal)) f.kept.stands.slave);
}

-- the same of the master
pub told_by : {X : Type 0} (shown : X) (word : Setup → List Deed → X) (o : Option Connection) (c : Connection) → o ≡ Some c → option_map (λ (z : Connection). word (setup z) z.deeds) o ≡ Some shown → shown ≡ word (setup c) c.deeds
told_by shown word o c h k = grind arith

master_shown : {X : Type 0} (v : PlantView) (k : ℕ) (shown : X) (word : Setup → List Deed → X) → ShowsAt v.master k shown (λ c. word (setup c) c.deeds) → 1 ≤ k → k ≤ length v.links
    → ShowsPair v k shown (λ link w. word (OfMaster link.master) (deeds side.Master w))
master_shown v zero shown word s first last = absurd (omega arith)
master_shown v (suc place) shown word s first last = record {
  shows = λ b acts h.
      let count = each_count (LinkIs (λ j. is_cut j acts) (pairs_by v.journal)) 1 b.links v.links h.has_done.links in
      let link = some_at b.links place (omega arith) in
      subst (λ (o : Option LinkConf). IsSomeAnd o (λ link. shown ≡ word (OfMaster link.master) (deeds side.Master (pair link (suc place) v.journal)))) (sym link.1)
      (told_by shown word (slice_get (masters b acts).connections place) (master_with link.0 (pair link.0 (suc place) (journal b acts))) (mastered b acts place link.0 link.1) (s.shows (settings b) b.app (calls b acts) h.has_done.master)
      ∙ ap (λ (js : List JournalStep). word (OfMaster link.0.master) (deeds side.Master (pair link.0 (suc place) js))) (sym h.has_done.journal_is));
}

pub master_state_shown : (v : PlantView) (k : ℕ) (shown : State) → ShowsAt v.master k shown (λ c. state_of (setup c) c.deeds) → 1 ≤ k → k ≤ length v.links → ShowsPair v k shown (λ l w. pairs.state_at l side.Master w)
master_state_shown v k shown s first last = master_shown v k shown state_of s first last

pub master_outputs_shown : (v : PlantView) (k : ℕ) (shown : List ℕ) → ShowsAt v.master k shown connection_outputs → 1 ≤ k → k ≤ length v.links → ShowsPair v k shown (λ l w. pairs.end_outputs l side.Master w)
master_outputs_shown v k shown s first last = master_shown v k shown out s first last

pub master_has : {A : Type 0} (v : PlantValue A) (link : ℕ) (dids : List Did) (outs : List (List ℕ)) (len : ℕ) → HasLink v link → IsPlant v.master v.links dids outs len → multi.HasLink v.master link
master_has v link dids outs len has is = subst (λ (n : ℕ). multi.IsNumber n link) is.count has
