-- The lowest connection whose pair has an other entry.
use Rattle.plant_core.proofs.Common.{AllNoted, Entry, JournalStep, LinkConf, LinkIs, LinkView, PlantView, TellsOther, is_cut, is_some, lowest_other, pair, pairs_by, slice_get_read, view_of}
use Rattle.std.proofs.Common.{◌≡◌, ◌≤◌, ◌<◌, ℕ, suc, ◌+◌, Bool, List, length, drop, get_or, Some, None, Option, if◌then◌else◌, refl, arith}
use Rattle.exchange_model.specs.Other.{first_other}
use Rattle.std.proofs.lemmas.List.{drop_all}
use Rattle.plant_core.proofs.Acting.{next_left}
use Rattle.plant_core.proofs.Linking.{each_at, each_count, each_map}

-- the lowest connection from a place on, by whether the one there has an other entry
pub lowest_from : (i : ℕ) (confs : List LinkConf) (links : List LinkView) (v : LinkView) (steps : List JournalStep) (found : Bool) (lowest : Option ℕ) → AllNoted confs links steps → lowest_other (i + 1) (drop i confs) steps ≡ lowest
    → i < length links → v ≡ get_or links i v → ((w : List Entry) → v.monitor ≡ view_of w → found ≡ is_some (first_other w)) → (if found then Some (i + 1) else lowest_other (i + 1 + 1) (drop (i + 1) confs) steps) ≡ lowest
lowest_from i confs links v steps found lowest h before within read tells =
    let at = slice_get_read links (length links) i v refl within read in
    let beside = each_at (λ k link v. v.monitor ≡ view_of (pair link k steps)) 1 confs links i (i + 1) v h at (omega arith) in
    let next = next_left confs i beside.link beside.is in
    let found_is = tells (pair beside.link (i + 1) steps) beside.holds in
    let number : i + 1 + 1 ≡ suc (i + 1) = omega arith in
    rw (found_is, number) (rw next at before)

pub none_from : (i : ℕ) (confs : List LinkConf) (links : List LinkView) (steps : List JournalStep) → AllNoted confs links steps → length links ≤ i → lowest_other (i + 1) (drop i confs) steps ≡ None
none_from i confs links steps h past =
    let count = each_count (λ k link v. v.monitor ≡ view_of (pair link k steps)) 1 confs links h in
    rw (drop_all i confs (omega arith))

pub other_told : (v : PlantView) (told : Option ℕ) → ((confs : List LinkConf) (steps : List JournalStep) → AllNoted confs v.links steps → told ≡ lowest_other 1 confs steps) → TellsOther v told
other_told v told h = record {
  tells = λ b acts s.
      h b.links v.journal (each_map (LinkIs (λ j. is_cut j acts) (pairs_by v.journal)) (λ k link l. l.monitor ≡ view_of (pair link k v.journal)) 1 b.links v.links s.has_done.links (λ k link l p. p.stands.monitor));
}
