-- What a plant keeps of its connections before anything happened.
use Rattle.plant_core.proofs.Common.{All-cons, All-nil, AreMade, AreNoted, BoundSpec, Did, EachLink, Fixed, IsPlant, Lengths, LinkConf, LinkIs, LinkView, MultiValue, fixed_in, is_named, length-map, lengths_in, lengths_kept, links_made, new_link, pairs_by}
use Rattle.std.proofs.Common.{◌≡◌, ◌≤◌, ◌<◌, ◌+◌, ◌*◌, ℕ, suc, Bool, false, List, [], ◌∷◌, ◌++◌, drop, get_or, length, map, refl, ap, ◌∙◌, arith, rules}
use Rattle.std.proofs.lemmas.Grind.{common_steps}
use Rattle.std.proofs.lemmas.List.{append-nil, at_drop_more, drop_all}
use Rattle.multi_master.specs.Standing as multi
use Rattle.param_load.specs.declared.master_settings.MasterSettings.{MasterSettings}
use Rattle.plant_core.proofs.Linked.{new_stands}

-- the connections that are left make the rest
pub made_next : (bounds : List BoundSpec) (confs : List LinkConf) (i : ℕ) (conf : LinkConf) (aged : Bool) (old new all : List LinkView) (link : LinkView) → old ++ links_made (i + 1) bounds (drop i confs) ≡ all → conf ≡ get_or confs i conf → i < length confs
    → aged ≡ is_named bounds (i + 1) → link ≡ new_link aged conf → new ≡ old ++ link ∷ [] → new ++ links_made (i + 1 + 1) bounds (drop (i + 1) confs) ≡ all
made_next bounds confs i conf aged old new all link before at below named is more =
    let next = at_drop_more (links_made (i + 1) bounds) confs i conf below in
    grind (arith, common_steps, next)

-- those that are made are all, once none is left
pub made_all : (bounds : List BoundSpec) (confs : List LinkConf) (i : ℕ) (old all : List LinkView) → old ++ links_made (i + 1) bounds (drop i confs) ≡ all → length confs ≤ i → old ≡ all
made_all bounds confs i old all h past = rw (drop_all i confs past, append-nil old) at h

pub made_stand : (k : ℕ) (bounds : List BoundSpec) (links : List LinkConf) → EachLink (LinkIs (λ k. false) (pairs_by [])) k links (links_made k bounds links)
made_stand k bounds [] = tt
made_stand k bounds (link ∷ links) = (record { stands = new_stands (is_named bounds k) link; cut = refl }, made_stand (suc k) bounds links)

made_noted : (k : ℕ) (bounds : List BoundSpec) (confs : List LinkConf) → AreNoted (2 * 0) (links_made k bounds confs)
made_noted k bounds [] = All-nil (λ v. v.monitor.noted ≤ 2 * 0)
made_noted k bounds (conf ∷ confs) =
    All-cons (λ v. v.monitor.noted ≤ 2 * 0) (new_link (is_named bounds k) conf) (links_made (suc k) bounds confs) (omega arith) (made_noted (suc k) bounds confs)

pub made_count : (k : ℕ) (bounds : List BoundSpec) (confs : List LinkConf) → length (links_made k bounds confs) ≡ length confs
made_count k bounds [] = refl
made_count k bounds (conf ∷ confs) = ap suc (made_count (suc k) bounds confs)

pub made_ready : {A : Type 0} (master : MultiValue A) (settings : List MasterSettings) (links : List LinkView) (dids : List Did) (outs : List (List ℕ)) (bounds : List BoundSpec) (confs : List LinkConf) → AreMade bounds confs settings links dids outs
    → multi.settings_of master ≡ settings → length confs ≤ 64 → IsPlant master links dids outs 0
made_ready master settings links dids outs bounds confs made own most =
    let count : multi.links master ≡ length confs = ap length (own ∙ made.settings_are) ∙ length-map confs (λ (link : LinkConf). link.master) in
    search (rules, made_count, made_noted)

made_lengths : (k : ℕ) (bounds : List BoundSpec) (confs : List LinkConf) → lengths_kept (links_made k bounds confs) ≡ map lengths_in confs
made_lengths k bounds [] = refl
made_lengths k bounds (conf ∷ confs) = ap (λ (ls : List Lengths). conf.slave.lengths ∷ ls) (made_lengths (suc k) bounds confs)

-- the lengths are fixed
fixed_lengths : (vs : List LinkView) → lengths_kept vs ≡ map (λ (f : Fixed). f.lengths) (fixed_in vs)
fixed_lengths [] = refl
fixed_lengths (v ∷ vs) = ap (λ (ls : List Lengths). v.slave.kit.settings.lengths ∷ ls) (fixed_lengths vs)

pub lengths_made : (bounds : List BoundSpec) (confs : List LinkConf) (vs : List LinkView) → fixed_in vs ≡ fixed_in (links_made 1 bounds confs) → lengths_kept vs ≡ map lengths_in confs
lengths_made bounds confs vs h = search (rules, fixed_lengths, made_lengths)
