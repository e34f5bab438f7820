-- What a plant shows by the number of a connection, which may not exist.
use Rattle.plant_core.proofs.Common.{Act, Beginning, BoundSpec, EachLink, End, Entry, IfSome, LinkConf, LinkIs, LinkStands, LinkView, PlantStands, PlantView, Shows, ShowsApp, ShowsOn, ShowsWorst, TellsStill, Unset, bit_of, calls, deeds, is_cut, is_drive_guarded, journal, kept_at, link_at, next_offered, of_end, offers_bit, option_copied, option_map_or, out, end_outputs, pair, pairs_by, settings, slice_get_past, slice_get_read}
use Rattle.std.proofs.Common.{Bor, ◌≡◌, ◌≤◌, ◌-◌, ◌&&◌, ℕ, zero, suc, Bool, false, not, List, [], ◌∷◌, slice_get, Option, Some, None, refl, sym, ap, ◌∙◌, arith, rules}
use Rattle.std.specs.Slice.{IsItemAt}
use Rattle.fsoe_base.specs.declared.command.End.TheVariants as side
use Rattle.failsafe_io.specs.declared.bit.Bit.{Bit}
use Rattle.reaction_bound.specs.Age.{told_age, worst_of}
use Rattle.reaction_bound.specs.Ages as ages
use Rattle.plant_core.proofs.Linking.{each_at}

-- what a look-up of an element gives
pub item_copied : {X : Type 0} (xs : List X) (i : ℕ) (r : Option (Bor X)) → IsItemAt xs i r → option_copied r ≡ slice_get xs i
item_copied xs i r h = search (rules, slice_get_past, slice_get_read)

-- what is kept of a connection by its place
pub kept_by : (vs : List LinkView) (k from : ℕ) → from ≡ k → 1 ≤ k → slice_get vs (from - 1) ≡ kept_at vs k
kept_by vs k from h l = grind arith

-- there is no more kept than there are connections
none_kept : (P : ℕ → LinkConf → LinkView → Type 0) (k : ℕ) (links : List LinkConf) (vs : List LinkView) (place : ℕ) → EachLink P k links vs → slice_get vs place ≡ None → slice_get links place ≡ None
none_kept P k [] [] place h e = refl
none_kept P k (link ∷ links) (v ∷ vs) zero h e = absurd (cc e)
none_kept P k (link ∷ links) (v ∷ vs) (suc place) h e = none_kept P (suc k) links vs place h.1 e
none_kept P k _ _ place h e = absurd h

-- what is kept of a connection, if there is one
missing : (b : Beginning) (v : PlantView) (acts : List Act) (k : ℕ) → PlantStands b v acts → kept_at v.links k ≡ None → link_at b.links k ≡ None
missing b v acts k h l = search (rules, none_kept)

pub record Found (b : Beginning) (v : PlantView) (acts : List Act) (k : ℕ) (l : LinkView) : Type 0 where
  pub link : LinkConf
  pub is : link_at b.links k ≡ Some link
  pub kept : LinkIs (λ j. is_cut j acts) (pairs_by v.journal) k link l

pub found : (b : Beginning) (v : PlantView) (acts : List Act) (k : ℕ) (l : LinkView) → PlantStands b v acts → kept_at v.links k ≡ Some l → Found b v acts k l
found b v acts zero l h e = absurd (cc e)
found b v acts (suc place) l h e =
    let beside = each_at (LinkIs (λ j. is_cut j acts) (pairs_by v.journal)) 1 b.links v.links place (suc place) l h.has_done.links e (omega arith) in
    record { link = beside.link; is = beside.is; kept = beside.holds }

-- what is shown of a connection is this word of its slave and of its pair
shown_of : {X : Type 0} (v : PlantView) (k : ℕ) (l : LinkView) (shown other : X) (word : LinkConf → List Entry → X) → Some l ≡ kept_at v.links k → ((link : LinkConf) (w : List Entry) → LinkStands link l w → shown ≡ word link w)
    → (b : Beginning) (acts : List Act) → PlantStands b v acts → shown ≡ option_map_or (λ link. word link (pair link k v.journal)) (link_at b.links k) other
shown_of v k l shown other word at s b acts h =
    let f = found b v acts k l h (sym at) in
    rw f.is (s f.link (pair f.link k v.journal) f.kept.stands)

-- and the other value, if there is none
other_shown : {X : Type 0} (v : PlantView) (k : ℕ) (other : X) (word : LinkConf → X) → kept_at v.links k ≡ None → (b : Beginning) (acts : List Act) → PlantStands b v acts → other ≡ option_map_or word (link_at b.links k) other
other_shown v k other word at b acts h = rw (missing b v acts k h at)

pub worst_shown : (v : PlantView) (k : ℕ) (l : LinkView) (end : End) (shown : Option ℕ) → Some l ≡ kept_at v.links k → ((w : List Entry) → IfSome l.ages (λ a. a ≡ ages.view_of w) → shown ≡ told_age (worst_of end w)) → ShowsWorst v k end shown
worst_shown v k l end shown at s = record { shows = shown_of v k l shown None (λ link w. told_age (worst_of end w)) at (λ link w h. s w h.ages) }

pub no_worst : (v : PlantView) (k : ℕ) (end : End) → None ≡ kept_at v.links k → ShowsWorst v k end None
no_worst v k end at = record { shows = other_shown v k None _ (sym at) }

pub on_shown : (v : PlantView) (bit : Bit) (l : LinkView) (outputs : List ℕ) (shown : Bool) → Some l ≡ kept_at v.links bit.link → Shows l.slave outputs out → shown ≡ bit_of outputs bit.bit → ShowsOn v bit shown
on_shown v bit l outputs shown at s e = record {
  shows = shown_of v bit.link l shown false (λ link w. bit_of (end_outputs link side.Slave w) bit.bit) at (λ link w h. e ∙ ap (λ (z : List ℕ). bit_of z bit.bit) (s.shows link.slave (deeds side.Slave w) h.slave));
}

pub not_on : (v : PlantView) (bit : Bit) → None ≡ kept_at v.links bit.link → ShowsOn v bit false
not_on v bit at = record { shows = other_shown v bit.link false _ (sym at) }

-- the e-stop of a connection that there isn't is off
pub still_without : (v : PlantView) (bound : BoundSpec) (guarded : Bool) → None ≡ kept_at v.links bound.estop.link → ShowsApp v.master guarded (λ app. app.guards bound.drive bound.estop) → TellsStill v bound guarded
still_without v bound guarded none s = record {
  tells = λ b acts h.
      s.shows (settings b) b.app (calls b acts) h.has_done.master
      ∙ sym (ap (λ (o : Option LinkConf). not (offers_bit bound.estop.bit (option_map_or (λ link. next_offered (of_end side.Slave (pair link bound.estop.link (journal b acts)))) o Unset)) && is_drive_guarded b bound acts) (missing b v acts bound.estop.link h (sym none)));
}
