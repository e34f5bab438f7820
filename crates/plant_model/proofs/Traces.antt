-- What the uses of a channel make of what it tells.
use Rattle.plant_model.proofs.Common.{Begin, EmptiesRose, GivesHeld, GrewBy, IfSome, None, Option, Parcel, Pull, Push, RoseBy, Some, ToldHolds, ToldLists, Trace, Use, common_steps, cond, empty_pulls, gifts, option_map, option_to_list, pushes, sum_by-append}
use Rattle.std.proofs.Common.{◌≡◌, ℕ, ◌+◌, ◌≤◌, List, [], ◌∷◌, ◌++◌, sym, ap, subst, ◌∙◌, arith, rules}
use Rattle.std.specs.Prelude.{is_none}
use Rattle.fsoe_io.specs.Faults.{Rose}
use Rattle.black_channel.specs.Holds.{Holds}
use Rattle.black_channel.specs.Told.{ChannelTold, GrowsByGift}
use Rattle.plant_model.specs.Gifts.{pulls}

no_more : (told : Option (List Parcel)) → GrewBy [] told told
no_more told = grind (arith, common_steps)

grown : (a b : List Parcel) (old mid new : Option (List Parcel)) → GrewBy a old mid → GrewBy b mid new → GrewBy (a ++ b) old new
grown a b old mid new h k = grind (arith, common_steps)

by_gift : (gift : Option Parcel) (old new : Option (List Parcel)) → GrowsByGift gift old new → GrewBy (option_to_list gift) old new
by_gift gift old new h = search rules

pub told_lists : (uses : List Use) (old new : ChannelTold) → Trace uses old new → ToldLists uses old new
told_lists [] old new e = subst (ToldLists [] old) e (record { pushed = no_more old.pushed; given = no_more old.given })
told_lists (Begin seed ∷ uses) old new t = let rest = told_lists uses t.0 new t.2 in search (rules, grown)
told_lists (Push parcel ∷ uses) old new t =
    let rest = told_lists uses t.0 new t.2 in
    record {
      pushed = grown (parcel ∷ []) (pushes uses) old.pushed t.0.pushed new.pushed t.1.pushed rest.pushed;
      given = subst (λ (z : Option (List Parcel)). GrewBy (gifts uses) z new.given) t.1.given rest.given;
    }
told_lists (Pull gift ∷ uses) old new t =
    let rest = told_lists uses t.0 new t.2 in
    record {
      pushed = subst (λ (z : Option (List Parcel)). GrewBy (pushes uses) z new.pushed) t.1.pushed rest.pushed;
      given = grown (option_to_list gift) (gifts uses) old.given t.0.given new.given (by_gift gift old.given t.0.given t.1.given) rest.given;
    }

-- what holds of what is made of a value
of_made : (P : Holds → Type 0) (f : Holds → Holds) (old new : Option Holds) → new ≡ option_map f old → IfSome new P → IfSome old (λ held. P (f held))
of_made P f None new e h = tt
of_made P f (Some held) new e h = subst (λ (z : Option Holds). IfSome z P) e h

both : (P Q : Holds → Type 0) (held : Option Holds) → IfSome held P → IfSome held Q → IfSome held (λ z. P z × Q z)
both P Q held h k = grind arith

made_twice : (f g : Holds → Holds) (old mid : Option Holds) → mid ≡ option_map f old → option_map g mid ≡ option_map (λ held. g (f held)) old
made_twice f g old mid h = grind arith

same_held : (held : Option Holds) → held ≡ option_map (λ z. z) held
same_held held = grind arith

no_pull : (held : Option Holds) → IfSome held (GivesHeld [])
no_pull held = grind arith

pub told_holds : (uses : List Use) (old new : ChannelTold) → Trace uses old new → ToldHolds uses old new
told_holds [] old new e = record { gives = no_pull old.holds; holds = ap (λ (z : ChannelTold). z.holds) (sym e) ∙ same_held old.holds }
told_holds (Pull gift ∷ uses) old new t = let rest = told_holds uses t.0 new t.2 in search (rules, both, made_twice)
told_holds (_ ∷ uses) old new t = let rest = told_holds uses t.0 new t.2 in search (rules, of_made, made_twice)

-- a pull that gave nothing counts, unless the count stays
one_rose : (gift : Option Parcel) (n all old mid new : ℕ) → all ≡ cond (is_none gift) 1 0 + n → old ≤ mid → (gift ≡ None → Rose old mid) → RoseBy n mid new → RoseBy all old new
one_rose gift n all old mid new is h k l = grind arith

pub empties_rose : (uses : List Use) (old new : ChannelTold) → Trace uses old new → EmptiesRose uses old new
empties_rose [] old new e = λ below. let same : old.empties ≡ new.empties = ap (λ (z : ChannelTold). z.empties) e in omega arith
empties_rose (Pull gift ∷ uses) old new t =
    let one = sum_by-append (λ g. cond (is_none g) 1 0) (gift ∷ []) (pulls uses) in
    one_rose gift (empty_pulls uses) (empty_pulls (Pull gift ∷ uses)) old.empties t.0.empties new.empties (omega (arith, one)) t.1.empties t.1.nothing (empties_rose uses t.0 new t.2)
empties_rose (_ ∷ uses) old new t =
    subst (λ (n : ℕ). RoseBy (empty_pulls uses) n new.empties) t.1.empties (empties_rose uses t.0 new t.2)
