-- The applications that a script takes are among those that were handed in.
use Rattle.plant_model.proofs.Common.{AppsAreSpare, IfSome, Named, None, Option, Some, Taken, passed, said, said_with, take_app}
use Rattle.std.proofs.Common.{◌≡◌, ℕ, Bool, true, false, List, [], ◌∷◌, ◌++◌, if◌then◌else◌, refl, ap, subst}
use Rattle.std.specs.Str.{bytes_eq}
use Rattle.plant_model.specs.declared.event.PlantLine.{PlantLine}
use Rattle.plant_model.specs.declared.event.PlantLine.TheVariants as line

-- an application that is taken is one of those, and the others are left
abbrev IsOneOf : List Named → Taken → Type 0
IsOneOf spare taken = (before : List Named) × (one : Named) × (after : List Named) × (spare ≡ before ++ one ∷ after) × (one.app ≡ taken.app) × (taken.left ≡ before ++ after)

taken_or : (b : Bool) (first : Named) (others : List Named) (o : Option Taken) → IfSome o (IsOneOf others) → IfSome (if b then Some (record { app = first.app; left = others }) else passed first o) (IsOneOf (first ∷ others))
taken_or true first others o found = ([], first, others, refl, refl, refl)
taken_or false first others None found = tt
taken_or false first others (Some taken) found = (first ∷ found.0, found.1, found.2, ap (λ (z : List Named). first ∷ z) found.3, found.4, ap (λ (z : List Named). first ∷ z) found.5)

takes_one : (name : List ℕ) (spare : List Named) → IfSome (take_app name spare) (IsOneOf spare)
takes_one name [] = tt
takes_one name (first ∷ others) = taken_or (bytes_eq first.name name) first others (take_app name others) (takes_one name others)

spare_with : (o : Option Taken) (spare : List Named) (lines : List PlantLine) → IfSome o (IsOneOf spare) → ((left : List Named) → AppsAreSpare left (said left lines)) → AppsAreSpare spare (said_with o (λ left. said left lines))
spare_with None spare lines found later = tt
spare_with (Some taken) spare lines found later =
    (found.0, found.1, found.2, found.3, found.4, subst (λ (z : List Named). AppsAreSpare z (said taken.left lines)) found.5 (later taken.left))

pub apps_are_spare : (spare : List Named) (lines : List PlantLine) → AppsAreSpare spare (said spare lines)
apps_are_spare spare (line.Step event ∷ lines) = apps_are_spare spare lines
apps_are_spare spare (line.App name ∷ lines) = spare_with (take_app name spare) spare lines (takes_one name spare) (λ left. apps_are_spare left lines)
apps_are_spare spare _ = tt
