-- Arrays whose values are all of one kind.
use Rattle.std.proofs.Common.{◌≡◌, ◌∙◌, List, [], ◌∷◌, ◌++◌, Option, Ok, Err, Result, arith, ap, is_some, length, map, refl, true}
use Rattle.std.specs.List.{filter_map, list_all}
use Rattle.std.proofs.lemmas.List.{length-map}
use Rattle.toml.specs.Data.{Data, as_table}
use Rattle.toml.specs.View.{view, items_of}
use Rattle.toml.specs.declared.value.Value.{Value}
use Rattle.plant_conf.specs.declared.fault.ConfFault.{ConfFault}
use Rattle.plant_conf.specs.Forms.{values_of}

pub values_of_items_of : (ds : List Data) → values_of (items_of ds) ≡ ds
values_of_items_of [] = refl
values_of_items_of (d ∷ ds) = ap (λ es. d ∷ es) (values_of_items_of ds)

-- what is read behind what was read before
abbrev pub after_read : {B : Type 0} → List B → Result (List B) ConfFault → Result (List B) ConfFault
after_read xs (Ok ys) = Ok (xs ++ ys)
after_read xs (Err e) = Err e

-- where each gives something, as many are given
length_given : {A B : Type 0} (f : A → Option B) (xs : List A) → list_all (λ x. is_some (f x)) xs ≡ true → length (filter_map f xs) ≡ length xs
length_given f [] h = refl
length_given f (x ∷ xs) h = grind (arith, length_given f xs)

pub length_tables : (vs : List Value) → list_all (λ d. is_some (as_table d)) (map view vs) ≡ true → length (filter_map as_table (map view vs)) ≡ length vs
length_tables vs h = length_given as_table (map view vs) h ∙ length-map vs view
