-- Files as texts under names, and counts of names.
use Rattle.std.proofs.Common.{◌≡◌, ◌≢◌, ◌+◌, ℕ, List, [], ◌∷◌, ◌++◌, refl, map, true, false, arith}
use Rattle.std.specs.Prelude.{String, Vec, find, string_bytes, bytes_eq, option_map, Some, cond, if◌then◌else◌, Ok, Err}
use Rattle.std.specs.declared.result.Result.{Result}
use Rattle.fsoe_io.specs.Calls.{has_failed}
use Rattle.fsoe_io.specs.declared.desk.LoadFault.{LoadFault}
use Rattle.fsoe_io.specs.declared.desk.LoadFault.TheVariants.{Failed, TooLong, Memory}
use Rattle.std.specs.declared.alloc.Global.{Global}
use Rattle.std.proofs.lemmas.Slice.Eq.{bytes_eq-Decides}
use Rattle.fsoe_io.specs.Desk.{Named, named, text_under, failed_loads}
use Rattle.fsoe_io.specs.Faults.{Rose}
use Rattle.std.proofs.lemmas.Grind.{common_steps}

-- the first text under a name is that of the first file of this name
pub text_of_file : (name : List ℕ) (files : List (String Global × Vec ℕ Global)) → text_under (map named files) name ≡ option_map (λ (file : String Global × Vec ℕ Global). file.1.items) (find (λ (file : String Global × Vec ℕ Global). bytes_eq (string_bytes file.0) name) files)
text_of_file name [] = refl
text_of_file name (file ∷ files) =
    elim (bytes_eq (string_bytes file.0) name) as (λ is.
    option_map (λ (one : Named). one.text) (cond is (Some (named file)) (find (λ (one : Named). bytes_eq one.name name) (map named files)))
    ≡ option_map (λ (one : String Global × Vec ℕ Global). one.1.items) (cond is (Some file) (find (λ (one : String Global × Vec ℕ Global). bytes_eq (string_bytes one.0) name) files))) [
      | true ↦ refl
      | false ↦ text_of_file name files
    ]

-- a failed load is one more of its name
failed_more : (failed : List (List ℕ)) (name : List ℕ) → failed_loads (failed ++ name ∷ []) name ≡ failed_loads failed name + 1
failed_more failed name = grind (arith, common_steps, bytes_eq-Decides)

-- and none of another name
failed_same : (failed : List (List ℕ)) (name other : List ℕ) → other ≢ name → failed_loads (failed ++ name ∷ []) other ≡ failed_loads failed other
failed_same failed name other h = grind (arith, common_steps, bytes_eq-Decides)

-- where just the loads that fail are noted, the count of this name rose if it failed
pub noted_rose : {T : Type 0} (failed now : List (List ℕ)) (name : List ℕ) (result : Result T LoadFault) → now ≡ (if has_failed result then failed ++ name ∷ [] else failed) → result ≡ Err Failed → Rose (failed_loads failed name) (failed_loads now name)
noted_rose failed now name result noted is = rw (noted, is) (omega (arith, failed_more failed name))

-- and no other
pub noted_same : {T : Type 0} (failed now : List (List ℕ)) (name other : List ℕ) (result : Result T LoadFault) → now ≡ (if has_failed result then failed ++ name ∷ [] else failed) → other ≢ name → failed_loads now other ≡ failed_loads failed other
noted_same failed now name other (Err Failed) noted h = rw noted (failed_same failed name other h)
noted_same failed now name other (Err TooLong) noted h = rw noted refl
noted_same failed now name other (Err Memory) noted h = rw noted refl
noted_same failed now name other (Ok text) noted h = rw noted refl
