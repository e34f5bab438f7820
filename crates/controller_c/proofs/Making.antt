-- A controller that is made, call by call.
use Rattle.std.proofs.Common.{◌≡◌, ◌≢◌, ◌≤◌, ◌<◌, option_map, slice_get, take, ◌+◌, ◌-◌, ℕ, List, [], ◌∷◌, ◌++◌, length, Bool, false, true, Option, Some, None, IfSome, map, if◌then◌else◌, refl, sym, ap, subst, ◌∙◌, arith}
use Rattle.std.proofs.lemmas.Grind.{common_steps}
use Rattle.std.proofs.lemmas.List.{map-append}
use Rattle.std.proofs.lemmas.List.Elements.{All-push}
use Rattle.multi_master.proofs.Looping.{next_taken}
use Rattle.fb_net.specs.New.{IsNew}
use Rattle.fb_net.specs.NetView.{NetView}
use Rattle.fb_net.specs.BlockSpec.{BlockSpec}
use Rattle.fb_net.specs.declared.spec.Drive.{Drive}
use Rattle.fsoe_base.specs.declared.did.Did.{Did}
use Rattle.param_load.specs.declared.master_settings.MasterSettings.{MasterSettings}
use Rattle.multi_master.specs.Standing.{AddsNew, MultiValue, StandsFor, settings_of}
use Rattle.multi_master.specs.New.{first_fault, ids_fault}
use Rattle.multi_master.specs.declared.fault.NewFault.{NewFault}
use Rattle.multi_master.specs.declared.fault.NewFault.TheVariants as fault
use Rattle.c_values.specs.Settings.{IsMasterSetBy, master_refusal}
use Rattle.c_values.specs.declared.settings.GpMasterSettings.{GpMasterSettings}
use Rattle.controller_c.specs.declared.counts.GpCounts.{GpCounts}
use Rattle.controller_c.specs.ControllerView.{ControllerView, IsController, app_of_net, masters_of}
use Rattle.c_values.specs.declared.numbers.TheConstants.{OK}
use Rattle.controller_c.specs.declared.numbers.TheConstants.{NO_MEMORY}
use Rattle.controller_c.specs.Handle.{answer_by}
use Rattle.controller_c.specs.Making.{connect_answer, connection_number, fault_with}

-- one connection more, which has a result of a tick
pub one_more : (own : MasterSettings) (was now : MultiValue NetView) (blocks : List BlockSpec) (drives : List Drive) (running : Bool) (had dids : List Did) (sent frames : List (List ℕ)) (counted counts : List GpCounts) (d : Did) (f : List ℕ) (g : GpCounts) → IsController was blocks drives running had sent counted
    → settings_of now ≡ settings_of was ++ own ∷ [] → now.app ≡ was.app → AddsNew (masters_of was) own (masters_of now) → dids ≡ had ++ d ∷ [] → frames ≡ sent ++ f ∷ [] → counts ≡ counted ++ g ∷ []
    → IsController now blocks drives running dids frames counts
one_more own was now blocks drives running had dids sent frames counted counts d f g is s a adds ds fs gs =
    let dids_were = is.dids_fit in
    let frames_were = is.frames_fit in
    let counts_were = is.counts_fit in
    record {
      dids_fit = grind (arith, common_steps);
      frames_fit = grind (arith, common_steps);
      counts_fit = grind (arith, common_steps);
      few_blocks = is.few_blocks;
      new_blocks = is.new_blocks;
      few_drives = is.few_drives;
      unbegun = λ off. rw s (subst (λ (net : NetView). StandsFor (settings_of was ++ own ∷ []) (app_of_net net) (masters_of now) []) (sym a) (adds.stands (settings_of was) (app_of_net was.app) (is.unbegun off)));
    }

-- a block more
pub one_block : (multi : MultiValue NetView) (blocks all : List BlockSpec) (drives : List Drive) (running : Bool) (dids : List Did) (frames : List (List ℕ)) (counts : List GpCounts) (b : BlockSpec) → IsController multi blocks drives running dids frames counts → IsNew b
    → all ≡ blocks ++ b ∷ [] → length blocks < 256 → IsController multi all drives running dids frames counts
one_block multi blocks all drives running dids frames counts b is new e few = rw e (record {
  dids_fit = is.dids_fit;
  frames_fit = is.frames_fit;
  counts_fit = is.counts_fit;
  few_blocks = grind (arith, common_steps);
  new_blocks = All-push IsNew blocks b is.new_blocks new;
  few_drives = is.few_drives;
  unbegun = is.unbegun;
})

-- what is listed of the first places, and of the next one
pub one_listed : {X : Type 0} (f : X → ℕ) (xs : List X) (listed all : List ℕ) (place number n : ℕ) (x : X) → listed ≡ map f (take place xs) → slice_get xs (number - 1) ≡ Some x → number ≡ place + 1 → all ≡ listed ++ n ∷ [] → n ≡ f x
    → all ≡ map f (take (place + 1) xs)
one_listed f xs listed all place number n x were there next e is =
    let at : slice_get xs place ≡ Some x = subst (λ (k : ℕ). slice_get xs k ≡ Some x) (omega arith) there in
    e ∙ rw (next_taken xs place x at, map-append f (take place xs) (x ∷ []), were, is) refl

-- a fault is told by its number, or no memory where there is none
pub record TellsFault (number wanted : ℕ) : Type 0 where
  pub otherwise : number ≢ NO_MEMORY → number ≡ wanted
  pub memory : number ≡ NO_MEMORY → wanted ≡ OK

-- connection ids have no fault of memory
ids_alone : (many : Bool) (two : Option (ℕ × ℕ)) → (if many then Some fault.TooMany else option_map (λ (pair : ℕ × ℕ). fault.SameConn pair.0 pair.1) two) ≡ Some fault.Memory → ⊥
ids_alone true two h = absurd (cc h)
ids_alone false None h = absurd (cc h)
ids_alone false (Some pair) h = absurd (cc h)

-- the first fault of the connection ids is told, or no memory where there is none
told_so : (number wanted : ℕ) → number ≡ wanted → NO_MEMORY < wanted → TellsFault number wanted
told_so number wanted e more = record { otherwise = λ _. e; memory = λ m. absurd (omega arith) }

told : (o : Option NewFault) (found : NewFault) → (o ≡ Some fault.Memory → ⊥) → IfSome o (λ first. Some found ≡ Some first) → (o ≡ None → found ≡ fault.Memory) → TellsFault (connection_number (Some found)) (connection_number o)
told None found never is alone = record { otherwise = λ other. absurd (other (ap (λ f. connection_number (Some f)) (alone refl))); memory = λ _. refl }
told (Some fault.TooMany) found never is alone = told_so _ _ (ap connection_number is) (omega arith)
told (Some (fault.SameConn a b)) found never is alone = told_so _ _ (ap connection_number is) (omega arith)
told (Some fault.Memory) found never is alone = absurd (never refl)

fault_is : (old : ControllerView) (own : MasterSettings) (conn : ℕ) → own.conn ≡ conn → first_fault (settings_of old.multi ++ own ∷ []) ≡ fault_with old conn
fault_is old own conn e = ap ids_fault (map-append (λ s. s.conn) (settings_of old.multi) (own ∷ []) ∙ ap (λ n. map (λ s. s.conn) (settings_of old.multi) ++ n ∷ []) e)

-- so a connection is refused
pub refused : (place : Option ControllerView) (old : ControllerView) (set : GpMasterSettings) (given app : List ℕ) (own : MasterSettings) (found : NewFault) → place ≡ Some old → old.running ≡ false → (512 < length app → Some given ≡ None)
    → master_refusal set ≡ 0 → IsMasterSetBy set given own → IfSome (first_fault (settings_of old.multi ++ own ∷ [])) (λ first. Some found ≡ Some first) → (first_fault (settings_of old.multi ++ own ∷ []) ≡ None → found ≡ fault.Memory)
    → TellsFault (connection_number (Some found)) (answer_by place (connect_answer set app))
refused place old set given app own found there idle some good set_so is alone =
    let short : length app ≤ 512 = grind arith in
    let fault : first_fault (settings_of old.multi ++ own ∷ []) ≡ fault_with old set.conn = fault_is old own set.conn set_so.1.conn_is in
    let answer : answer_by place (connect_answer set app) ≡ connection_number (fault_with old set.conn) = rw (there, idle, good) (grind arith) in
    rw answer (told (fault_with old set.conn) found (ids_alone _ _) (rw fault at is) (rw fault at alone))
