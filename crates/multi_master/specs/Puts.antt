-- What new masters are, how a cycle is run and its answers are put, master by master, and how all masters tick. A frame
-- of a master may be due while answers are put. Contracts of private functions alone rest on these words.
use Rattle.std.specs.Prelude.{◌≡◌, ℕ, suc, nat_eq, Bool, true, false, not, List, [], ◌∷◌, ◌++◌, map, length, All, Option, Some, None, if◌then◌else◌}
use Rattle.std.specs.List.{AllZip}
use Rattle.std.specs.Cmp.Lexicographic.{pointwise}
use Rattle.fsoe_base.specs.declared.did.Cause.{Cause}
use Rattle.fsoe_base.specs.declared.did.Did.{Did}
use Rattle.failsafe_io.specs.Application.{Answer, GuardsBy}
use Rattle.param_load.specs.declared.entry.Move.TheVariants as move
use Rattle.param_load.specs.declared.master_settings.MasterSettings.{MasterSettings}
use Rattle.end_model.specs.Outputs.{out}
use Rattle.end_model.specs.Readiness.{offer}
use Rattle.master_core.specs.MasterView.{MasterView}
use Rattle.master_core.specs.Standing.{Follows, Answers, Shows}
use Rattle.master_core.specs.Waiting.{Keeps, ShowsDue}
use Rattle.multi_master.specs.Connection.{new_connection, connection_outputs}
use Rattle.multi_master.specs.Calls.{AppView}
use Rattle.multi_master.specs.Standing.{IsWhere, due_in, own_len, settings_in}

-- new masters with these settings, their outputs, and answers of the lengths of their frames; no offer was changed
pub record AreNew (settings : List MasterSettings) (masters : List MasterView) (inputs answers : List (List ℕ)) (changed : List ℕ) : Type 0 where
  pub stand : AllZip IsWhere (map new_connection settings) masters
  pub settings_are : map settings_in masters ≡ settings
  pub rest : All (λ m. due_in m ≡ false) masters
  pub inputs_are : inputs ≡ map connection_outputs (map new_connection settings)
  pub answers_fit : map length answers ≡ map own_len masters
  pub unchanged : changed ≡ []

-- a new master with these settings comes last, with its outputs and an answer of the length of its frames
pub record AddsOne (own : MasterSettings) (masters : List MasterView) (inputs answers : List (List ℕ)) (now : List MasterView) (read room : List (List ℕ)) : Type 0 where
  pub last : MasterView
  pub answer : List ℕ
  pub stands : IsWhere (new_connection own) last
  pub settings_are : settings_in last ≡ own
  pub rests : due_in last ≡ false
  pub answer_fits : length answer ≡ own_len last
  pub masters_are : now ≡ masters ++ last ∷ []
  pub inputs_are : read ≡ inputs ++ connection_outputs (new_connection own) ∷ []
  pub answers_are : room ≡ answers ++ answer ∷ []

-- a load was put, whether or not a frame is due, or nothing was
abbrev pub MayBePut : Bool → MasterView → List ℕ → MasterView → Type 0
MayBePut true old load new = Follows old (move.Put load) new × Keeps old (move.Put load) new
MayBePut false old load new = new ≡ old

-- an answer is put at a master where it isn't what is shown as the offer, and it is told whether it wasn't
pub record PutsAnswer (old : MasterView) (answer : List ℕ) (new : MasterView) (told : Bool) : Type 0 where
  pub shown : List ℕ
  pub shows : Shows old shown offer
  pub shows_due : ShowsDue old shown offer
  pub told_is : told ≡ not (pointwise nat_eq shown answer)
  pub put : MayBePut told old answer new
  pub settings : settings_in new ≡ settings_in old
  pub due : due_in new ≡ due_in old

-- each answer is put at its master where it isn't the offer, and the numbers of these, from n on, are told
abbrev pub PutsEach : ℕ → List MasterView → List (List ℕ) → List MasterView → List ℕ → Type 0
PutsEach n [] [] [] told = told ≡ []
PutsEach n (old ∷ before) (answer ∷ answers) (new ∷ after) told =
    (here : Bool) × (later : List ℕ) × PutsAnswer old answer new here × PutsEach (suc n) before answers after later × (told ≡ (if here then n ∷ later else later))
PutsEach n _ _ _ told = ⊥

-- a cycle is run with this answer, and each part of it is put: the application that runs guards it, and holds then what
-- it says
pub record RunsBy (a : Answer) (old : AppView) (inputs : List (List ℕ)) (before : List MasterView) (new : AppView) (put : List MasterView) (changed : List ℕ) : Type 0 where
  pub app_is : new ≡ record old { holds = a.holds }
  pub guarded : GuardsBy old.guards inputs a.outputs
  pub puts : PutsEach 1 before a.outputs put changed

-- so with what the application answers by its rule
abbrev pub RunsCycle : AppView → Bool → List (List ℕ) → List MasterView → AppView → List MasterView → List ℕ → Type 0
RunsCycle old ticked inputs before new put changed = RunsBy (old.rule old.holds ticked inputs (map own_len before)) old inputs before new put changed

-- a master's outputs are read anew, or stay as they were read
abbrev pub MayBeRead : Option Cause → MasterView → List ℕ → List ℕ → Type 0
MayBeRead (Some why) m before after = Shows m after out
MayBeRead None m before after = after ≡ before

-- a master ticks: its outputs, as they were read before and are then, are read where a session ended
pub record TicksOne (old : MasterView) (before : List ℕ) (new : MasterView) (after : List ℕ) (did : Did) (sent : List ℕ) : Type 0 where
  pub follows : Follows old move.Tick new
  pub answers : Answers old move.Tick did sent
  pub read : MayBeRead did.reset new before after
  pub settings : settings_in new ≡ settings_in old
  pub rest : due_in new ≡ false

-- each master ticks
abbrev pub TicksEach : List MasterView → List (List ℕ) → List MasterView → List (List ℕ) → List Did → List (List ℕ) → Type 0
TicksEach [] [] [] [] [] [] = Unit {0}
TicksEach (old ∷ olds) (before ∷ inputs) (new ∷ news) (after ∷ read) (did ∷ dids) (frame ∷ sent) = TicksOne old before new after did frame × TicksEach olds inputs news read dids sent
TicksEach _ _ _ _ _ _ = ⊥
