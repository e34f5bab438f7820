-- What it means that a master of many connections does what looking back over its calls says.
use Rattle.std.specs.Prelude.{◌≡◌, ◌≤◌, ℕ, ◌-◌, Bool, false, List, [], ◌∷◌, ◌++◌, map, length, All, slice_get, IfSome, IsTrue, Option, Some, option_map}
use Rattle.std.specs.List.{AllZip}
use Rattle.std.specs.Option.{option_map_or}
use Rattle.fsoe_base.specs.declared.did.Did.{Did}
use Rattle.failsafe_io.specs.declared.bit.Bit.{Bit}
use Rattle.param_load.specs.declared.entry.Move.TheVariants as move
use Rattle.param_load.specs.declared.master_settings.MasterSettings.{MasterSettings}
use Rattle.param_load.specs.Profile.{allows_id}
use Rattle.end_model.specs.Deed.{Deed}
use Rattle.end_model.specs.Setup.{OfMaster, sends}
use Rattle.master_core.specs.MasterView.{MasterView}
use Rattle.master_core.specs.Now.{is_due}
use Rattle.master_core.specs.Standing.{MasterIsAfter}
use Rattle.multi_master.specs.Connection.{Connection, next_deed, connection_outputs}
use Rattle.multi_master.specs.Calls.{Rule, AppView, Call, Deliver, Meant, IsSound, numbered_connection, cycle_in, meant, changed_by, app_view}

-- what a master of many connections is, with an application of any type: the masters in the order of the connections,
-- the application that runs, the inputs that it reads in a cycle, and the connections whose offers the last call
-- changed
pub record MultiValue (A : Type 0) : Type 0 where
  pub masters : List MasterView
  pub app : A
  pub inputs : List (List ℕ)
  pub changed : List ℕ

-- what contracts see of a master of many connections, with the application as what it means
pub record MultiView : Type 0 where
  pub masters : List MasterView
  pub app : AppView
  pub inputs : List (List ℕ)
  pub changed : List ℕ

-- what contracts see, by the rule, what is held and the guards of an application of this type
abbrev pub seen : {A : Type 0} → (A → Rule) → (A → List ℕ) → (A → Bit → Bit → Bool) → MultiValue A → MultiView
seen rule holds guards v = record { masters = v.masters; app = app_view rule holds guards v.app; inputs = v.inputs; changed = v.changed }

-- the settings of a master
abbrev pub settings_in : MasterView → MasterSettings
settings_in m = m.kit.settings

-- the safe data bytes of a master's frames
abbrev pub own_len : MasterView → ℕ
own_len m = sends (OfMaster m.kit.settings)

-- whether a master's frame is due
abbrev pub due_in : MasterView → Bool
due_in m = is_due m.state

-- the settings of each connection
abbrev pub settings_of : {A : Type 0} → MultiValue A → List MasterSettings
settings_of v = map settings_in v.masters

-- the settings of the connection with this number
abbrev pub settings_at : {A : Type 0} → MultiValue A → ℕ → Option MasterSettings
settings_at v link = slice_get (settings_of v) (link - 1)

-- the profile of the connection with this number allows this session id
abbrev pub AllowsId : {A : Type 0} → MultiValue A → ℕ → ℕ → Type 0
AllowsId v link id = IfSome (settings_at v link) (λ s. IsTrue (allows_id s.profile id))

-- the number of connections
abbrev pub links : {A : Type 0} → MultiValue A → ℕ
links v = length (settings_of v)

-- this is a number of so many connections
pub record IsNumber (count link : ℕ) : Type 0 where
  pub first : 1 ≤ link
  pub last : link ≤ count

-- there is a connection with this number
abbrev pub HasLink : {A : Type 0} → MultiValue A → ℕ → Type 0
HasLink v link = IsNumber (links v) link

-- these are numbers of so many connections, and no more than there are
pub record AreNumbers (count : ℕ) (listed : List ℕ) : Type 0 where
  pub few : length listed ≤ count
  pub each : All (IsNumber count) listed

-- no frame of a master is due, there is an input for each connection and an answer of the length of its master's
-- frames, there are at most 64 connections, and those whose offers changed are among them
pub record IsMulti (masters : List MasterView) (inputs answers : List (List ℕ)) (changed : List ℕ) : Type 0 where
  pub rest : All (λ m. due_in m ≡ false) masters
  pub inputs_fit : length inputs ≡ length masters
  pub answers_fit : map length answers ≡ map own_len masters
  pub most : length masters ≤ 64
  pub numbers : AreNumbers (length masters) changed

-- a master is where the deeds of its connection leave it
abbrev pub IsWhere : Connection → MasterView → Type 0
IsWhere c m = MasterIsAfter c.settings m c.deeds

-- the answer of each of these calls that ran a cycle is sound
abbrev pub AllSound : List MasterSettings → AppView → List Call → Type 0
AllSound settings app [] = Unit {0}
AllSound settings app (call ∷ calls) =
    IfSome (cycle_in call (meant settings app calls)) (IsSound (meant settings app (call ∷ calls))) × AllSound settings app calls

-- the offers that the newest call changed, and the numbers of their connections
abbrev pub changed : List MasterSettings → AppView → List Call → List (ℕ × List ℕ)
changed settings app [] = []
changed settings app (call ∷ calls) = changed_by (cycle_in call (meant settings app calls)) (meant settings app calls).connections

abbrev pub numbers_of : List (ℕ × List ℕ) → List ℕ
numbers_of changed = map (λ x. x.0) changed

-- it was made with these settings and this application, and stands for these calls: each master is where the deeds of
-- its connection leave it, the application is that which runs, its inputs are the masters' outputs, the changed offers
-- are told, and each cycle's answer was sound
pub record StandsFor (settings : List MasterSettings) (app : AppView) (v : MultiView) (calls : List Call) : Type 0 where
  pub masters : AllZip IsWhere (meant settings app calls).connections v.masters
  pub app_is : v.app ≡ (meant settings app calls).app
  pub inputs_are : v.inputs ≡ map connection_outputs (meant settings app calls).connections
  pub changed_are : v.changed ≡ numbers_of (changed settings app calls)
  pub sound : AllSound settings app calls

-- a connection with these settings was added, the last one: what was as it was made, for no calls, is so with it
pub record AddsNew (old : MultiView) (own : MasterSettings) (new : MultiView) : Type 0 where
  pub stands : (settings : List MasterSettings) (app : AppView) → StandsFor settings app old [] → StandsFor (settings ++ own ∷ []) app new []

-- what stood for some calls stands for these and this one
pub record Follows (old : MultiView) (call : Call) (new : MultiView) : Type 0 where
  pub stands : (settings : List MasterSettings) (app : AppView) (calls : List Call) → StandsFor settings app old calls
      → StandsFor settings app new (call ∷ calls)

-- the newest deed of the connection with this number, none where there is no such connection
abbrev pub newest_at : ℕ → Meant → Option Deed
newest_at link m = slice_get (option_map_or (λ c. c.deeds) (numbered_connection link m) []) 0

-- what is done with a frame, and the frame that is sent, are those of the newest deed of its connection
pub record AnswersFrame (old : MultiView) (link : ℕ) (bytes : List ℕ) (done : Did) (sent : List ℕ) : Type 0 where
  pub answers : (settings : List MasterSettings) (app : AppView) (calls : List Call) → StandsFor settings app old calls
      → newest_at link (meant settings app (Deliver link bytes ∷ calls)) ≡ Some (record { what = move.Deliver bytes; did = done; sent = sent })

-- what each connection does at a tick, and the frame that it sends, are those of its next deed
pub record AnswersTick (old : MultiView) (done : List Did) (frames : List (List ℕ)) : Type 0 where
  pub dids : (settings : List MasterSettings) (app : AppView) (calls : List Call) → StandsFor settings app old calls
      → done ≡ map (λ c. (next_deed move.Tick c).did) (meant settings app calls).connections
  pub sent : (settings : List MasterSettings) (app : AppView) (calls : List Call) → StandsFor settings app old calls
      → frames ≡ map (λ c. (next_deed move.Tick c).sent) (meant settings app calls).connections

-- what is shown of a connection is this word of it
pub record ShowsAt {X : Type 0} (v : MultiView) (link : ℕ) (shown : X) (word : Connection → X) : Type 0 where
  pub shows : (settings : List MasterSettings) (app : AppView) (calls : List Call) → StandsFor settings app v calls
      → option_map word (numbered_connection link (meant settings app calls)) ≡ Some shown

-- what a reset of a connection does, and the frame that it sends, are those of its next deed
abbrev pub AnswersReset : MultiView → ℕ → Did → List ℕ → Type 0
AnswersReset old link done sent = ShowsAt old link (record { what = move.Local; did = done; sent = sent }) (next_deed move.Local)

-- what is shown is this word of the application that runs
pub record ShowsApp {X : Type 0} (v : MultiView) (shown : X) (word : AppView → X) : Type 0 where
  pub shows : (settings : List MasterSettings) (app : AppView) (calls : List Call) → StandsFor settings app v calls
      → shown ≡ word (meant settings app calls).app

-- the connections are told whose offers the newest call changed
pub record ShowsChanged (v : MultiView) (shown : List ℕ) : Type 0 where
  pub shows : (settings : List MasterSettings) (app : AppView) (calls : List Call) → StandsFor settings app v calls
      → shown ≡ numbers_of (changed settings app calls)
