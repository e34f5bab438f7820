-- One connection of a master of many: what its own master is set to, and what that did, newest first.
use Rattle.std.specs.Prelude.{ℕ, nat_eq, Bool, List, [], ◌∷◌, if◌then◌else◌}
use Rattle.std.specs.Cmp.Lexicographic.{pointwise}
use Rattle.param_load.specs.declared.entry.Move.{Move}
use Rattle.param_load.specs.declared.entry.Move.TheVariants as move
use Rattle.param_load.specs.declared.master_settings.MasterSettings.{MasterSettings}
use Rattle.end_model.specs.Setup.{Setup, OfMaster, sends}
use Rattle.end_model.specs.Deed.{Deed}
use Rattle.end_model.specs.Outputs.{out}
use Rattle.end_model.specs.Readiness.{offer}
use Rattle.end_model.specs.Step.{step}

pub record Connection : Type 0 where
  pub settings : MasterSettings
  pub deeds : List Deed

-- a connection at which nothing happened yet
abbrev pub new_connection : MasterSettings → Connection
new_connection settings = record { settings = settings; deeds = [] }

-- what its master is set to
abbrev pub setup : Connection → Setup
setup c = OfMaster c.settings

-- what its master does at this event
abbrev pub next_deed : Move → Connection → Deed
next_deed what c = step (setup c) c.deeds what

-- the connection after this event
abbrev pub with_event : Move → Connection → Connection
with_event what c = record c { deeds = next_deed what c ∷ c.deeds }

-- the outputs of its master, which are the inputs of an application
abbrev pub connection_outputs : Connection → List ℕ
connection_outputs c = out (setup c) c.deeds

-- what was put last, which the next data frame carries
abbrev pub offer_at : Connection → List ℕ
offer_at c = offer (setup c) c.deeds

-- the safe data bytes of an offer
abbrev pub offer_len : Connection → ℕ
offer_len c = sends (setup c)

-- whether these are the bytes of the offer
abbrev pub is_offer : List ℕ → Connection → Bool
is_offer load c = pointwise nat_eq (offer_at c) load

-- an answer is put where it isn't the offer already
abbrev pub with_offer : List ℕ → Connection → Connection
with_offer load c = if is_offer load c then c else with_event (move.Put load) c

-- so at each connection, answer by answer
abbrev pub with_offers : List (List ℕ) → List Connection → List Connection
with_offers (load ∷ loads) (c ∷ cs) = with_offer load c ∷ with_offers loads cs
with_offers _ cs = cs
