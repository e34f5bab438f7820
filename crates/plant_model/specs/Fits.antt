-- Which events of the script the connections of a plant may have.
use Rattle.std.specs.Prelude.{suc, Option, None, slice_get, length, ℕ, ◌≤◌, IsSomeAnd, map, IsSome, List, ◌≡◌, zero}
use Rattle.plant_model.specs.declared.event.PlantEvent.TheVariants as plant_event
use Rattle.plant_model.specs.declared.event.PlantEvent.{PlantEvent}
use Rattle.fsoe_base.specs.declared.command.End.TheVariants as side
use Rattle.fsoe_base.specs.declared.lengths.Lengths.{Lengths}
use Rattle.fsoe_base.specs.LengthsOf.{length_of}
use Rattle.plant_conf.specs.declared.conf.LinkConf.{LinkConf}

-- the lengths of a connection
abbrev pub lengths_in : LinkConf → Lengths
lengths_in link = link.slave.lengths

-- the lengths of the connection with this number, from 1, if there is one
abbrev pub lengths_at : List Lengths → ℕ → Option Lengths
lengths_at lengths zero = None
lengths_at lengths (suc place) = slice_get lengths place

-- an event that connections with these lengths may have: its connection exists, a put has exactly as many bytes as the
-- slave sends, and a session id has 16 bits
abbrev pub Fits : List Lengths → PlantEvent → Type 0
Fits lengths plant_event.Tick = Unit {0}
Fits lengths (plant_event.Put link load) = IsSomeAnd (lengths_at lengths link) (λ ends. length load ≡ length_of ends side.Slave)
Fits lengths (plant_event.Hold link failsafe) = IsSome (lengths_at lengths link)
Fits lengths (plant_event.Local link) = IsSome (lengths_at lengths link)
Fits lengths (plant_event.Nonce link end id) = IsSome (lengths_at lengths link) × (id ≤ 65535)
Fits lengths (plant_event.Cut link cut) = IsSome (lengths_at lengths link)

-- an event of the script fits these connections
abbrev pub EventFits : List LinkConf → PlantEvent → Type 0
EventFits links event = Fits (map lengths_in links) event
