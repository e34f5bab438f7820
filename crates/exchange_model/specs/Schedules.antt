-- The words of schedules and of reports, for worked runs of both ends.
use Rattle.std.specs.Prelude.{ℕ, nat_eq, List, [], ◌∷◌, ◌++◌, codes, take, map, length, replicate, reverse, Bool, if◌then◌else◌}
use Rattle.std.specs.Cmp.Lexicographic.{pointwise}
use Rattle.std.specs.List.{flat_map}
use Rattle.hex.specs.Hex.{decode_of}
use Rattle.fsoe_base.specs.declared.command.End.TheVariants as side
use Rattle.fsoe_base.specs.declared.command.End.{End}
use Rattle.param_load.specs.declared.entry.Entry.{Entry}
use Rattle.param_load.specs.declared.entry.Move.{Move}
use Rattle.schedule_file.specs.PairEvent.{end_letter}
use Rattle.schedule_file.specs.declared.event.Event.{Event}
use Rattle.schedule_file.specs.declared.event.Event.TheVariants as event
use Rattle.entry_text.specs.EntryText.{entry_text}
pub use Rattle.end_model.specs.WorkedRuns.{master_values}
use Rattle.end_model.specs.WorkedRuns.{if_bytes, line}
use Rattle.exchange_model.specs.Ends.{same_end}

-- the frame so many back of those of the slave comes to the master
abbrev pub dm : ℕ → Event
dm back = event.Deliver side.Master back

-- the frame so many back of those of the master comes to the slave
abbrev pub ds : ℕ → Event
ds back = event.Deliver side.Slave back

-- the frame so many back of those of the master comes to the slave, one byte altered by a mask
abbrev pub altered_ds : ℕ → ℕ → ℕ → Event
altered_ds back pos mask = event.Altered side.Slave back pos mask

-- these bytes come to the slave, in hexadecimal
abbrev pub rs : List ℕ → Event
rs text = event.Raw side.Slave (if_bytes (decode_of text))

-- a tick of the master
abbrev pub tm : Event
tm = event.Tick side.Master

-- a tick of the slave
abbrev pub ts : Event
ts = event.Tick side.Slave

-- a load is put at the master, in hexadecimal
abbrev pub pm : List ℕ → Event
pm text = event.Put side.Master (if_bytes (decode_of text))

-- a load is put at the slave, in hexadecimal
abbrev pub ps : List ℕ → Event
ps text = event.Put side.Slave (if_bytes (decode_of text))

-- the slave is held, or held no more
abbrev pub hs : Bool → Event
hs failsafe = event.Hold side.Slave failsafe

-- the slave's nonce is set
abbrev pub ns : ℕ → Event
ns id = event.Nonce side.Slave id

-- a reset of the slave's own
abbrev pub zs : Event
zs = event.Local side.Slave

-- so many times the master's last frame comes to the slave, and then the slave's last to the master
abbrev pub rounds : ℕ → List Event
rounds n = flat_map (λ round. round) (replicate n (ds 1 ∷ dm 1 ∷ []))

-- a put at each end, the master's first tick, and a whole handshake with the first data of both ends
abbrev pub until_data : List Event
until_data = pm (codes "0100") ∷ ps (codes "8000") ∷ tm ∷ rounds 8

-- the line of an entry, after its number
abbrev pub pair_line : Entry → List ℕ
pair_line x = end_letter x.end ++ codes " " ++ line x

-- the lines of a run
abbrev pub pair_lines : List Entry → List (List ℕ)
pair_lines w = reverse (map pair_line w)

-- the lines of a run, without the frames that were sent
abbrev pub short_lines : List Entry → List (List ℕ)
short_lines w = reverse (map (λ x. end_letter x.end ++ codes " " ++ entry_text x.did x.state x.outputs []) w)

-- the numbers of bytes of the frames that were sent
abbrev pub sizes : List Entry → List ℕ
sizes w = reverse (map (λ x. length x.sent) w)

-- whether a line begins with a text
abbrev pub begins : List ℕ → List ℕ → Bool
begins text whole = pointwise nat_eq text (take (length text) whole)

-- whether lines begin with these texts, as many lines as texts
abbrev pub begin_with : List (List ℕ) → List (List ℕ) → Bool
begin_with texts wholes = pointwise begins texts wholes

-- what happened to one end, oldest first
abbrev pub moves : End → List Entry → List Move
moves which [] = []
moves which (x ∷ w) = if same_end which x.end then moves which w ++ (x.what ∷ []) else moves which w
