-- What a monitor keeps of the items of both ends, and how an entry changes it.
use Rattle.std.specs.Prelude.{ℕ, suc, ◌≡◌, nat_eq, List, ◌∷◌, length, Bool, false, ◌&&◌, not, Option, Some, None, is_some, if◌then◌else◌}
use Rattle.std.specs.Cmp.Lexicographic.{pointwise}
use Rattle.fsoe_base.specs.declared.command.End.{End}
use Rattle.fsoe_base.specs.declared.command.End.TheVariants as side
use Rattle.fsoe_base.specs.declared.command.Command.TheVariants as command
use Rattle.fsoe_base.specs.declared.did.Did.{Did}
use Rattle.fsoe_base.specs.declared.did.Took.{Took}
use Rattle.param_load.specs.declared.entry.Entry.{Entry}
use Rattle.end_model.specs.Phases.{is_guarded_command, is_guarded_frame, has_command}
use Rattle.end_model.specs.Deed.{delivered, is_empty}
use Rattle.exchange_model.specs.declared.side.Sent.{Sent}
use Rattle.exchange_model.specs.Ends.{same_end}
use Rattle.exchange_model.specs.Items.{Item, newest, items_of, items, awaited, answers_to}
use Rattle.exchange_model.specs.Other.{first_of_both, first_other}

-- an item by its number and its bytes
abbrev pub sent_of : Option Item → Option Sent
sent_of None = None
sent_of (Some i) = Some (record { number = i.number; bytes = i.bytes })

-- what is kept of an end: its newest item, and an item that is awaited
pub record Side : Type 0 where
  pub newest : Option Sent
  pub awaited : Option Sent

-- so it is after these items, with the item that the end awaits
abbrev pub kept_of : End → List Item → Side
kept_of which found = record { newest = sent_of (newest (items_of which found)); awaited = sent_of (awaited found which) }

-- so it is where of each end that item is kept that its peer awaits
abbrev pub side_by : Side → Side → Side
side_by own peer = record { newest = own.newest; awaited = peer.awaited }

-- what contracts see of a monitor: the entries that it noted, the number of the first other entry, and what it keeps
-- of each end
pub record MonitorView : Type 0 where
  pub noted : ℕ
  pub other : Option ℕ
  pub master : Side
  pub slave : Side

-- a monitor that noted these entries
abbrev pub view_of : List Entry → MonitorView
view_of w = record { noted = length w; other = first_other w; master = kept_of side.Master (items w); slave = kept_of side.Slave (items w) }

-- a monitor that had noted some entries has noted this one too
pub record NotesEntry (old : MonitorView) (x : Entry) (new : MonitorView) : Type 0 where
  pub notes : (w : List Entry) → old ≡ view_of w → new ≡ view_of (x ∷ w)

-- an entry has these parts, by which a monitor notes it: its end, the bytes that came, what the end did and the frame
-- that it sent
pub record HasParts (x : Entry) (at : End) (came : List ℕ) (did : Did) (sent : List ℕ) : Type 0 where
  pub end_is : x.end ≡ at
  pub came_is : delivered x.what ≡ came
  pub did_is : x.did ≡ did
  pub sent_is : x.sent ≡ sent

-- a monitor that had noted some entries has noted one with these parts too
pub record NotesParts (old : MonitorView) (at : End) (came : List ℕ) (did : Did) (sent : List ℕ) (new : MonitorView) : Type 0 where
  pub notes : (x : Entry) → HasParts x at came did sent → NotesEntry old x new

-- the number of a frame that is kept, if one is
abbrev pub sent_number : Option Sent → Option ℕ
sent_number None = None
sent_number (Some s) = Some s.number

-- the number of an item, where there is one with these bytes
abbrev pub number_of : List ℕ → Option Sent → Option ℕ
number_of bytes None = None
number_of bytes (Some s) = if pointwise nat_eq s.bytes bytes then Some s.number else None

-- the number of the item after this one
abbrev pub next_number : Option Sent → ℕ
next_number None = 1
next_number (Some s) = suc s.number

-- whether an answer is to this item
abbrev pub is_answer : Option Sent → Option ℕ → Bool
is_answer None answer = false
is_answer (Some s) answer = answers_to s.number answer

-- whether an entry of an end is other at which these bytes came, by what is kept of the end and whether they passed the
-- test of their CRCs
abbrev pub is_other_to : Side → Bool → List ℕ → Bool
is_other_to own passed came = passed && is_guarded_frame came && not (is_some (number_of came own.awaited))

-- the number of the peer's item that an end took from these bytes
abbrev pub number_taken : Side → Side → List ℕ → Option Took → Option ℕ
number_taken own peer bytes None = None
number_taken own peer bytes (Some t) = number_of bytes (if is_guarded_command t.command then own.awaited else peer.newest)

-- the next item of an end, after this one
abbrev pub next_sent : Option Sent → List ℕ → Sent
next_sent newest frame = record { number = next_number newest; bytes = frame }

-- an end that sends a frame awaits no item until its peer answers it
abbrev pub sent_next : Side → List ℕ → Side
sent_next own frame = record { newest = Some (next_sent own.newest frame); awaited = None }

-- its peer awaits the new item where it answers the peer's newest one and isn't a Reset frame
abbrev pub heard_next : Side → Side → List ℕ → Option ℕ → Side
heard_next own peer frame answer = record {
  newest = peer.newest;
  awaited = if not (has_command command.Reset frame) && is_answer peer.newest answer then Some (next_sent own.newest frame) else peer.awaited;
}

-- what is kept of an end after an entry of its own that sent this frame
abbrev pub own_after : Side → List ℕ → Side
own_after own sent = if is_empty sent then own else sent_next own sent

-- what is kept of its peer then
abbrev pub peer_after : Side → Side → List ℕ → Option Took → List ℕ → Side
peer_after own peer came took sent = if is_empty sent then peer else heard_next own peer sent (number_taken own peer came took)

-- what is kept of an end
abbrev pub side_of : End → MonitorView → Side
side_of side.Master v = v.master
side_of side.Slave v = v.slave

-- what is kept of an end after an entry of either end
abbrev pub side_after : End → End → MonitorView → List ℕ → Option Took → List ℕ → Side
side_after which at v came took sent =
    if same_end which at then own_after (side_of which v) sent else peer_after (side_of at v) (side_of which v) came took sent

-- a monitor after an entry, by its end, the bytes that came, what the end did and the frame that it sent
abbrev pub noted_next : MonitorView → End → List ℕ → Did → List ℕ → MonitorView
noted_next v at came did sent = record {
  noted = suc v.noted;
  other = first_of_both v.other (is_other_to (side_of at v) did.passed came) (suc v.noted);
  master = side_after side.Master at v came did.took sent;
  slave = side_after side.Slave at v came did.took sent;
}
