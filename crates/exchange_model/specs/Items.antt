-- The items of a run and which item answers which. What judges a run sees numbered frames, the events of both ends, and
-- what was told after each: of a frame's CRCs it knows whether they passed the receiver's test, and it knows nothing of
-- sequence numbers and of the phases of a handshake. Lists are newest first. Items are this profile's own.
use Rattle.std.specs.Prelude.{ℕ, suc, ◌==◌, nat_eq, List, [], ◌∷◌, length, Bool, false, ◌&&◌, not, Option, Some, None, if◌then◌else◌}
use Rattle.std.specs.Cmp.Lexicographic.{pointwise}
use Rattle.fsoe_base.specs.declared.command.End.{End}
use Rattle.fsoe_base.specs.declared.command.Command.TheVariants as command
use Rattle.fsoe_base.specs.declared.did.Took.{Took}
use Rattle.param_load.specs.declared.terms.Terms.{Terms}
use Rattle.param_load.specs.declared.entry.Move.{Move}
use Rattle.param_load.specs.declared.entry.Move.TheVariants as move
use Rattle.param_load.specs.declared.entry.Entry.{Entry}
use Rattle.end_model.specs.Phases.{is_guarded_command, is_data_frame, has_command}
use Rattle.end_model.specs.Deed.{delivered, is_empty}
use Rattle.end_model.specs.Readiness.{held_after}
use Rattle.exchange_model.specs.Ends.{same_end, peer, of_end}

-- what a data frame is to carry: what its end offered, by the events of that end
pub data Offered : Type 0 where
  -- fail-safe data, as the end was held
  FailSafe : Offered
  -- the bytes that were put last
  Values : List ℕ → Offered
  -- zeros, as nothing was put yet
  Unset : Offered

-- a frame that was sent: its end, its number among those of this end, from 1, its bytes, the terms that its end told
-- then, what it offers if it is a data frame, and the number of the peer's item that it answers, if it answers one
pub record Item : Type 0 where
  pub end : End
  pub number : ℕ
  pub bytes : List ℕ
  pub terms : Option Terms
  pub offered : Option Offered
  pub answers : Option ℕ

-- the bytes put last, after an event
abbrev pub put_after : Move → Option (List ℕ) → Option (List ℕ)
put_after (move.Put load) before = Some load
put_after _ before = before

-- the bytes that an end put last, if it put some, by its own entries
abbrev pub last_put : List Entry → Option (List ℕ)
last_put [] = None
last_put (x ∷ e) = put_after x.what (last_put e)

-- whether an end is held, by its own entries
abbrev pub is_held : List Entry → Bool
is_held [] = false
is_held (x ∷ e) = held_after x.what (is_held e)

-- what is offered by what was put last, if something was
abbrev pub offered_put : Option (List ℕ) → Offered
offered_put None = Unset
offered_put (Some bytes) = Values bytes

-- what the next data frame of an end offers, by its own entries
abbrev pub next_offered : List Entry → Offered
next_offered e = if is_held e then FailSafe else offered_put (last_put e)

-- what a frame offers, where e are the entries of its end before it: a data frame alone offers something
abbrev pub offered_of : List ℕ → List Entry → Option Offered
offered_of frame e = if is_data_frame frame then Some (next_offered e) else None

-- the items of one end
abbrev pub items_of : End → List Item → List Item
items_of which [] = []
items_of which (i ∷ items) = if same_end which i.end then i ∷ items_of which items else items_of which items

-- the newest of these items, if there is one
abbrev pub newest : List Item → Option Item
newest [] = None
newest (i ∷ items) = Some i

-- whether an answer is to the item with this number
abbrev pub answers_to : ℕ → Option ℕ → Bool
answers_to number None = false
answers_to number (Some answered) = answered == number

-- the newest of these items that isn't a Reset frame and answers the item with this number
abbrev pub newest_answer : ℕ → List Item → Option Item
newest_answer number [] = None
newest_answer number (i ∷ items) =
    if not (has_command command.Reset i.bytes) && answers_to number i.answers then Some i else newest_answer number items

-- the newest of these items that isn't a Reset frame and answers an item, if there is such an item
abbrev pub answer_among : List Item → Option Item → Option Item
answer_among items None = None
answer_among items (Some mine) = newest_answer mine.number items

-- the item that an end awaits: the newest of its peer that isn't a Reset frame and answers the end's newest
abbrev pub awaited : List Item → End → Option Item
awaited items which = answer_among (items_of (peer which) items) (newest (items_of which items))

-- whether an item is there and has these bytes
abbrev pub has_bytes : List ℕ → Option Item → Bool
has_bytes bytes None = false
has_bytes bytes (Some i) = pointwise nat_eq i.bytes bytes

-- the number of an item where it has these bytes
abbrev pub number_if : List ℕ → Option Item → Option ℕ
number_if bytes None = None
number_if bytes (Some i) = if pointwise nat_eq i.bytes bytes then Some i.number else None

-- the number of the item whose bytes an end took: for a guarded frame the awaited item, for a Reset or Session frame
-- the peer's newest, where its bytes are those that came; else none
abbrev pub item_taken : List Item → End → List ℕ → Option Took → Option ℕ
item_taken before which bytes None = None
item_taken before which bytes (Some t) =
    number_if bytes (if is_guarded_command t.command then awaited before which else newest (items_of (peer which) before))

-- the item of an entry that sent a frame, where w are the entries before it and `before` their items
abbrev pub item_of : Entry → List Entry → List Item → Item
item_of x w before = record {
  end = x.end;
  number = suc (length (items_of x.end before));
  bytes = x.sent;
  terms = x.terms;
  offered = offered_of x.sent (of_end x.end w);
  answers = item_taken before x.end (delivered x.what) x.did.took;
}

-- the items with that of an entry, if it sent a frame
abbrev pub with_item : Entry → List Entry → List Item → List Item
with_item x w before = if is_empty x.sent then before else item_of x w before ∷ before

-- the items of a run, of both ends
abbrev pub items : List Entry → List Item
items [] = []
items (x ∷ w) = with_item x w (items w)
