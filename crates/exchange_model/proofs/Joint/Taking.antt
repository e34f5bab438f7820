-- What an entry that takes a frame says where it isn't other: the frame is the awaited item, where it is guarded, and
-- the item that the entry gives answers it.
use Rattle.exchange_model.proofs.Common.{Command, Entry, Item, NoOther, awaited, command_in, is_data, is_guarded_command, is_other, item_of, items, items_of, newest, number_if, peer, phase_of_frame, takes_frame}
use Rattle.std.proofs.Common.{◌≡◌, ℕ, List, ◌∷◌, length, true, false, Some, arith, rules}
use Rattle.param_load.specs.declared.entry.Move.TheVariants as move
use Rattle.exchange_model.proofs.Worlds.Numbered.{numbered}
use Rattle.exchange_model.proofs.Joint.Awaited.{Found, awaited_found}
use Rattle.exchange_model.proofs.Joint.Joint.{is_guarded_in}

pub data_guarded : (c : Command) → is_data c ≡ true → is_guarded_command c ≡ true
data_guarded c h = grind arith

-- the awaited item that was taken, among those of the peer, and that the item of the entry answers it
pub record TakesItem (w : List Entry) (x : Entry) (bytes : List ℕ) : Type 0 where
  pub item : Item
  pub is : awaited (items w) x.end ≡ Some item
  pub bytes_are : item.bytes ≡ bytes
  pub guarded : is_guarded_in (phase_of_frame item.bytes) ≡ true
  pub found : Found (length (items_of x.end (items w))) (items_of (peer x.end) (items w)) item
  pub answers : (item_of x w (items w)).answers ≡ Some item.number

pub takes_item : (w : List Entry) (x : Entry) (bytes : List ℕ) (c : Command) (load : List ℕ) → x.what ≡ move.Deliver bytes → x.did ≡ takes_frame c load → command_in bytes ≡ Some c → is_guarded_command c ≡ true → is_other (items w) x ≡ false → TakesItem w x bytes
takes_item w x bytes c load h k l m n = search (rules, awaited_found, numbered)

-- another frame answers the newest item of the peer, if it has the bytes
pub answers_newest : (w : List Entry) (x : Entry) (bytes : List ℕ) (c : Command) (load : List ℕ) → x.what ≡ move.Deliver bytes → x.did ≡ takes_frame c load → is_guarded_command c ≡ false
    → (item_of x w (items w)).answers ≡ number_if bytes (newest (items_of (peer x.end) (items w)))
answers_newest w x bytes c load a b g = simp (a, b, g)

-- no entry of a run is other
pub record NoneOther (x : Entry) (w : List Entry) : Type 0 where
  pub here : is_other (items w) x ≡ false
  pub before : NoOther w

pub none_other : (x : Entry) (w : List Entry) → NoOther (x ∷ w) → NoneOther x w
none_other x w h = grind arith
