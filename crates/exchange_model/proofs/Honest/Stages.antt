-- The stages of a steady run: which frame is on its way, and where both ends stand.
use Rattle.exchange_model.proofs.Common.{Command, Deed, End, Entry, Item, MasterSettings, State, comes_new, deeds, frame_len, has_command, id_sent, is_reset, items, items_of, joined, number_to, own, phase_of, phase_taken, reset_frame, since}
use Rattle.std.proofs.Common.{◌≡◌, ℕ, suc, List, [], ◌∷◌, length, false, Option, Some, None}
use Rattle.fsoe_base.specs.declared.command.End.TheVariants as end_name
use Rattle.fsoe_base.specs.declared.command.State.TheVariants as state
use Rattle.fsoe_base.specs.declared.command.Command.TheVariants as command
use Rattle.exchange_model.proofs.Honest.OnItsWay.{Chained, chained, IsBetween, IsFresh}
use Rattle.exchange_model.proofs.Honest.SlaveTurn.{Replies, Carries}
use Rattle.exchange_model.proofs.Honest.Turns.{Partner, master_of, slave_of, width, session_pieces, connection_pieces, parameter_pieces, more, Turn, Spot, HasTaken, HasSent}

-- the newest item of an end has these bytes
pub record NewestIs (items : List Item) (f : List ℕ) : Type 0 where
  pub item : Item
  pub older : List Item
  pub is : items ≡ item ∷ older
  pub bytes_are : item.bytes ≡ f

-- the newest item of an end has these bytes and answers the newest of its peer
pub record NewestAnswers (items theirs : List Item) (f : List ℕ) : Type 0 where
  pub newest : NewestIs items f
  pub answered : Item
  pub theirs_older : List Item
  pub theirs_are : theirs ≡ answered ∷ theirs_older
  pub answers : newest.item.answers ≡ Some answered.number
  pub in_session : has_command command.Reset f ≡ false

-- what the stages see of both ends; a deed in which an end takes and sends nothing changes none of it
pub record Both : Type 0 where
  pub master : Chained
  pub slave : Chained
  pub master_sent : List (List ℕ)
  pub slave_sent : List (List ℕ)
  pub id : Option ℕ
  pub phase : State
  pub joined : State → List ℕ
  pub master_items : List Item
  pub slave_items : List Item
  pub to_master : ℕ
  pub to_slave : ℕ

-- that after these entries
abbrev pub both : (ms : MasterSettings) → Partner ms → List Entry → Both
both ms r w =
    let em : List Deed = deeds end_name.Master w in
    let es : List Deed = deeds end_name.Slave w in
    record {
      master = chained (master_of ms) (since em);
      slave = chained (slave_of ms r) (since es);
      master_sent = own em;
      slave_sent = own es;
      id = id_sent (master_of ms) em;
      phase = phase_taken (since es);
      joined = λ phase. joined phase (width ms) (since es);
      master_items = items_of end_name.Master (items w);
      slave_items = items_of end_name.Slave (items w);
      to_master = number_to comes_new end_name.Master w;
      to_slave = number_to comes_new end_name.Slave w;
    }

-- no session has begun
pub record IsOutside (x : Both) : Type 0 where
  pub master : IsFresh x.master
  pub slave : IsFresh x.slave
  pub no_id : x.id ≡ None
  pub phase : x.phase ≡ state.Reset
  pub none_joined : (phase : State) → x.joined phase ≡ []

-- the newest of these frames
pub record LastIs (frames : List (List ℕ)) (f : List ℕ) : Type 0 where
  pub older : List (List ℕ)
  pub is : frames ≡ f ∷ older

-- an end kept the newest of these frames, each with l safe data bytes, as taken last
pub record HasKept (frames : List (List ℕ)) (kept : Option (List ℕ)) (l : ℕ) : Type 0 where
  pub frame : List ℕ
  pub last : LastIs frames frame
  pub is : kept ≡ Some frame
  pub long : length frame ≡ frame_len l

-- the newest of these frames and items is a Reset frame with l safe data bytes, and n frames came to the slave
pub record IsBeginning (x : Both) (frames : List (List ℕ)) (items : List Item) (l n : ℕ) : Type 0 where
  pub outside : IsOutside x
  pub last : LastIs frames (reset_frame 0 l)
  pub newest : NewestIs items (reset_frame 0 l)
  pub master_count : x.to_master ≡ 0
  pub slave_count : x.to_slave ≡ n

-- the master's Reset frame is on its way
abbrev pub IsAsked : MasterSettings → Both → Type 0
IsAsked ms x = IsBeginning x x.master_sent x.master_items ms.lengths.master 0

-- the slave's Reset frame is on its way, after the master's
pub record IsReplied (ms : MasterSettings) (x : Both) : Type 0 where
  pub begins : IsBeginning x x.slave_sent x.slave_items ms.lengths.slave 1
  pub asked : LastIs x.master_sent (reset_frame 0 ms.lengths.master)

-- the master's frame number k, from 0, is on its way
pub record IsDown (ms : MasterSettings) (r : Partner ms) (x : Both) : Type 0 where
  pub id : ℕ
  pub command : Command
  pub p : State
  pub a : ℕ
  pub b : ℕ
  pub d : ℕ
  pub k : ℕ
  pub conn : ℕ
  pub load : List ℕ
  pub frame : List ℕ
  pub last : LastIs x.master_sent frame
  pub before : HasKept x.slave_sent x.master.kept ms.lengths.slave
  pub in_session : is_reset command ≡ false
  pub way : IsBetween (master_of ms) (slave_of ms r) x.master x.slave conn command load frame
  pub turn : Turn (session_pieces ms) (connection_pieces ms) (parameter_pieces ms) command p a b d k
  pub carries : Carries ms id command a b d conn load
  pub master : HasSent id x.master.sent x.id (phase_of command) (more state.Session command a) (more state.Connection command b) (more state.Parameter command d)
  pub slave : HasTaken ms id x.phase x.joined x.slave.taken p a b d
  pub newest : NewestAnswers x.master_items x.slave_items frame
  pub master_count : x.to_master ≡ suc k
  pub slave_count : x.to_slave ≡ suc k

-- the slave's answer to the master's k-th frame is on its way
pub record IsUp (ms : MasterSettings) (r : Partner ms) (x : Both) : Type 0 where
  pub id : ℕ
  pub command : Command
  pub a : ℕ
  pub b : ℕ
  pub d : ℕ
  pub k : ℕ
  pub conn : ℕ
  pub load : List ℕ
  pub frame : List ℕ
  pub last : LastIs x.slave_sent frame
  pub before : HasKept x.master_sent x.slave.kept ms.lengths.master
  pub in_session : is_reset command ≡ false
  pub way : IsBetween (slave_of ms r) (master_of ms) x.slave x.master conn command load frame
  pub spot : Spot (session_pieces ms) (connection_pieces ms) (parameter_pieces ms) (phase_of command) a b d k
  pub replies : Replies ms id command a b d conn load
  pub master : HasSent id x.master.sent x.id (phase_of command) a b d
  pub slave : HasTaken ms id x.phase x.joined x.slave.taken (phase_of command) a b d
  pub newest : NewestAnswers x.slave_items x.master_items frame
  pub master_count : x.to_master ≡ k
  pub slave_count : x.to_slave ≡ suc k

-- a stage, with the end to which the frame goes
pub data Stage (ms : MasterSettings) (r : Partner ms) (x : Both) : End → Type 0 where
  Asked : IsAsked ms x → Stage ms r x end_name.Slave
  Replied : IsReplied ms x → Stage ms r x end_name.Master
  Down : IsDown ms r x → Stage ms r x end_name.Slave
  Up : IsUp ms r x → Stage ms r x end_name.Master

-- nothing has happened but puts, holds, nonces and ticks of the slave
pub record IsIdle (x : Both) : Type 0 where
  pub outside : IsOutside x
  pub master_count : x.to_master ≡ 0
  pub slave_count : x.to_slave ≡ 0
