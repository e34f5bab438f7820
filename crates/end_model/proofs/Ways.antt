-- Which frames of a session an end takes in each state.
use Rattle.end_model.proofs.Common.{AfterConnection, AfterSession, Command, IsHandshake, IsNextPhase, OfConnection, OfParameter, OfSession, State, is_data, master_allows, phase_of, slave_allows}
use Rattle.std.proofs.Common.{◌≡◌, ◌≢◌, Bool, true, false, not, refl, arith}
use Rattle.fsoe_base.specs.declared.command.State.TheVariants as state
use Rattle.fsoe_base.specs.declared.command.Command.TheVariants as command

-- a frame at a slave, where `done` says which payloads are whole
pub data SlaveWay (done : State → Bool) (now : State) (c : Command) : Type 0 where
  Start : now ≡ state.Reset → c ≡ command.Session → SlaveWay done now c
  More : IsHandshake c → now ≡ phase_of c → done (phase_of c) ≡ false → SlaveWay done now c
  Next : (before : Command) → IsNextPhase before c → now ≡ phase_of before → done (phase_of before) ≡ true → SlaveWay done now c
  First : is_data c ≡ true → now ≡ state.Parameter → done state.Parameter ≡ true → SlaveWay done now c
  Data : is_data c ≡ true → now ≡ state.Data → SlaveWay done now c

off : (b : Bool) → not b ≡ true → b ≡ false
off b h = grind arith

pub slave_way : (done : State → Bool) (now : State) (c : Command) → c ≢ command.Reset → slave_allows now (done now) c ≡ true → SlaveWay done now c
slave_way done now command.Reset n h = absurd (n refl)
slave_way done state.Reset command.Session n h = Start refl refl
slave_way done state.Session command.Session n h = More OfSession refl (off (done state.Session) h)
slave_way done state.Session command.Connection n h = Next command.Session AfterSession refl h
slave_way done state.Connection command.Connection n h = More OfConnection refl (off (done state.Connection) h)
slave_way done state.Connection command.Parameter n h = Next command.Connection AfterConnection refl h
slave_way done state.Parameter command.Parameter n h = More OfParameter refl (off (done state.Parameter) h)
slave_way done state.Parameter command.FailSafeData n h = First refl refl h
slave_way done state.Data command.FailSafeData n h = Data refl refl
slave_way done state.Parameter command.ProcessData n h = First refl refl h
slave_way done state.Data command.ProcessData n h = Data refl refl
slave_way done _ _ n h = cc

-- an answer at a master
pub data MasterWay (now : State) (c : Command) : Type 0 where
  Echo : IsHandshake c → now ≡ phase_of c → MasterWay now c
  Reply : is_data c ≡ true → now ≡ state.Data → MasterWay now c

pub master_way : (now : State) (c : Command) → c ≢ command.Reset → master_allows now c ≡ true → MasterWay now c
master_way now command.Reset n h = absurd (n refl)
master_way state.Session command.Session n h = Echo OfSession refl
master_way state.Connection command.Connection n h = Echo OfConnection refl
master_way state.Parameter command.Parameter n h = Echo OfParameter refl
master_way state.Data command.FailSafeData n h = Reply refl refl
master_way state.Data command.ProcessData n h = Reply refl refl
master_way _ _ n h = cc
