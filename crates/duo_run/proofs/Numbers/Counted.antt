-- A summary counts the next entry.
use Rattle.duo_run.proofs.Common.{CountsEntry, Did, End, Entry, State, Summary, common_steps, data_taken, is_some, summary_of}
use Rattle.std.proofs.Common.{◌≡◌, ◌+◌, List, ◌∷◌, if◌then◌else◌, arith}
use Rattle.fsoe_base.specs.declared.command.End.TheVariants as end_name
use Rattle.duo_run.specs.declared.summary.Counts.{Counts}

-- what an end did and its state are counted
pub record Noted (old : Counts) (did : Did) (state : State) (new : Counts) : Type 0 where
  pub taken : new.taken ≡ old.taken + (if is_some (data_taken did.took) then 1 else 0)
  pub resets : new.resets ≡ old.resets + (if is_some did.reset then 1 else 0)
  pub drops : new.drops ≡ old.drops + (if is_some did.dropped then 1 else 0)
  pub state_is : new.state ≡ state

-- what is counted at an end changes nothing of the other
abbrev NotedAt : End → Summary → Did → State → Summary → Type 0
NotedAt end_name.Master old did state new = Noted old.master did state new.master × (new.slave ≡ old.slave)
NotedAt end_name.Slave old did state new = Noted old.slave did state new.slave × (new.master ≡ old.master)

counted : (at : End) (old new : Summary) (did : Did) (state : State) → NotedAt at old did state new → (x : Entry) (w : List Entry) → x.end ≡ at → x.did ≡ did → x.state ≡ state → old ≡ summary_of w → new ≡ summary_of (x ∷ w)
counted at old new did state noted x w at_is did_is state_is is = grind (arith, common_steps)

pub counted_at_master : (old new : Summary) (did : Did) (state : State) → Noted old.master did state new.master → new.slave ≡ old.slave → CountsEntry old end_name.Master did state new
counted_at_master old new did state noted slave = record { counts = counted end_name.Master old new did state (noted, slave) }

pub counted_at_slave : (old new : Summary) (did : Did) (state : State) → Noted old.slave did state new.slave → new.master ≡ old.master → CountsEntry old end_name.Slave did state new
counted_at_slave old new did state noted master = record { counts = counted end_name.Slave old new did state (noted, master) }
