use Rattle.std.proofs.Common.{take, rules}
use Rattle.replay_c.proofs.Replaying.{LeavesMemory, leaves_memory}
use Rattle.replay_c.proofs.replay.replay_into.Goals as goal

leaves : (c : goal.After-run_pair) → LeavesMemory c.args.text.now c.run_pair.result c.args.room.now.memory.ghost_name c.args.room.now.before.bytes
    c.run_pair.new.sink.memory.ghost_name c.run_pair.new.sink.before.bytes (take c.run_pair.new.sink.len c.run_pair.new.sink.memory.now)
leaves c = search (rules, leaves_memory)

pub returns-clause-same_before : goal.returns-clause-same_before
returns-clause-same_before c = (leaves c).before_is

pub returns-clause-replayed : goal.returns-clause-replayed
returns-clause-replayed c = (leaves c).replayed
