use Rattle.fsoe_c.proofs.slave.gp_slave_init_ranges.Goals as goal

pub returns-clause-made : goal.returns-clause-made
returns-clause-made c ok v there = rw (← c.in-Some.ensures.bytes, ← c.in-Some-app_of.ensures.bytes) (c.start.ensures.made ok v there)
