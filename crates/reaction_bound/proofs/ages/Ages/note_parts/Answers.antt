use Rattle.reaction_bound.proofs.Noted.{notes_parts}
use Rattle.reaction_bound.proofs.ages.Ages.note_parts.Goals as goal

pub returns-in-Master-clause-notes : goal.returns-in-Master-clause-notes
returns-in-Master-clause-notes c =
    rw (← c.self.view_is)
    (notes_parts c.in-Master.is c.is_other-other.ensures c.awaited-master.ensures c.awaited-slave.ensures c.note_parts.ensures.notes c.awaited-next_master.ensures c.awaited-next_slave.ensures c.act.ensures c.hear.ensures)

pub returns-in-Slave-clause-notes : goal.returns-in-Slave-clause-notes
returns-in-Slave-clause-notes c =
    rw (← c.self.view_is)
    (notes_parts c.in-Slave.is c.is_other-other.ensures c.awaited-slave.ensures c.awaited-master.ensures c.note_parts.ensures.notes c.awaited-next_slave.ensures c.awaited-next_master.ensures c.act-in-Slave.ensures c.hear-in-Slave.ensures)
