-- The two ends of a connection, and which entries of a run are an end's own.
use Rattle.std.specs.Prelude.{List, [], ◌∷◌, Bool, true, false, if◌then◌else◌}
use Rattle.fsoe_base.specs.declared.command.End.{End}
use Rattle.fsoe_base.specs.declared.command.End.TheVariants as side
use Rattle.param_load.specs.declared.entry.Entry.{Entry}

-- whether both are the same end
abbrev pub same_end : End → End → Bool
same_end side.Master side.Master = true
same_end side.Slave side.Slave = true
same_end _ _ = false

-- the other end
abbrev pub peer : End → End
peer side.Master = side.Slave
peer side.Slave = side.Master

-- the entries of one end
abbrev pub of_end : End → List Entry → List Entry
of_end which [] = []
of_end which (x ∷ w) = if same_end which x.end then x ∷ of_end which w else of_end which w
