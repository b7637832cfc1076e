use Rattle.dm_imports.specs.Bound.{AreBound}
use Rattle.dm_imports.proofs.bind.bind_all.Given as goal

abbrev pub invariant-loop-binding : goal.invariant-loop-binding
invariant-loop-binding l =
    AreBound l.given.imports.now l.given.globs.now (record { world = l.fn.world; flags = l.fn.flags }) (record { world = l.world; flags = l.flags })
