use Rattle.dm_imports.proofs.BoundLemmas.{bound-then}
use Rattle.dm_imports.proofs.bind.bind_all.Goals as goal

pub loop-binding-preserved : goal.loop-binding-preserved
loop-binding-preserved c = bound-then c.args.given.now.imports.now c.args.given.now.globs.now _ _ _ c.loop-binding.invariant c.in_ok-bind.ensures

pub returns-in_err-bind : goal.returns-in_err-bind
returns-in_err-bind c = bound-then c.args.given.now.imports.now c.args.given.now.globs.now _ _ _ c.loop-binding.invariant c.in_err-bind.ensures
