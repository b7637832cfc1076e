use Rattle.std.proofs.Common.{rules}
use Rattle.dm_maps.proofs.Least.{joined-lesser}
use Rattle.dm_maps.proofs.check.notes.lesser.Goals as goal

pub returns-in-None-default-clause-joined : goal.returns-in-None-default-clause-joined
returns-in-None-default-clause-joined c = joined-lesser c.args.one c.args.other c.args.other (search rules)

pub returns-in-Some-None-clause-joined : goal.returns-in-Some-None-clause-joined
returns-in-Some-None-clause-joined c = joined-lesser c.args.one c.args.other c.args.one (search rules)

pub returns-then-comes_before-clause-joined : goal.returns-then-comes_before-clause-joined
returns-then-comes_before-clause-joined c = joined-lesser c.args.one c.args.other c.args.other (search rules)

pub returns-else-comes_before-clause-joined : goal.returns-else-comes_before-clause-joined
returns-else-comes_before-clause-joined c = joined-lesser c.args.one c.args.other c.args.one (search rules)
