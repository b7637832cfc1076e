use Rattle.std.proofs.Common.{◌≡◌, suc, IfSome}
use Rattle.dm_scope.specs.Chains.{leads, ends}
use Rattle.dm_scope.specs.ChainSteps.{WasPassed, found_within, found_from}
use Rattle.dm_scope.proofs.import_chains.chain_end.Given as goal

abbrev pub invariant-loop-def : goal.invariant-loop-def
invariant-loop-def g l =
    let t = g.T.ScopeTables.tables l.tables in
    record {
      found : found_within (leads l.namespace t) (ends l.namespace) (suc l.left) (l.scope, l.at) ≡ found_from l.namespace t (l.start, l.fn.import);
      passed : IfSome l.passed.import (WasPassed l.namespace t (l.scope, l.at));
    }

abbrev pub decreases-loop-def : goal.decreases-loop-def
decreases-loop-def g l = l.left
