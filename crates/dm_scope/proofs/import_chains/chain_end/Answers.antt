use Rattle.std.proofs.Common.{◌≡◌, ◌∙◌, Some, ap, sym, subst, arith, rules, IfSome}
use Rattle.dm_scope.specs.Chains.{Pair, at_home}
use Rattle.dm_scope.specs.ChainSteps.{WasPassed}
use Rattle.dm_scope.proofs.ChainTables.{found-step, found-round, passed-step, same_import_id}
use Rattle.dm_scope.proofs.import_chains.chain_end.Goals as goal

pub returns-then-eq : goal.returns-then-eq
returns-then-eq g c =
    let t = g.T.ScopeTables.tables c.args.tables.now in
    let same = same_import_id c.loop-def.passed.import c.in-Import.next (sym c.if-eq.ensures) in
    found-round c.args.namespace t (c.loop-def.scope.now, c.loop-def.at) c.loop-def.passed.import c.in-Import.next c.loop-def.left _ (sym c.record_in.ensures ∙ c.in_ok-def.was ∙ ap Some c.in-Import.is) same c.loop-def.invariant.passed c.loop-def.invariant.found

pub loop-def-preserved : goal.loop-def-preserved
loop-def-preserved g c =
    let t = g.T.ScopeTables.tables c.args.tables.now in
    let q : Pair = (c.loop-def.scope.now, c.loop-def.at) in
    let p : Pair = (c.in_ok-scope.scope.now, c.in-Import.next) in
    let is = sym c.record_in.ensures ∙ c.in_ok-def.was ∙ ap Some c.in-Import.is in
    let there : at_home t c.in-Import.next ≡ Some p = search rules in
    record {
      found = found-step c.args.namespace t q p c.in-Import.next c.loop-def.left _ _ is there (omega (arith, c.if-left-eq0.false)) c.loop-def.invariant.found;
      passed = subst (λ o. IfSome o (WasPassed c.args.namespace t p)) (sym c.stepped-passed.ensures.import) (passed-step c.args.namespace t q p c.in-Import.next _ c.loop-def.passed.import is there c.loop-def.invariant.passed);
    }
