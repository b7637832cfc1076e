use Rattle.std.proofs.Common.{◌∙◌, sym}
use Rattle.def_diagnostics.proofs.AddedLemmas.{one_behind, one_taken}
use Rattle.dm_scope.specs.Outcomes.{on-err}
use Rattle.def_diagnostics.proofs.map_diagnostics.add_all.Goals as goal

pub loop-diagnostic-preserved : goal.loop-diagnostic-preserved
loop-diagnostic-preserved c = (
  one_behind c.args.world.now c.loop-diagnostic.world c.add_one.new.world c.args.map c.loop-diagnostic.yielded c.in-Some.diagnostic c.loop-diagnostic.invariant.0 c.in_ok-add_one.ensures.ok,
  one_taken c.loop-diagnostic.yielded c.loop-diagnostic.diagnostic-iterator.rest.items c.next.new.self.rest.items c.args.diagnostics.items c.in-Some.diagnostic c.loop-diagnostic.invariant.1 c.in-Some.ensures.steps.0,
)

pub returns-in_err-add_one-clause-err : goal.returns-in_err-add_one-clause-err
returns-in_err-add_one-clause-err c = on-err c.from_residual.result (record {
  first = c.loop-diagnostic.yielded;
  rest = c.loop-diagnostic.diagnostic-iterator.rest.items;
  split = sym c.loop-diagnostic.invariant.1;
  world = c.in_err-add_one.ensures.err ∙ c.loop-diagnostic.invariant.0;
})
