use Rattle.std.proofs.Common.{◌∙◌, subst}
use Rattle.std.proofs.lemmas.Bool.{or_parts}
use Rattle.std.proofs.lemmas.List.{take_all}
use Rattle.std.specs.List.{All}
use Rattle.def_diagnostics.specs.OpenModules.{IsClosedAt}
use Rattle.def_diagnostics.proofs.OpenLemmas.{then_closed, then_kept, then_sound}
use Rattle.def_diagnostics.proofs.open_modules.pass.Goals as goal

pub loop-edge-preserved : goal.loop-edge-preserved
loop-edge-preserved c =
    let inv = c.loop-edge.invariant in
    let own = c.in_ok-grown.ensures in
    record {
      same = λ none. let parts = or_parts c.loop-edge.grown c.in_ok-grown.field-0 none in own.same parts.1 ∙ inv.same parts.0;
      closed = λ none.
          let parts = or_parts c.loop-edge.grown c.in_ok-grown.field-0 none in
          then_closed _ _ c.args.edges.now c.loop-edge.edge-index _ c.loop-edge-test.true (inv.same parts.0) (inv.closed parts.0) (own.closed parts.1);
      kept = then_kept _ _ _ c.args.edges.now c.loop-edge.edge-index _ own.keys inv.kept;
      sound = λ calls all. then_sound calls c.args.edges.now _ _ c.loop-edge.edge-index _ c.loop-edge-test.true own.keys (inv.sound calls all);
    }

pub returns-clause-closed : goal.returns-clause-closed
returns-clause-closed c = λ none.
    subst (All (IsClosedAt c.args.modules.now.keys)) (take_all _ _ c.loop-edge-test.false) (c.loop-edge.invariant.closed none)
