use Rattle.std.proofs.Common.{◌∙◌, subst, sym}
use Rattle.std.proofs.lemmas.Bool.{or_parts}
use Rattle.std.proofs.lemmas.List.{take_all}
use Rattle.std.proofs.lemmas.List.Elements.{All-more, Contains-get_or}
use Rattle.std.specs.List.{All, Contains}
use Rattle.dm_maps.specs.World.{World}
use Rattle.dm_collector.specs.MacroPreludes.{HasMacros}
use Rattle.dm_collector.specs.MacroUses.{Uses}
use Rattle.dm_collector.proofs.ReachLemmas.{reached-or}
use Rattle.dm_collector.proofs.settle.use_macros.use_all.Goals as goal

pub loop-used-preserved : goal.loop-used-preserved
loop-used-preserved c =
    let us = c.args.uses.now in
    let has = subst (Contains us) (sym c.used-item.is) (Contains-get_or us c.loop-used.used-index c.used-item.result c.loop-used-test.true) in
    let inv = c.loop-used.invariant in
    let own = c.in_ok-written.ensures in
    record {
      same = λ none. let parts = or_parts c.loop-used.written c.in_ok-written.field-0 none in own.same parts.1 ∙ inv.same parts.0;
      used = λ none.
          let parts = or_parts c.loop-used.written c.in_ok-written.field-0 none in
          let P : Uses → Type 0 = HasMacros c.args.world.now in
          let here : P c.used-item.result = subst (λ (w : World). HasMacros w c.used-item.result) (inv.same parts.0) (own.used parts.1) in
          All-more P us c.loop-used.used-index c.used-item.result c.loop-used-test.true (inv.used parts.0) (subst P c.used-item.is here);
      reached = λ d x e.
          reached-or d x c.loop-used.written c.in_ok-written.field-0 _ _ _ (inv.reached d x e)
          (own.reached d x (subst (λ l. Contains l c.used-item.result) (sym e) has));
      shown = λ g k ps h. own.shown g k ps (inv.shown g k ps h);
    }

pub returns-clause-used : goal.returns-clause-used
returns-clause-used c = λ none.
    subst (All (HasMacros c.args.world.now)) (take_all _ _ c.loop-used-test.false) (c.loop-used.invariant.used none)
