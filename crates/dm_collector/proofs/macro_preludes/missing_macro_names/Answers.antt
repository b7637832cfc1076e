use Rattle.std.proofs.Common.{◌∙◌, subst}
use Rattle.std.proofs.lemmas.List.{take_all}
use Rattle.std.proofs.lemmas.List.Elements.{All-more}
use Rattle.std.specs.List.{All}
use Rattle.dm_collector.specs.MacroPreludes.{HasMacrosOf}
use Rattle.dm_collector.specs.declared.macro_uses.MacroSource.{MacroSource}
use Rattle.dm_collector.proofs.macro_preludes.missing_macro_names.Goals as goal

pub loop-source-preserved : goal.loop-source-preserved
loop-source-preserved c =
    let P : MacroSource → Type 0 = HasMacrosOf c.args.world.now c.args.uses.now in
    let added = c.in_ok-add_missing_of.ensures in
    record {
      some = added.some;
      used = λ empty.
          All-more P c.sources-source-items.result.now c.loop-source.source-index c.source-item.result c.loop-source-test.true (c.loop-source.invariant.used (added.kept empty)) (subst P c.source-item.is (added.used empty));
    }

pub returns-clause-used : goal.returns-clause-used
returns-clause-used c = λ none.
    let P : MacroSource → Type 0 = HasMacrosOf c.args.world.now c.args.uses.now in
    subst (All P) (take_all _ _ c.loop-source-test.false ∙ c.sources-source-items.ensures) (c.loop-source.invariant.used none)
