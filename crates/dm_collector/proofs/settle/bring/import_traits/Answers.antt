use Rattle.std.proofs.Common.{◌∙◌, subst, sym}
use Rattle.std.proofs.lemmas.Bool.{or_parts}
use Rattle.std.proofs.lemmas.List.{take_all}
use Rattle.std.proofs.lemmas.List.Elements.{All-more, Contains-get_or}
use Rattle.std.specs.List.{All, Contains}
use Rattle.dm_imports.specs.declared.named_import.NamedImport.{NamedImport}
use Rattle.dm_maps.specs.World.{World}
use Rattle.dm_collector.specs.Steps.{Import, maps_with}
use Rattle.dm_collector.specs.UnnamedTraits.{HasImported}
use Rattle.dm_collector.proofs.ReachLemmas.{reached-by, reached-or}
use Rattle.dm_collector.proofs.settle.bring.import_traits.Goals as goal

pub loop-import-preserved : goal.loop-import-preserved
loop-import-preserved c =
    let d = maps_with c.args.given.now c.args.ambiguous.now in
    let is = c.args.given.now.imports.now in
    let has = subst (Contains is) (sym c.import-item.is) (Contains-get_or is c.loop-import.import-index c.import-item.result c.loop-import-test.true) in
    let inv = c.loop-import.invariant in
    let own = c.in_ok-written.ensures in
    record {
      same = λ none. let parts = or_parts c.loop-import.written c.in_ok-written.field-0 none in own.same parts.1 ∙ inv.same parts.0;
      none = λ none.
          let parts = or_parts c.loop-import.written c.in_ok-written.field-0 none in
          let P : NamedImport → Type 0 = HasImported (d c.args.world.now) in
          let here : P c.import-item.result = subst (λ (w : World). HasImported (d w) c.import-item.result) (inv.same parts.0) (own.none parts.1) in
          All-more P is c.loop-import.import-index c.import-item.result c.loop-import-test.true (inv.none parts.0) (subst P c.import-item.is here);
      reached = λ x e.
          reached-or d x c.loop-import.written c.in_ok-written.field-0 _ _ _ (inv.reached x e)
          (reached-by d x (Import c.import-item.result) c.in_ok-written.field-0 _ _ (subst (λ l. Contains l c.import-item.result) (sym e) has) own.world own.answer);
      shown = λ g k ps h. own.shown g k ps (inv.shown g k ps h);
    }

pub returns-clause-none : goal.returns-clause-none
returns-clause-none c = λ none.
    subst (All (HasImported (maps_with c.args.given.now c.args.ambiguous.now c.args.world.now))) (take_all _ _ c.loop-import-test.false) (c.loop-import.invariant.none none)
