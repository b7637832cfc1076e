use Rattle.std.proofs.Common.{◌∙◌, subst, sym}
use Rattle.std.proofs.lemmas.Bool.{or_parts}
use Rattle.std.proofs.lemmas.List.{take_all}
use Rattle.std.proofs.lemmas.List.Elements.{All-more, Contains-get_or}
use Rattle.std.specs.List.{All, Contains}
use Rattle.dm_imports.specs.declared.glob_import.GlobImport.{GlobImport}
use Rattle.dm_maps.specs.World.{World}
use Rattle.dm_collector.specs.Steps.{maps_with}
use Rattle.dm_collector.specs.UnnamedTraits.{HasBrought}
use Rattle.dm_collector.proofs.ReachLemmas.{reached-or}
use Rattle.dm_collector.proofs.settle.bring.bring_all.Goals as goal

pub loop-glob-preserved : goal.loop-glob-preserved
loop-glob-preserved c =
    let d = maps_with c.args.given.now c.args.ambiguous.now in
    let gs = c.args.given.now.globs.now in
    let has = subst (Contains gs) (sym c.glob-item.is) (Contains-get_or gs c.loop-glob.glob-index c.glob-item.result c.loop-glob-test.true) in
    let inv = c.loop-glob.invariant in
    let own = c.in_ok-written.ensures in
    record {
      same = λ none. let parts = or_parts c.loop-glob.written c.in_ok-written.field-0 none in own.same parts.1 ∙ inv.same parts.0;
      none = λ none.
          let parts = or_parts c.loop-glob.written c.in_ok-written.field-0 none in
          let P : GlobImport → Type 0 = HasBrought (d c.args.world.now) in
          let here : P c.glob-item.result = subst (λ (w : World). HasBrought (d w) c.glob-item.result) (inv.same parts.0) (own.none parts.1) in
          All-more P gs c.loop-glob.glob-index c.glob-item.result c.loop-glob-test.true (inv.none parts.0) (subst P c.glob-item.is here);
      reached = λ x e.
          reached-or d x c.loop-glob.written c.in_ok-written.field-0 _ _ _ (inv.reached x e)
          (own.reached x (subst (λ l. Contains l c.glob-item.result) (sym e) has));
      shown = λ g k ps h. own.shown g k ps (inv.shown g k ps h);
    }

pub returns-clause-none : goal.returns-clause-none
returns-clause-none c = λ none.
    subst (All (HasBrought (maps_with c.args.given.now c.args.ambiguous.now c.args.world.now))) (take_all _ _ c.loop-glob-test.false) (c.loop-glob.invariant.none none)
