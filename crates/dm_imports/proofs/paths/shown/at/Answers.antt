use Rattle.std.proofs.Common.{ap, subst, sym}
use Rattle.dm_maps.specs.World.{World}
use Rattle.dm_imports.specs.Meanings.{IsNamed}
use Rattle.dm_imports.specs.Tables.{MapTables, of_tables}
use Rattle.dm_imports.proofs.MeaningLemmas.{marked-named}
use Rattle.dm_imports.proofs.paths.shown.at.Goals as goal

pub returns-clause-named : goal.returns-clause-named
returns-clause-named c =
    let d = of_tables c.args.maps.now in
    let own = subst (λ (w : World). IsNamed w c.bound_at-bound.result) (ap (λ (t : MapTables). t.world) c.maps.view_is) c.bound_at-bound.ensures.named in
    subst (IsNamed d.world) (sym c.marked.ensures) (marked-named d.world (d.is_ambiguous c.args.m c.args.name.now c.args.namespace) c.bound_at-bound.result own)
