use Rattle.std.proofs.Common.{subst, sym}
use Rattle.dm_imports.specs.Meanings.{IsNamed}
use Rattle.dm_imports.specs.Tables.{of_tables}
use Rattle.dm_imports.proofs.MeaningLemmas.{marked-named, namespace-named}
use Rattle.dm_imports.proofs.paths.shown.item_at.Goals as goal

pub returns-clause-named : goal.returns-clause-named
returns-clause-named c = λ known.
    let d = of_tables c.args.maps.now in
    let own = subst (IsNamed d.world) (sym c.in_namespace.ensures) (namespace-named d.world c.args.items.now known c.args.namespace) in
    subst (IsNamed d.world) (sym c.marked.ensures) (marked-named d.world (d.is_ambiguous c.args.m c.args.name.now c.args.namespace) c.in_namespace.result own)
