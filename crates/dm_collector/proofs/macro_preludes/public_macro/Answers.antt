use Rattle.std.proofs.Common.{Option, subst, sym}
use Rattle.std.specs.Option.{IfSome}
use Rattle.dm_maps.specs.Holding.{def_holds}
use Rattle.dm_base.specs.declared.item_ids.MacroId.{MacroId}
use Rattle.dm_base.specs.declared.item_ids.ModuleDefId.TheVariants as def
use Rattle.dm_maps.specs.Known.{KnowsAll}
use Rattle.dm_collector.proofs.MacroLemmas.{public-known}
use Rattle.dm_collector.proofs.macro_preludes.public_macro.Goals as goal

pub returns-clause-known : goal.returns-clause-known
returns-clause-known c =
    let w = c.args.world.now in
    subst (λ (o : Option MacroId). IfSome o (λ m. KnowsAll w (def_holds (def.MacroId m)))) (sym c.public_in.ensures)
    (public-known w c.bound_in-bound.result c.bound_in-bound.ensures.known)
