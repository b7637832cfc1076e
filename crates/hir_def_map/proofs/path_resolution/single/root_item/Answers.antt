use Rattle.std.proofs.Common.{sym, subst}
use Rattle.dm_base.specs.declared.per_ns.PerNs.{PerNs}
use Rattle.dm_maps.specs.Known.{KnowsAll}
use Rattle.dm_maps.specs.Holding.{res_holds}
use Rattle.hir_def_map.proofs.KnownLemmas.{root-known}
use Rattle.hir_def_map.proofs.path_resolution.single.root_item.Goals as goal

pub returns-clause-known : goal.returns-clause-known
returns-clause-known c =
    let P : PerNs → Type 0 = λ x. KnowsAll c.args.world.now (res_holds x) in
    subst P (sym c.types.ensures) (root-known c.args.world.now c.args.m c.requires)
