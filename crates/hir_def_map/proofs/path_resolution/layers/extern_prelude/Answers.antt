use Rattle.std.proofs.Common.{◌∙◌, ap, sym, subst}
use Rattle.dm_base.specs.declared.item_ids.ModuleDefId.TheVariants as def
use Rattle.dm_base.specs.declared.per_ns.PerNs.{PerNs}
use Rattle.dm_base.specs.declared.visibility.Visibility.TheVariants.{Public}
use Rattle.dm_base.specs.PerNs.{type_alone}
use Rattle.dm_maps.specs.Known.{KnowsAll}
use Rattle.dm_maps.specs.Holding.{res_holds}
use Rattle.hir_def_map.specs.KnownLaws.{local-known, public_module-known}
use Rattle.hir_def_map.proofs.path_resolution.layers.extern_prelude.Goals as goal

pub returns-in-Some-clause-known : goal.returns-in-Some-clause-known
returns-in-Some-clause-known c =
    let w = c.args.world.now in
    let P : PerNs → Type 0 = λ x. KnowsAll w (res_holds x) in
    let is = c.types.ensures ∙ ap (type_alone (def.ModuleId c.in-Some.m) Public) c.by_crate.ensures in
    subst P (sym is) (public_module-known w c.in-Some.m c.in-Some.krate (local-known w c.args.local.now c.args.segment.now (c.in-Some.m, c.in-Some.krate) c.requires (sym c.get.ensures ∙ c.in-Some.is)))
