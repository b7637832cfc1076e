use Rattle.std.proofs.Common.{◌∙◌, ap, sym, subst, Bool, Option}
use Rattle.dm_base.specs.declared.imports.ImportOrExternCrate.{ImportOrExternCrate}
use Rattle.dm_base.specs.declared.item_ids.ModuleDefId.{ModuleDefId}
use Rattle.dm_base.specs.declared.per_ns.Item.{Item}
use Rattle.dm_base.specs.declared.per_ns.PerNs.{PerNs}
use Rattle.dm_base.specs.declared.visibility.Visibility.{Visibility}
use Rattle.dm_base.specs.PerNs.{keep, seen_by}
use Rattle.dm_base.specs.Tree.{sees}
use Rattle.dm_scope.specs.Scope.{bound_in}
use Rattle.dm_maps.specs.Known.{KnowsAll}
use Rattle.dm_maps.specs.Holding.{res_holds}
use Rattle.dm_maps.specs.Trees.{tree_of}
use Rattle.dm_maps.specs.World.{scope_of}
use Rattle.hir_def_map.specs.Walk.{in_types}
use Rattle.dm_maps.specs.KnownLaws.{type_vis-known}
use Rattle.hir_def_map.specs.KnownLaws.{seen_by-known}
use Rattle.hir_def_map.proofs.KnownLemmas.{in_types-known}
use Rattle.hir_def_map.proofs.path_resolution.segments.seen_type_in.Goals as goal

pub seen_item-requires-clause-named : goal.seen_item-requires-clause-named
seen_item-requires-clause-named c = λ i e. type_vis-known c.args.world.now (bound_in (scope_of c.args.world.now c.args.m) c.args.segment.now) c.type_in.ensures.known i (sym c.type_in.ensures.value ∙ e)

pub returns-clause-known : goal.returns-clause-known
returns-clause-known c =
    let w = c.args.world.now in
    let bound : PerNs = bound_in (scope_of w c.args.m) c.args.segment.now in
    let p : Visibility → Bool = λ v. sees (tree_of w) v c.args.from in
    let P : Option (Item ModuleDefId ImportOrExternCrate) → Type 0 = λ o. KnowsAll w (res_holds (in_types o)) in
    let is = c.seen_item.ensures ∙ ap (keep (λ i. p i.vis)) c.type_in.ensures.value in
    subst P (sym is) (in_types-known w (seen_by p bound) (seen_by-known w p bound c.type_in.ensures.known))
