use Rattle.std.proofs.Common.{◌≡◌, ◌∙◌, Option, Some, None, ap, sym, subst}
use Rattle.std.specs.Option.{option_copied, option_or}
use Rattle.dm_base.specs.declared.imports.ImportOrExternCrate.{ImportOrExternCrate}
use Rattle.dm_base.specs.declared.item_ids.ModuleDefId.{ModuleDefId}
use Rattle.dm_base.specs.declared.per_ns.Item.{Item}
use Rattle.dm_base.specs.declared.per_ns.PerNs.{PerNs}
use Rattle.dm_maps.specs.Holding.{res_holds}
use Rattle.dm_maps.specs.Known.{KnowsAll}
use Rattle.dm_maps.specs.Readings.{read, setting_of}
use Rattle.hir_def_map.specs.Walk.{in_types}
use Rattle.hir_def_map.proofs.KnownLemmas.{in_types-known}
use Rattle.dm_scope.specs.Scope.{bound_in}
use Rattle.dm_maps.specs.World.{scope_of}
use Rattle.hir_def_map.specs.Paths.{builtins_of, extern_prelude, prelude, unless_block_root}
use Rattle.hir_def_map.proofs.TypeLaws.{plain-types}
use Rattle.hir_def_map.proofs.path_resolution.first_type.plain_type_at.Goals as goal

pub returns-in-Some-clause-value : goal.returns-in-Some-clause-value
unfolding read setting_of
returns-in-Some-clause-value c =
    let w = setting_of c.args.world.now in
    let s = read c.args.world.now c.args.local.now c.args.segment.now in
    let m = c.args.m in
    let rest = option_or (builtins_of w m s).types (option_or (unless_block_root w m (extern_prelude s)).types (unless_block_root w m (prelude w (w.tree.map_of m) s)).types) in
    let own = sym (ap option_copied c.in-Some.is) ∙ c.type_in.ensures.value in
    ap (λ (o : Option (Item ModuleDefId ImportOrExternCrate)). option_or o rest) own
    ∙ plain-types w c.args.ask.now m s

pub returns-in-Some-clause-known : goal.returns-in-Some-clause-known
returns-in-Some-clause-known c =
    let w = c.args.world.now in
    let P : Option (Item ModuleDefId ImportOrExternCrate) → Type 0 = λ o. KnowsAll w (res_holds (in_types o)) in
    let bound = bound_in (scope_of w c.args.m) c.args.segment.now in
    subst P (sym c.type_in.ensures.value ∙ ap option_copied c.in-Some.is) (in_types-known w bound c.type_in.ensures.known)

pub returns-in-None-clause-value : goal.returns-in-None-clause-value
unfolding read setting_of
returns-in-None-clause-value c =
    let w = setting_of c.args.world.now in
    let s = read c.args.world.now c.args.local.now c.args.segment.now in
    let m = c.args.m in
    let rest = option_or (builtins_of w m s).types (option_or (unless_block_root w m (extern_prelude s)).types (unless_block_root w m (prelude w (w.tree.map_of m) s)).types) in
    let own = sym (ap option_copied c.in-None.is) ∙ c.type_in.ensures.value in
    c.outer_type.ensures.value
    ∙ ap (λ (o : Option (Item ModuleDefId ImportOrExternCrate)). option_or o rest) own
    ∙ plain-types w c.args.ask.now m s
