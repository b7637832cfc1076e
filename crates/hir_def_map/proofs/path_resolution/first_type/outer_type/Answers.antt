use Rattle.std.proofs.Common.{◌≡◌, ◌∙◌, Option, Some, None, ap, sym, subst}
use Rattle.std.specs.Option.{option_copied, option_or}
use Rattle.dm_base.specs.declared.imports.ImportOrExternCrate.{ImportOrExternCrate}
use Rattle.dm_base.specs.declared.item_ids.ModuleDefId.{ModuleDefId}
use Rattle.dm_base.specs.declared.per_ns.Item.{Item}
use Rattle.dm_base.specs.declared.per_ns.PerNs.{PerNs}
use Rattle.dm_maps.specs.Holding.{res_holds}
use Rattle.dm_maps.specs.Known.{KnowsAll}
use Rattle.dm_maps.specs.Readings.{read, setting_of}
use Rattle.hir_def_map.specs.Walk.{in_types}
use Rattle.hir_def_map.proofs.KnownLemmas.{in_types-known}
use Rattle.std.proofs.Common.{Bool, cond}
use Rattle.dm_base.specs.declared.ids.MapId.{MapId}
use Rattle.dm_base.specs.PerNs.{nothing}
use Rattle.hir_def_map.specs.Paths.{builtins_of, extern_prelude, prelude, unless_block_root}
use Rattle.hir_def_map.proofs.TypeLaws.{or-none, or-some}
use Rattle.hir_def_map.proofs.path_resolution.first_type.outer_type.Goals as goal

pub returns-then-is_some-clause-value : goal.returns-then-is_some-clause-value
returns-then-is_some-clause-value c =
    let w = setting_of c.args.world.now in
    let L = c.args.local.now in
    let s = read c.args.world.now L c.args.segment.now in
    let m = c.args.m in
    let rest = option_or (unless_block_root w m (extern_prelude s)).types (unless_block_root w m (prelude w (w.tree.map_of m) s)).types in
    or-some c.builtins_of-builtin.result.types rest (sym c.is_some.ensures ∙ c.if-is_some.true)
    ∙ ap (λ (x : PerNs). option_or x.types rest) (c.builtins_of-builtin.ensures.value L)

pub returns-then-is_some-clause-known : goal.returns-then-is_some-clause-known
returns-then-is_some-clause-known c = in_types-known c.args.world.now c.builtins_of-builtin.result c.builtins_of-builtin.ensures.known

pub returns-then-is_block_root-clause-value : goal.returns-then-is_block_root-clause-value
unfolding setting_of
returns-then-is_block_root-clause-value c =
    let w = setting_of c.args.world.now in
    let L = c.args.local.now in
    let s = read c.args.world.now L c.args.segment.now in
    let rest : Bool → Option (Item ModuleDefId ImportOrExternCrate) = λ b. option_or (cond b nothing (extern_prelude s)).types (cond b nothing (prelude w (w.tree.map_of c.args.m) s)).types in
    let whole = option_or (unless_block_root w c.args.m (extern_prelude s)).types (unless_block_root w c.args.m (prelude w (w.tree.map_of c.args.m) s)).types in
    ap rest (sym (sym c.is_block_root.ensures ∙ c.if-is_block_root.true))
    ∙ or-none c.builtins_of-builtin.result.types whole (sym c.is_some.ensures ∙ c.if-is_some.false)
    ∙ ap (λ (x : PerNs). option_or x.types whole) (c.builtins_of-builtin.ensures.value L)

pub returns-clause-value : goal.returns-clause-value
unfolding setting_of
returns-clause-value c =
    let w = setting_of c.args.world.now in
    let L = c.args.local.now in
    let s = read c.args.world.now L c.args.segment.now in
    let rest : Bool → Option (Item ModuleDefId ImportOrExternCrate) = λ b. option_or (cond b nothing (extern_prelude s)).types (cond b nothing (prelude w (w.tree.map_of c.args.m) s)).types in
    let whole = option_or (unless_block_root w c.args.m (extern_prelude s)).types (unless_block_root w c.args.m (prelude w (w.tree.map_of c.args.m) s)).types in
    c.prelude_type.ensures.value
    ∙ ap (λ (id : MapId). option_or (extern_prelude s).types (prelude w id s).types) c.map-id.ensures
    ∙ ap rest (sym (sym c.is_block_root.ensures ∙ c.if-is_block_root.false))
    ∙ or-none c.builtins_of-builtin.result.types whole (sym c.is_some.ensures ∙ c.if-is_some.false)
    ∙ ap (λ (x : PerNs). option_or x.types whole) (c.builtins_of-builtin.ensures.value L)
