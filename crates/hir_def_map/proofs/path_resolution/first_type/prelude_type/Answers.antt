use Rattle.std.proofs.Common.{◌≡◌, ◌∙◌, Option, Some, None, ap, sym, subst}
use Rattle.std.specs.Option.{option_copied, option_or}
use Rattle.dm_base.specs.declared.imports.ImportOrExternCrate.{ImportOrExternCrate}
use Rattle.dm_base.specs.declared.item_ids.ModuleDefId.{ModuleDefId}
use Rattle.dm_base.specs.declared.per_ns.Item.{Item}
use Rattle.dm_base.specs.declared.per_ns.PerNs.{PerNs}
use Rattle.dm_maps.specs.Holding.{res_holds}
use Rattle.dm_maps.specs.Known.{KnowsAll}
use Rattle.dm_maps.specs.Readings.{read, setting_of}
use Rattle.hir_def_map.specs.Walk.{in_types}
use Rattle.hir_def_map.proofs.KnownLemmas.{in_types-known}
use Rattle.hir_def_map.specs.Paths.{extern_prelude, prelude}
use Rattle.hir_def_map.proofs.TypeLaws.{or-none, or-some}
use Rattle.hir_def_map.proofs.path_resolution.first_type.prelude_type.Goals as goal

pub returns-then-is_some-clause-value : goal.returns-then-is_some-clause-value
returns-then-is_some-clause-value c =
    let w = c.args.world.now in
    let s = read w c.args.local.now c.args.segment.now in
    let last = (prelude (setting_of w) c.args.id s).types in
    or-some c.extern_prelude-outer.result.types last (sym c.is_some.ensures ∙ c.if-is_some.true)
    ∙ ap (λ (x : PerNs). option_or x.types last) c.extern_prelude-outer.ensures.value

pub returns-then-is_some-clause-known : goal.returns-then-is_some-clause-known
returns-then-is_some-clause-known c = in_types-known c.args.world.now c.extern_prelude-outer.result c.extern_prelude-outer.ensures.known

pub returns-clause-value : goal.returns-clause-value
returns-clause-value c =
    let w = c.args.world.now in
    let L = c.args.local.now in
    let s = read w L c.args.segment.now in
    let last = (prelude (setting_of w) c.args.id s).types in
    ap (λ (x : PerNs). x.types) (c.prelude.ensures.value L)
    ∙ or-none c.extern_prelude-outer.result.types last (sym c.is_some.ensures ∙ c.if-is_some.false)
    ∙ ap (λ (x : PerNs). option_or x.types last) c.extern_prelude-outer.ensures.value

pub returns-clause-known : goal.returns-clause-known
returns-clause-known c = in_types-known c.args.world.now c.prelude.result c.prelude.ensures.known
