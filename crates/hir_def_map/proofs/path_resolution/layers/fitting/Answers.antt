use Rattle.std.proofs.Common.{sym, subst, Option}
use Rattle.dm_base.specs.declared.imports.ImportOrExternCrate.{ImportOrExternCrate}
use Rattle.dm_base.specs.declared.item_ids.MacroId.{MacroId}
use Rattle.dm_base.specs.declared.per_ns.Item.{Item}
use Rattle.dm_maps.specs.Known.{KnowsAll}
use Rattle.dm_maps.specs.Holding.{res_holds}
use Rattle.dm_maps.specs.Readings.{setting_of}
use Rattle.hir_def_map.specs.Paths.{fits}
use Rattle.hir_def_map.specs.KnownLaws.{macros_kept-known}
use Rattle.hir_def_map.proofs.path_resolution.layers.fitting.Goals as goal

pub returns-clause-known : goal.returns-clause-known
returns-clause-known c =
    let P : Option (Item MacroId ImportOrExternCrate) → Type 0 = λ o. KnowsAll c.args.world.now (res_holds (record c.args.x { macros = o })) in
    subst P (sym c.fitting_macro.ensures) (macros_kept-known c.args.world.now (λ i. fits (setting_of c.args.world.now) c.args.expected i.def) c.args.x c.requires)
