use Rattle.std.proofs.Common.{◌∙◌, sym, subst}
use Rattle.dm_base.specs.declared.per_ns.PerNs.{PerNs}
use Rattle.dm_base.specs.PerNs.{over}
use Rattle.dm_maps.specs.Holding.{res_holds}
use Rattle.dm_maps.specs.Known.{KnowsAll}
use Rattle.dm_maps.specs.Readings.{read, setting_of}
use Rattle.hir_def_map.specs.Paths.{extern_prelude, macro_use_prelude, of_prelude, prelude}
use Rattle.hir_def_map.specs.KnownLaws.{over-known}
use Rattle.hir_def_map.specs.LayerLaws.{laid-3}
use Rattle.hir_def_map.proofs.path_resolution.first_segment.plain_preludes.Goals as goal

pub returns-clause-value : goal.returns-clause-value
unfolding read setting_of
returns-clause-value c =
    let w = setting_of c.args.world.now in
    let L = c.args.local.now in
    let s = read c.args.world.now L c.args.segment.now in
    let used = of_prelude w c.args.expected (macro_use_prelude c.args.id s) in
    let last = of_prelude w c.args.expected (prelude w c.args.id s) in
    c.or.ensures
    ∙ (λ i. over (c.over_macro_use-used.ensures.value L i) (c.prelude_layer.ensures.value L i))
    ∙ (λ i. over (over (c.extern_prelude-outer.ensures.value i) used) last)
    ∙ laid-3 (extern_prelude s) used last

pub returns-clause-known : goal.returns-clause-known
returns-clause-known c =
    let P : PerNs → Type 0 = λ x. KnowsAll c.args.world.now (res_holds x) in
    subst P (sym c.or.ensures) (over-known c.args.world.now c.over_macro_use-used.result c.prelude_layer.result c.over_macro_use-used.ensures.known c.prelude_layer.ensures.known)
