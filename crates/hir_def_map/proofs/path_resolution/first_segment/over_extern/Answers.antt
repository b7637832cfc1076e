use Rattle.std.proofs.Common.{◌∙◌, ap, sym, subst}
use Rattle.dm_base.specs.declared.per_ns.PerNs.{PerNs}
use Rattle.dm_base.specs.PerNs.{over}
use Rattle.dm_maps.specs.Holding.{res_holds}
use Rattle.dm_maps.specs.Known.{KnowsAll}
use Rattle.dm_maps.specs.Readings.{read, setting_of}
use Rattle.hir_def_map.specs.Paths.{extern_prelude, unless_block_root}
use Rattle.hir_def_map.specs.KnownLaws.{over-known}
use Rattle.hir_def_map.specs.LayerLaws.{extern-is, over-types}
use Rattle.hir_def_map.proofs.path_resolution.first_segment.over_extern.Goals as goal

pub returns-then-is_some-clause-value : goal.returns-then-is_some-clause-value
returns-then-is_some-clause-value c =
    let w = setting_of c.args.world.now in
    let s = read c.args.world.now c.args.local.now c.args.segment.now in
    sym (over-types c.args.found (unless_block_root w c.args.m (extern_prelude s)) (sym c.is_some.ensures ∙ c.if-is_some.true) (extern-is w c.args.m s))

pub returns-clause-value : goal.returns-clause-value
returns-clause-value c = c.or.ensures ∙ ap (over c.args.found) c.extern_layer.ensures.value

pub returns-clause-known : goal.returns-clause-known
returns-clause-known c =
    let P : PerNs → Type 0 = λ x. KnowsAll c.args.world.now (res_holds x) in
    subst P (sym c.or.ensures) (over-known c.args.world.now c.args.found c.extern_layer.result c.requires.known c.extern_layer.ensures.known)
