use Rattle.std.proofs.Common.{◌∙◌, ap, sym, subst}
use Rattle.dm_base.specs.declared.per_ns.PerNs.{PerNs}
use Rattle.dm_base.specs.PerNs.{over}
use Rattle.dm_maps.specs.Holding.{res_holds}
use Rattle.dm_maps.specs.Known.{KnowsAll}
use Rattle.dm_maps.specs.Readings.{read, setting_of}
use Rattle.hir_def_map.specs.Paths.{of_prelude, prelude, unless_block_root}
use Rattle.hir_def_map.specs.KnownLaws.{over-known}
use Rattle.hir_def_map.specs.LayerLaws.{over-full}
use Rattle.hir_def_map.proofs.path_resolution.first_segment.over_prelude.Goals as goal

pub returns-then-is_full-clause-value : goal.returns-then-is_full-clause-value
returns-then-is_full-clause-value c = λ L.
    let w = setting_of c.args.world.now in
    let s = read c.args.world.now L c.args.segment.now in
    sym (over-full c.args.found (unless_block_root w c.args.m (of_prelude w c.args.expected (prelude w c.args.id s))) (sym c.is_full.ensures ∙ c.if-is_full.true))

pub returns-clause-value : goal.returns-clause-value
returns-clause-value c = λ L. c.or.ensures ∙ ap (over c.args.found) (c.prelude_layer_at.ensures.value L)

pub returns-clause-known : goal.returns-clause-known
returns-clause-known c =
    let P : PerNs → Type 0 = λ x. KnowsAll c.args.world.now (res_holds x) in
    subst P (sym c.or.ensures) (over-known c.args.world.now c.args.found c.prelude_layer_at.result c.requires.known c.prelude_layer_at.ensures.known)
