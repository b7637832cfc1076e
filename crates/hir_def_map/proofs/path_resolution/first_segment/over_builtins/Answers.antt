use Rattle.std.proofs.Common.{◌∙◌, ap, sym, subst}
use Rattle.dm_base.specs.declared.per_ns.PerNs.{PerNs}
use Rattle.dm_base.specs.PerNs.{over}
use Rattle.dm_maps.specs.Holding.{res_holds}
use Rattle.dm_maps.specs.Known.{KnowsAll}
use Rattle.dm_maps.specs.Readings.{read, setting_of}
use Rattle.hir_def_map.specs.Paths.{builtins_of}
use Rattle.hir_def_map.specs.KnownLaws.{over-known}
use Rattle.hir_def_map.specs.LayerLaws.{builtins-are, over-types}
use Rattle.hir_def_map.proofs.path_resolution.first_segment.over_builtins.Goals as goal

pub returns-then-is_some-clause-value : goal.returns-then-is_some-clause-value
returns-then-is_some-clause-value c = λ L.
    let w = setting_of c.args.world.now in
    let s = read c.args.world.now L c.args.segment.now in
    sym (over-types c.args.found (builtins_of w c.args.m s) (sym c.is_some.ensures ∙ c.if-is_some.true) (builtins-are w c.args.m s))

pub returns-clause-value : goal.returns-clause-value
returns-clause-value c = λ L. c.or.ensures ∙ ap (over c.args.found) (c.builtins_of.ensures.value L)

pub returns-clause-known : goal.returns-clause-known
returns-clause-known c =
    let P : PerNs → Type 0 = λ x. KnowsAll c.args.world.now (res_holds x) in
    subst P (sym c.or.ensures) (over-known c.args.world.now c.args.found c.builtins_of.result c.requires.known c.builtins_of.ensures.known)
