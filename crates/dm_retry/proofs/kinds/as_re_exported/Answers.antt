use Rattle.std.proofs.Common.{subst, sym}
use Rattle.dm_base.specs.declared.per_ns.PerNs.{PerNs}
use Rattle.dm_maps.specs.Holding.{res_holds}
use Rattle.dm_maps.specs.Known.{KnowsAll}
use Rattle.dm_maps.specs.KnownLaws.{vis_known}
use Rattle.dm_maps.specs.Trees.{tree_of}
use Rattle.dm_retry.specs.declared.import_kind.ImportKind.TheVariants as kinds
use Rattle.dm_retry.proofs.KnownLemmas.{kind-known}
use Rattle.dm_retry.proofs.kinds.as_re_exported.Goals as goal

pub re_exported-requires-clause-home : goal.re_exported-requires-clause-home
unfolding tree_of
re_exported-requires-clause-home c = c.requires.home

pub re_exported-requires-clause-named : goal.re_exported-requires-clause-named
re_exported-requires-clause-named c = vis_known c.args.world.now c.args.vis c.requires.vis

pub returns-clause-known : goal.returns-clause-known
returns-clause-known c =
    let w = c.args.world.now in
    let P : PerNs → Type 0 = λ x. KnowsAll w (res_holds x) in
    subst P (sym c.re_exported.ensures) (kind-known w (tree_of w) c.args.m c.args.vis c.requires.vis kinds.ReExport c.args.items c.requires.items)
