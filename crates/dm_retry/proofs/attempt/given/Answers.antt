use Rattle.std.proofs.Common.{◌∙◌, IfSome, Option, ap, subst, sym}
use Rattle.dm_base.specs.declared.ids.ModuleId.{ModuleId}
use Rattle.dm_base.specs.declared.per_ns.PerNs.{PerNs}
use Rattle.dm_base.specs.declared.visibility.Visibility.{Visibility}
use Rattle.dm_base.specs.Tree.{IsKnown}
use Rattle.dm_base.specs.Visibility.{NamesKnown}
use Rattle.dm_maps.specs.Pushes.{push_holds}
use Rattle.dm_maps.specs.Known.{KnowsAll}
use Rattle.dm_maps.specs.Trees.{tree_of}
use Rattle.dm_retry.specs.Kinds.{by_kind, if_any}
use Rattle.dm_retry.specs.Rounds.{by_import}
use Rattle.dm_retry.proofs.KnownLemmas.{given-known, home-known, vis-known}
use Rattle.dm_retry.proofs.attempt.given.Goals as goal

pub by_kind-requires-clause-home : goal.by_kind-requires-clause-home
by_kind-requires-clause-home c =
    subst (λ (m : ModuleId). IsKnown (tree_of c.args.world.now) m) (sym c.origin.ensures) (home-known c.args.world.now c.args.pending.now c.requires.known)

pub by_kind-requires-clause-named : goal.by_kind-requires-clause-named
by_kind-requires-clause-named c =
    subst (λ (v : Visibility). NamesKnown (tree_of c.args.world.now) v) (sym c.visibility.ensures) (vis-known c.args.world.now c.args.pending.now c.requires.known)

pub returns-clause-known : goal.returns-clause-known
returns-clause-known c =
    let w = c.args.world.now in
    let p = c.args.pending.now in
    let is = c.if_any.ensures ∙ ap if_any (c.by_kind.ensures ∙ (λ i. by_kind (tree_of w) (c.origin.ensures i) (c.visibility.ensures i) (c.kind-kind.ensures i) c.args.items)) in
    subst (λ (o : Option PerNs). IfSome o (λ x. KnowsAll w (push_holds p.origin x (by_import p)))) (sym is) (given-known w p c.args.items c.requires.known c.requires.items)
