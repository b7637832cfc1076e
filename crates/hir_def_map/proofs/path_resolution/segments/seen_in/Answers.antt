use Rattle.std.proofs.Common.{◌∙◌, ap, sym, subst, Bool}
use Rattle.dm_base.specs.declared.per_ns.PerNs.{PerNs}
use Rattle.dm_base.specs.PerNs.{keep}
use Rattle.dm_base.specs.Tree.{sees}
use Rattle.dm_base.specs.declared.visibility.Visibility.{Visibility}
use Rattle.dm_maps.specs.Known.{KnowsAll}
use Rattle.dm_maps.specs.Holding.{res_holds}
use Rattle.dm_maps.specs.Trees.{tree_of}
use Rattle.dm_maps.specs.KnownLaws.{type_vis-known, value_vis-known, macro_vis-known}
use Rattle.hir_def_map.specs.KnownLaws.{seen_by-known}
use Rattle.hir_def_map.proofs.path_resolution.segments.seen_in.Goals as goal

pub seen_item-requires-clause-named : goal.seen_item-requires-clause-named
seen_item-requires-clause-named c = λ i e. type_vis-known c.args.world.now c.bound_in-bound.result c.bound_in-bound.ensures.known i (sym c.as_ref.ensures.value ∙ e)

pub seen_item-requires-2-clause-named : goal.seen_item-requires-2-clause-named
seen_item-requires-2-clause-named c = λ i e. value_vis-known c.args.world.now c.bound_in-bound.result c.bound_in-bound.ensures.known i (sym c.as_ref-2.ensures.value ∙ e)

pub seen_item-requires-3-clause-named : goal.seen_item-requires-3-clause-named
seen_item-requires-3-clause-named c = λ i e. macro_vis-known c.args.world.now c.bound_in-bound.result c.bound_in-bound.ensures.known i (sym c.as_ref-3.ensures.value ∙ e)

pub returns-clause-known : goal.returns-clause-known
returns-clause-known c =
    let w = c.args.world.now in
    let p : Visibility → Bool = λ v. sees (tree_of w) v c.args.from in
    let P : PerNs → Type 0 = λ x. KnowsAll w (res_holds x) in
    let types = c.copied.ensures ∙ c.seen_item.ensures ∙ ap (keep (λ i. p i.vis)) c.as_ref.ensures.value in
    let values = c.copied-2.ensures ∙ c.seen_item-2.ensures ∙ ap (keep (λ i. p i.vis)) c.as_ref-2.ensures.value in
    let macros = c.copied-3.ensures ∙ c.seen_item-3.ensures ∙ ap (keep (λ i. p i.vis)) c.as_ref-3.ensures.value in
    subst P (λ j. record { types = sym types j; values = sym values j; macros = sym macros j })
    (seen_by-known w p c.bound_in-bound.result c.bound_in-bound.ensures.known)
