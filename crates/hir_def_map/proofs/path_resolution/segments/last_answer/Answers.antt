use Rattle.std.proofs.Common.{[], ap, sym, subst, ◌∙◌}
use Rattle.std.specs.Option.{option_copied}
use Rattle.dm_maps.specs.Holding.{res_holds}
use Rattle.dm_maps.specs.Known.{KnowsAll}
use Rattle.dm_maps.specs.Readings.{read}
use Rattle.dm_maps.specs.Trees.{tree_of}
use Rattle.hir_def_map.specs.declared.path_resolution.result.ResolvePathResult.{ResolvePathResult}
use Rattle.hir_def_map.specs.Answers.{reached}
use Rattle.hir_def_map.specs.Paths.{seen_in}
use Rattle.hir_def_map.specs.Walk.{in_types, crossed}
use Rattle.hir_def_map.proofs.KnownLemmas.{crossed-known, module_in-known}
use Rattle.hir_def_map.proofs.WalkLemmas.{walk-goes}
use Rattle.hir_def_map.proofs.path_resolution.segments.last_answer.Goals as goal

pub entry-into-requires-clause-module_known : goal.entry-into-requires-clause-module_known
entry-into-requires-clause-module_known c = module_in-known c.args.world.now (in_types (option_copied c.args.types)) c.requires.known c.in-Some.item.now c.in-Some-module_in.m (ap option_copied c.in-Some.is) (sym c.module_in.ensures ∙ c.in-Some-module_in.is)

pub returns-in_default-module_in-clause-known : goal.returns-in_default-module_in-clause-known
returns-in_default-module_in-clause-known c =
    let P : ResolvePathResult → Type 0 = λ r. KnowsAll c.args.world.now (res_holds r.resolved_def) in
    subst P (sym c.crossed-in_default-module_in.ensures) (crossed-known c.args.world.now c.args.differing c.left_at.result c.left_at.ensures.known)

pub returns-clause-value : goal.returns-clause-value
unfolding read
returns-clause-value c = λ L.
    let w = c.args.world.now in
    c.crossed-2.ensures
    ∙ ap (crossed c.entry-into.result.differing) (c.reached.ensures ∙ ap reached c.seen_in-found.ensures.value)
    ∙ ap (λ e. crossed e.differing (reached (seen_in (tree_of w) e.origin (read w L c.args.segment.now) e.asked))) c.entry-into.ensures.value
    ∙ sym (walk-goes w L c.args.differing c.args.origin (option_copied c.args.types) c.args.position c.args.segment.now [] c.in-Some.item.now c.in-Some-module_in.m (ap option_copied c.in-Some.is) (sym c.module_in.ensures ∙ c.in-Some-module_in.is))

pub returns-clause-known : goal.returns-clause-known
returns-clause-known c =
    let w = c.args.world.now in
    let P : ResolvePathResult → Type 0 = λ r. KnowsAll w (res_holds r.resolved_def) in
    subst P (sym c.crossed-2.ensures) (crossed-known w c.entry-into.result.differing c.reached.result (subst P (sym c.reached.ensures) c.seen_in-found.ensures.known))
