use Rattle.std.proofs.Common.{◌≡◌, ◌∙◌, ap, sym, subst, map, [], ◌∷◌, None, Option}
use Rattle.std.specs.Option.{option_and_then, option_map_or}
use Rattle.dm_base.specs.declared.ids.BlockId.{BlockId}
use Rattle.dm_base.specs.Tree.{block_of, crate_of}
use Rattle.dm_maps.specs.Holding.{res_holds}
use Rattle.dm_maps.specs.Known.{KnowsAll}
use Rattle.dm_maps.specs.Readings.{read, setting_of}
use Rattle.hir_def_map.specs.Answers.{merged, over_answer}
use Rattle.hir_def_map.specs.Overlays.{answer_over_nothing}
use Rattle.hir_def_map.specs.Paths.{prelude_place, single}
use Rattle.hir_def_map.specs.declared.path_resolution.place.Place.{Place}
use Rattle.hir_def_map.specs.declared.path_resolution.place.Place.TheVariants.{In, Preludes}
use Rattle.hir_def_map.specs.declared.path_resolution.result.ResolvePathResult.{ResolvePathResult}
use Rattle.hir_def_map.specs.KnownLaws.{over-known}
use Rattle.hir_def_map.proofs.path_resolution.places.answer_at_home.Goals as goal

pub returns-in-None-clause-value : goal.returns-in-None-clause-value
unfolding setting_of
returns-in-None-clause-value c =
    let w = c.args.world.now in
    let g = setting_of w in
    let asked = single g c.args.ask.now (map (read w c.args.local.now) c.args.segments.now) in
    let none : block_of g.tree c.args.m ≡ None = sym c.block.ensures ∙ c.in-None.is in
    let at : Option BlockId → ResolvePathResult = λ o. merged (map asked (In c.args.m ∷ option_map_or (λ r. Preludes (record { krate = crate_of g.tree c.args.m; block = None }) r ∷ []) (option_and_then g.block_root o) [])) in
    c.single-own.ensures.value ∙ sym (answer_over_nothing (asked (In c.args.m))) ∙ sym (ap at none)

pub returns-in-Some-clause-value : goal.returns-in-Some-clause-value
returns-in-Some-clause-value c = c.over.ensures ∙ (λ i. over_answer (c.single-own.ensures.value i) (c.preludes_of.ensures.value i))

pub returns-in-Some-clause-known : goal.returns-in-Some-clause-known
returns-in-Some-clause-known c =
    let P : ResolvePathResult → Type 0 = λ r. KnowsAll c.args.world.now (res_holds r.resolved_def) in
    subst P (sym c.over.ensures) (over-known c.args.world.now c.single-own.result.resolved_def c.preludes_of.result.resolved_def c.single-own.ensures.known c.preludes_of.ensures.known)
