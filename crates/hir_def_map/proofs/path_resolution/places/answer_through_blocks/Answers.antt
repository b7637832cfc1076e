use Rattle.std.proofs.Common.{◌∙◌, ap, sym, subst, map, refl}
use Rattle.dm_maps.specs.Holding.{res_holds}
use Rattle.dm_maps.specs.Known.{KnowsAll}
use Rattle.dm_maps.specs.Readings.{read, setting_of}
use Rattle.dm_maps.specs.Trees.{tree_of}
use Rattle.hir_def_map.specs.Answers.{over_answer, merged}
use Rattle.hir_def_map.specs.Paths.{single}
use Rattle.hir_def_map.specs.declared.path_resolution.place.Place.TheVariants.{In}
use Rattle.hir_def_map.specs.declared.path_resolution.result.ResolvePathResult.{ResolvePathResult}
use Rattle.hir_def_map.specs.Overlays.{answers_associative}
use Rattle.hir_def_map.specs.KnownLaws.{over-known}
use Rattle.hir_def_map.proofs.PlaceLemmas.{places_in, places-root, places-home}
use Rattle.hir_def_map.proofs.path_resolution.places.answer_through_blocks.Goals as goal

pub roots-preserved : goal.roots-preserved
roots-preserved c =
    let w = c.args.world.now in
    let t = tree_of w in
    let g = setting_of w in
    let asked = single g c.args.ask.now (map (read w c.args.local.now) c.args.segments.now) in
    let at = c.roots.at in
    let o = c.in-Some.outside in
    let rest = merged (map asked (places_in t g o)) in
    record {
      known = c.in-Some.ensures.known o refl;
      answer_known =
          let P : ResolvePathResult → Type 0 = λ r. KnowsAll w (res_holds r.resolved_def) in
          subst P (sym c.over-answer.ensures) (over-known w c.roots.answer.resolved_def c.single.result.resolved_def c.roots.invariant.answer_known c.single.ensures.known);
      same =
          ap (λ a. over_answer a rest) (c.over-answer.ensures ∙ ap (over_answer c.roots.answer) c.single.ensures.value)
          ∙ answers_associative c.roots.answer (asked (In at)) rest
          ∙ ap (λ ps. over_answer c.roots.answer (merged (map asked ps))) (sym (places-root t g at o c.in-Some.ensures.way c.in-Some.ensures.home))
          ∙ c.roots.invariant.same;
    }

pub returns-clause-value : goal.returns-clause-value
unfolding setting_of
returns-clause-value c =
    let w = c.args.world.now in
    let t = tree_of w in
    let g = setting_of w in
    let asked = single g c.args.ask.now (map (read w c.args.local.now) c.args.segments.now) in
    let at = c.roots.at in
    c.over.ensures
    ∙ ap (over_answer c.roots.answer) c.answer_at_home.ensures.value
    ∙ ap (λ ps. over_answer c.roots.answer (merged (map asked ps))) (sym (places-home t g at c.in_default.ensures.way c.in_default.ensures.home))
    ∙ c.roots.invariant.same

pub returns-clause-known : goal.returns-clause-known
returns-clause-known c =
    let w = c.args.world.now in
    let P : ResolvePathResult → Type 0 = λ r. KnowsAll w (res_holds r.resolved_def) in
    subst P (sym c.over.ensures) (over-known w c.roots.answer.resolved_def c.answer_at_home.result.resolved_def c.roots.invariant.answer_known c.answer_at_home.ensures.known)
