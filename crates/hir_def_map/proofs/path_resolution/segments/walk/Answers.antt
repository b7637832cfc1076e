use Rattle.std.proofs.Common.{ap, sym, subst, ◌∙◌, ◌∷◌, map, arith}
use Rattle.std.proofs.lemmas.List.{nil_from_length}
use Rattle.std.specs.Option.{option_copied}
use Rattle.dm_maps.specs.Holding.{res_holds}
use Rattle.dm_maps.specs.Known.{KnowsAll}
use Rattle.dm_maps.specs.Readings.{read}
use Rattle.dm_maps.specs.Trees.{tree_of}
use Rattle.hir_def_map.specs.declared.path_resolution.result.ResolvePathResult.{ResolvePathResult}
use Rattle.hir_def_map.specs.Paths.{is_empty}
use Rattle.hir_def_map.specs.Walk.{in_types, crossed, left_at, standing, walk}
use Rattle.hir_def_map.proofs.KnownLemmas.{crossed-known, module_in-known}
use Rattle.hir_def_map.proofs.WalkLemmas.{walk-leaves, walk-on}
use Rattle.hir_def_map.proofs.path_resolution.segments.walk.Goals as goal

pub entry-into-requires-clause-module_known : goal.entry-into-requires-clause-module_known
entry-into-requires-clause-module_known c = module_in-known c.args.world.now (in_types (option_copied c.segments.types)) c.segments.invariant.known c.in-Some-types.item.now c.in-Some-module_in.m (ap option_copied c.in-Some-types.is) (sym c.module_in.ensures ∙ c.in-Some-module_in.is)

pub returns-in_default-module_in-clause-value : goal.returns-in_default-module_in-clause-value
returns-in_default-module_in-clause-value c = λ L.
    let w = c.args.world.now in
    let i = c.in-Some-types.item.now in
    let s = c.segments.segment.now in
    c.crossed-in_default-module_in.ensures
    ∙ ap (crossed c.segments.differing)
    (c.left_at.ensures.value L ∙ ap (λ ns. left_at i c.segments.passed (read w L s) (is_empty (map (read w L) ns)) i.def) (sym c.in-Some-split_first.ensures.cases.0))
    ∙ sym (walk-leaves w L c.segments.differing c.segments.origin (option_copied c.segments.types) c.segments.passed s c.segments.rest.now i (ap option_copied c.in-Some-types.is) (sym c.module_in.ensures ∙ c.in_default-module_in.is))
    ∙ c.segments.invariant.same L

pub returns-in_default-module_in-clause-known : goal.returns-in_default-module_in-clause-known
returns-in_default-module_in-clause-known c =
    let P : ResolvePathResult → Type 0 = λ r. KnowsAll c.args.world.now (res_holds r.resolved_def) in
    subst P (sym c.crossed-in_default-module_in.ensures) (crossed-known c.args.world.now c.segments.differing c.left_at.result c.left_at.ensures.known)

pub segments-preserved : goal.segments-preserved
unfolding read
segments-preserved c =
    let w = c.args.world.now in
    let next = c.in-Some-split_first.next.now in
    let after = c.in-Some-split_first.after.now in
    let cases = c.in-Some-split_first.ensures.cases in
    let shorter = cases.1 in
    let before = c.segments.invariant.counted in
    record {
      origin = c.entry-into.ensures.origin;
      krate = c.entry-into.ensures.krate;
      known = c.seen_type_in-types.ensures.known;
      counted = omega arith;
      same = λ L.
          walk-on w L c.segments.differing c.segments.origin (option_copied c.segments.types) c.segments.passed c.segments.segment.now next after c.segments.rest.now c.in-Some-types.item.now c.in-Some-module_in.m c.entry-into.result (option_copied c.seen_type_in-types.result) cases.0 (ap option_copied c.in-Some-types.is) (sym c.module_in.ensures ∙ c.in-Some-module_in.is) c.entry-into.ensures.value c.seen_type_in-types.ensures.value
          ∙ c.segments.invariant.same L;
    }

pub returns-clause-value : goal.returns-clause-value
returns-clause-value c = λ L.
    let w = c.args.world.now in
    let ended = nil_from_length c.segments.rest.now c.in_default-split_first.ensures.cases in
    c.last_answer.ensures.value L
    ∙ ap (λ ns. walk (tree_of w) (standing c.segments.differing c.segments.origin (option_copied c.segments.types)) c.segments.passed (map (read w L) (c.segments.segment.now ∷ ns))) (sym ended)
    ∙ c.segments.invariant.same L
