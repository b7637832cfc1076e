use Rattle.std.proofs.Common.{◌∙◌, Bool, ap, not, true}
use Rattle.dm_base.specs.declared.ids.MapId.{MapId}
use Rattle.dm_base.specs.PerNs.{over}
use Rattle.dm_maps.specs.Readings.{setting_of, read}
use Rattle.hir_def_map.specs.Paths.{are_builtins_first, builtins_or_scope, extern_prelude, legacy, macro_use_prelude, of_prelude, prelude, unless_block_root}
use Rattle.hir_def_map.specs.LayerLaws.{laid-6}
use Rattle.hir_def_map.proofs.path_resolution.first_segment.plain_layers_at.Goals as goal

pub returns-clause-value : goal.returns-clause-value
unfolding read setting_of
returns-clause-value c =
    let w = setting_of c.args.world.now in
    let L = c.args.local.now in
    let s = read c.args.world.now L c.args.segment.now in
    let q = c.args.ask.now in
    let m = c.args.m in
    let first_is = c.are_builtins_first-builtins_first.ensures ∙ ap (λ x. are_builtins_first q x true) c.bound_in-bound.ensures.value in
    let id_is = c.map-id.ensures in
    let one = λ (b : Bool). builtins_or_scope w q m s b in
    let outer = unless_block_root w m (extern_prelude s) in
    let used = λ (id : MapId). of_prelude w q.expected (macro_use_prelude id s) in
    let last = λ (id : MapId). unless_block_root w m (of_prelude w q.expected (prelude w id s)) in
    let builtins_first = are_builtins_first q (s.bound m) true in
    c.over_prelude.ensures.value L
    ∙ (λ i. over (c.over_macro_use-used.ensures.value L i) (last (id_is i)))
    ∙ (λ i. over (over (c.over_extern-outer.ensures.value i) (used (id_is i))) (last (w.tree.map_of m)))
    ∙ (λ i. over (over (over (c.over_scope-own.ensures.value L i) outer) (used (w.tree.map_of m))) (last (w.tree.map_of m)))
    ∙ (λ i. over (over (over (over (over (c.legacy-textual.ensures.value L i) (one (first_is i))) (one (not (first_is i)))) outer) (used (w.tree.map_of m))) (last (w.tree.map_of m)))
    ∙ laid-6 (legacy w q.expected m s) (one builtins_first) (one (not builtins_first)) outer (used (w.tree.map_of m)) (last (w.tree.map_of m))
