use Rattle.std.proofs.Common.{◌≡◌, ◌∙◌, Option, Some, None, ap, refl, slice_get, unwrap_or, length}
use Rattle.dm_base.specs.Tree.{Tree, home, outer, in_block_map}
use Rattle.dm_base.specs.declared.ids.ModuleId.{ModuleId}
use Rattle.dm_maps.specs.Trees.{tree_of}
use Rattle.hir_def_map.specs.Answers.{yes_in_block}
use Rattle.hir_def_map.specs.Paths.{enter_within, stop, root_item}
use Rattle.hir_def_map.proofs.laws.enters_at_home.Goals as goal

twice : (o : Option ModuleId) (m : ModuleId) → unwrap_or o m ≡ unwrap_or o (unwrap_or o m)
twice None m = refl
twice (Some x) m = refl

-- the nearest is its own nearest
home-home : (t : Tree) (m : ModuleId) → outer t m ≡ outer t (home t m) → home t m ≡ home t (home t m)
home-home t m same = twice (slice_get (outer t m) 0) m ∙ ap (λ ms. unwrap_or (slice_get ms 0) (home t m)) same

pub returns : goal.returns
returns c = λ S.
    let t = tree_of c.args.world.now in
    let m = c.args.m in
    let at_home = c.home-inside.ensures.outer ∙ ap (outer t) c.home-inside.ensures.value in
    ap (λ h. yes_in_block (in_block_map t h) (stop (enter_within (length S) t) t h (root_item h) 0 S)) (home-home t m at_home)
