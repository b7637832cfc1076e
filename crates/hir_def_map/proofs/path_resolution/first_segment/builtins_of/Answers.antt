use Rattle.std.proofs.Common.{◌≡◌, ◌∙◌, ap, sym, cond, Option, None, is_some}
use Rattle.dm_base.specs.declared.ids.BlockId.{BlockId}
use Rattle.dm_base.specs.PerNs.{nothing}
use Rattle.dm_base.specs.Tree.{block_of}
use Rattle.dm_maps.specs.Readings.{read, setting_of}
use Rattle.dm_maps.specs.Trees.{tree_of}
use Rattle.hir_def_map.specs.Paths.{builtin}
use Rattle.hir_def_map.proofs.path_resolution.first_segment.builtins_of.Goals as goal

pub returns-in-None-clause-value : goal.returns-in-None-clause-value
unfolding setting_of
returns-in-None-clause-value c = λ L.
    let is : block_of (tree_of c.args.world.now) c.args.m ≡ None = sym c.block.ensures ∙ c.in-None.is in
    c.builtin.ensures.value L ∙ sym (ap (λ (o : Option BlockId). cond (is_some o) nothing (builtin (read c.args.world.now L c.args.segment.now))) is)
