use Rattle.std.proofs.Common.{◌∙◌, subst, sym}
use Rattle.dm_base.specs.Tree.{IsKnown}
use Rattle.dm_maps.specs.Trees.{tree_of}
use Rattle.hir_def_map.proofs.VisibilityLemmas.{reached-known, restricted-known, module-known}
use Rattle.hir_def_map.proofs.path_resolution.DefMapResolvePath.resolve_visibility.Goals as goal

pub returns-in-PubSelf-clause-known : goal.returns-in-PubSelf-clause-known
returns-in-PubSelf-clause-known c = module-known c.args.world.now c.args.original_module c.in-PubSelf.explicitness c.origin_known.ensures.known

pub returns-in_ok-m-in-Module-clause-known : goal.returns-in_ok-m-in-Module-clause-known
returns-in_ok-m-in-Module-clause-known c =
    let w = c.args.world.now in
    let m = c.in_ok-m-in-Module.m in
    let known = reached-known w _ _ m c.resolve_path-left.ensures.known (sym c.module_reached.ensures ∙ c.in_ok-m-in-Module.was) in
    module-known w c.restricted-seen_in.result c.in-Module.explicitness
    (subst (IsKnown (tree_of w)) (sym c.restricted-seen_in.ensures) (restricted-known w c.args.self.now c.args.within_impl m known c.origin_known.ensures.root))
