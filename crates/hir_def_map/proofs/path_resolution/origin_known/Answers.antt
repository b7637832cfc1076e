use Rattle.dm_maps.specs.Trees.{tree_of}
use Rattle.hir_def_map.proofs.VisibilityLemmas.{crate-known}
use Rattle.hir_def_map.proofs.path_resolution.origin_known.Goals as goal

pub returns-clause-known : goal.returns-clause-known
unfolding tree_of
returns-clause-known c = c.facts_of.ensures.known c.args.m c.requires.lies

pub returns-clause-root : goal.returns-clause-root
unfolding tree_of
returns-clause-root c = c.facts_of.ensures.known c.args.map.now.root c.facts_of.ensures.root

pub returns-clause-krate : goal.returns-clause-krate
returns-clause-krate c = crate-known c.args.world.now c.args.map.now c.facts_of.ensures.shared
