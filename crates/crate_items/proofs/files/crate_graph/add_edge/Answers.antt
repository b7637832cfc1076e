use Rattle.std.proofs.Common.{ap, ◌∙◌, slice_set}
use Rattle.crate_items.proofs.EdgeLemmas.{set-with_edge}
use Rattle.crate_items.proofs.files.crate_graph.add_edge.Goals as goal

pub returns-clause-ok : goal.returns-clause-ok
returns-clause-ok c =
    ap (slice_set c.args.crates.now.items c.args.from) c.in_ok-add_dependency.ensures.ok
    ∙ set-with_edge c.args.crates.now.items c.args.from c.args.dependency _ c.requires.from c.index_mut.ensures.value
