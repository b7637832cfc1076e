use Rattle.std.proofs.Common.{◌≡◌, ◌+◌, ◌++◌, drop}
use Rattle.crate_tables.specs.Containers.{impls_from}
use Rattle.crate_tables.proofs.assoc_items.containers.push_impls.Given as goal

abbrev pub invariant-loop-block : goal.invariant-loop-block
invariant-loop-block l =
    (l.found.items ++ impls_from l.number (drop l.block-index l.blocks) ≡ l.fn.found.items ++ impls_from l.first l.blocks)
    × (l.number ≡ l.first + l.block-index)
