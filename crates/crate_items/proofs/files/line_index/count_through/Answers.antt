use Rattle.std.proofs.Common.{arith, rules}
use Rattle.std.specs.Prelude.{nat_le}
use Rattle.std.proofs.lemmas.List.Sorted.{IsPartitionPoint-from_clause, IsPartitionedBy-leb}
use borrow.Author.Tests.{leb-false, leb-true}
use Rattle.crate_items.proofs.files.line_index.count_through.Goals as goal

pub returns-clause-through : goal.returns-clause-through
returns-clause-through c =
    let point = IsPartitionPoint-from_clause (λ y. nat_le y c.args.offset) c.args.starts.now c.partition_point.result c.partition_point.ensures.partitioned
    (IsPartitionedBy-leb (λ x. x) c.args.starts.now c.args.offset c.requires) (search rules) in
    λ k within. leb-true _ _ (point.0 k 0 (omega arith) within)

pub returns-clause-past : goal.returns-clause-past
returns-clause-past c =
    let point = IsPartitionPoint-from_clause (λ y. nat_le y c.args.offset) c.args.starts.now c.partition_point.result c.partition_point.ensures.partitioned
    (IsPartitionedBy-leb (λ x. x) c.args.starts.now c.args.offset c.requires) (search rules) in
    λ k past within. leb-false _ _ (point.1 k 0 past within)
