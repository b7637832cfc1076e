use Rattle.std.proofs.Common.{rules}
use Rattle.std.specs.Prelude.{nat_le}
use Rattle.std.proofs.lemmas.List.Sorted.{IsPartitionPoint-from_clause, IsPartitionedBy-leb}
use Rattle.item_tree.specs.Children.{rank_of}
use Rattle.item_tree.specs.declared.items.Item.{Item}
use Rattle.item_tree.proofs.lexer.children.count_before.Goals as goal

pub returns-clause-parted : goal.returns-clause-parted
returns-clause-parted c =
    IsPartitionPoint-from_clause (λ (x : Item). nat_le (rank_of x.parent) c.args.number) c.args.items.now c.partition_point.result c.partition_point.ensures.partitioned
    (IsPartitionedBy-leb (λ (x : Item). rank_of x.parent) c.args.items.now c.args.number c.requires) (λ a r f k. search rules)
