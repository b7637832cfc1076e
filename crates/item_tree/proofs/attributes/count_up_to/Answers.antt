use Rattle.std.proofs.Common.{rules}
use Rattle.std.specs.Prelude.{nat_le}
use Rattle.std.proofs.lemmas.List.Sorted.{IsPartitionPoint-from_clause, IsPartitionedBy-leb}
use Rattle.item_tree.specs.declared.attributes.Attribute.{Attribute}
use Rattle.item_tree.proofs.attributes.count_up_to.Goals as goal

pub returns-clause-parted : goal.returns-clause-parted
returns-clause-parted c =
    IsPartitionPoint-from_clause (λ (a : Attribute). nat_le a.input.first c.args.place) c.args.attributes.now c.partition_point.result c.partition_point.ensures.partitioned
    (IsPartitionedBy-leb (λ (a : Attribute). a.input.first) c.args.attributes.now c.args.place c.requires) (λ a r f k. search rules)
