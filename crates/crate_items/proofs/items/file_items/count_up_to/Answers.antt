use Rattle.std.proofs.Common.{rules}
use Rattle.std.specs.Prelude.{nat_le}
use Rattle.std.proofs.lemmas.List.Sorted.{IsPartitionPoint-from_clause, IsPartitionedBy-leb}
use Rattle.crate_items.specs.FileItems.{rank}
use Rattle.crate_items.specs.declared.items.file_items.Homed.{Homed}
use Rattle.crate_items.proofs.items.file_items.count_up_to.Goals as goal

pub returns-clause-parted : goal.returns-clause-parted
returns-clause-parted c =
    IsPartitionPoint-from_clause (λ (x : Homed). nat_le (rank x) c.args.rank) c.args.items.now c.partition_point.result c.partition_point.ensures.partitioned
    (IsPartitionedBy-leb rank c.args.items.now c.args.rank c.requires) (λ a r f k. search rules)
