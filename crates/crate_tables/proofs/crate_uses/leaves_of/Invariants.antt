use Rattle.std.proofs.Common.{◌≡◌}
use Rattle.std.specs.Prelude.{map}
use Rattle.crate_tables.specs.CrateUses.{leaf_in}
use Rattle.crate_tables.proofs.crate_uses.leaves_of.Given as goal

abbrev pub invariant-loop-import : goal.invariant-loop-import
invariant-loop-import l = l.leaves.items ≡ map (leaf_in l.textual l.number l.item l.home l.visibility l.use_) l.yielded
