use Rattle.std.proofs.Common.{◌≡◌, ◌+◌, ◌-◌, ◌≤◌, length, drop}
use Rattle.std.specs.List.{prefix_len}
use Rattle.crate_items.specs.UsePaths.{is_super_at}
use Rattle.crate_items.proofs.items.use_paths.supers.Given as goal

abbrev pub invariant-loop-count : goal.invariant-loop-count
invariant-loop-count l = record {
  in_range : l.count ≤ length l.places;
  counted : l.count + prefix_len (is_super_at l.lexemes) (drop l.count l.places) ≡ prefix_len (is_super_at l.lexemes) l.places;
}

abbrev pub decreases-loop-count : goal.decreases-loop-count
decreases-loop-count l = length l.places - l.count
