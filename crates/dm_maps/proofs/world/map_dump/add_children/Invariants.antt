use Rattle.std.proofs.Common.{◌≡◌, ◌++◌, length}
use Rattle.std.specs.List.{flat_map}
use Rattle.dm_scope.specs.Sorted.{seen}
use Rattle.dm_maps.specs.Branches.{AllLie, child_text, children_text, left_text}
use Rattle.dm_maps.proofs.world.map_dump.add_children.Given as goal

-- the trees of the names that are left, with what is put, are those of all children
abbrev pub invariant-loop-name : goal.invariant-loop-name
invariant-loop-name l = record {
  text : flat_map (child_text l.world l.map l.path l.parent) (seen l.names.items) ++ left_text l.world l.map l.left.items
      ≡ children_text l.world l.map l.path l.parent ++ left_text l.world l.map l.fn.left.items;
  lie : AllLie l.map l.left.items;
}

abbrev pub decreases-loop-name : goal.decreases-loop-name
decreases-loop-name l = length l.names.items
