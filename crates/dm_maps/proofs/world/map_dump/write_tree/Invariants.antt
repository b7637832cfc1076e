use Rattle.std.proofs.Common.{◌≡◌, ◌++◌, length, string_bytes}
use Rattle.dm_maps.specs.Branches.{AllLie, left_text}
use Rattle.dm_maps.specs.MapDumps.{tree}
use Rattle.dm_maps.proofs.world.map_dump.write_tree.Given as goal

-- what is written, with the trees that are left, is all
abbrev pub invariant-loop-next : goal.invariant-loop-next
invariant-loop-next l = record {
  text : string_bytes l.text ++ left_text l.world l.map l.left.items ≡ string_bytes l.fn.text ++ tree l.world l.map l.path l.map.root;
  lie : AllLie l.map l.left.items;
}

abbrev pub decreases-loop-next : goal.decreases-loop-next
decreases-loop-next l = length (left_text l.world l.map l.left.items)
