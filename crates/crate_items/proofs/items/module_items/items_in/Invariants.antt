use Rattle.std.proofs.Common.{◌++◌, List, drop}
use Rattle.crate_items.specs.ModuleItems.{AreItemsIn, AreTables}
use Rattle.crate_items.specs.declared.items.module_items.ModuleItem.{ModuleItem}
use Rattle.crate_items.proofs.items.module_items.items_in.Given as goal

-- whatever list of the items of the other homes is put behind, the whole list is right
abbrev pub invariant-loop-number : goal.invariant-loop-number
invariant-loop-number l = record {
  rows : (rest : List ModuleItem) → AreItemsIn l.list.sources l.number (drop l.number l.homes) rest → AreItemsIn l.list.sources 0 l.homes (l.rows.items ++ rest);
  tables : AreTables l.list.sources l.tables.entries;
}
