-- Why the crates of a graph are not collected.
use Rattle.crate_items.specs.CrateGraphs.{Graph, IsCircle, numbers, rows}
use Rattle.crate_tables.specs.CrateFillings.{IsFaultIn, Reading}
use Rattle.crate_tables.specs.declared.fill_fault.FillFault.TheVariants as filling
use Rattle.dm_collector.specs.declared.collect_fault.CollectFault.{CollectFault}
use Rattle.dm_collector.specs.declared.collect_fault.CollectFault.TheVariants as faults

-- Why the crates of a graph are not collected; where memory or numbers run out, nothing more is said.
abbrev pub IsFault : Reading → Graph → CollectFault → Type 0
IsFault r g (faults.Cycle circle) = IsCircle (rows g) (numbers circle.items)
IsFault r g (faults.NoRootFile k) = IsFaultIn r g (filling.NoRootFile k)
IsFault r g (faults.TooManyModules k) = IsFaultIn r g (filling.TooManyModules k)
IsFault r g faults.OutOfNumbers = Unit {0}
IsFault r g faults.OutOfMemory = Unit {0}
