-- Insertion into an extern prelude.
use Rattle.std.specs.Prelude.{Option}
use Rattle.indexmap.specs.IndexMap.{insert_entry}
use Rattle.dm_base.specs.declared.ids.ExternCrateId.{ExternCrateId}
use Rattle.dm_base.specs.declared.ids.ModuleId.{ModuleId}
use Rattle.dm_base.specs.Names.{Name, same_name}
use Rattle.dm_def_map.specs.Maps.{LocalMap}

-- with an entry: a name that is there keeps its place and takes the new entry, a new name goes last
abbrev pub with_extern : LocalMap → Name → ModuleId → Option ExternCrateId → LocalMap
with_extern L n m x = insert_entry same_name L n (m, x)
