-- Changes of a def map, outside its modules.
use Rattle.std.specs.Prelude.{[], ◌∷◌, ◌++◌, Bool, true, false}
use Rattle.indexmap.specs.IndexMap.{insert_entry}
use Rattle.dm_base.specs.Names.{same_name}
use Rattle.dm_base.specs.Sameness.{same_ast}
use Rattle.dm_def_map.specs.declared.map_change.MapChange.{MapChange}
use Rattle.dm_def_map.specs.declared.map_change.MapChange.TheVariants.{Prelude, MacroUse, MacroDef, Helper, Diagnostic}
use Rattle.dm_def_map.specs.HelperChanges.{helpers_with}
use Rattle.dm_def_map.specs.Maps.{Map}

-- the map after it: an entry of a table that is set again keeps its place and is replaced, and a diagnostic goes last
abbrev pub changed : MapChange → Map → Map
changed (Prelude p) m = record m { prelude = p }
changed (MacroUse n e) m = record m { macro_use = insert_entry same_name m.macro_use n e }
changed (MacroDef a d) m = record m { macro_defs = insert_entry same_ast m.macro_defs a d }
changed (Helper a h) m = record m { derive_helpers = helpers_with m.derive_helpers a h }
changed (Diagnostic d) m = record m { diagnostics = m.diagnostics ++ d ∷ [] }

-- whether the change may allocate
abbrev pub grows : MapChange → Bool
grows (Prelude p) = false
grows (MacroUse n e) = true
grows (MacroDef a d) = true
grows (Helper a h) = true
grows (Diagnostic d) = true
