-- Which ids maps and modules hold.
use Rattle.std.specs.Prelude.{List, [], ◌++◌}
use Rattle.std.specs.Option.{option_map_or}
use Rattle.dm_maps.specs.declared.check.held.HeldId.{HeldId}
use Rattle.dm_maps.specs.Holding.{vis_holds}
use Rattle.dm_maps.specs.ScopeHolds.{prelude_holds, macro_uses_hold, scope_holds}
use Rattle.dm_maps.specs.TablesHold.{macro_defs_hold, helpers_hold, diagnostics_hold}
use Rattle.dm_def_map.specs.Maps.{Map, Module}

-- a map holds its prelude's ids and the macros that `#[macro_use]` brings
abbrev pub preludes_hold : Map → List HeldId
preludes_hold m = option_map_or prelude_holds m.prelude [] ++ macro_uses_hold m.macro_use

-- and the macros of its definitions in the AST and of its derive helpers, and what its diagnostics hold
abbrev pub map_holds : Map → List HeldId
map_holds m = preludes_hold m ++ (macro_defs_hold m.macro_defs ++ (helpers_hold m.derive_helpers ++ diagnostics_hold m.diagnostics))

-- a module holds its visibility's ids and what its scope holds
abbrev pub module_holds : Module → List HeldId
module_holds d = vis_holds d.visibility ++ scope_holds d.scope
