-- Setters for the def maps of a builder, and for its extern preludes. What each makes of its map: `changed`.
use Rattle.std.specs.Prelude.{◌≡◌, ℕ, Bool, not, true, nat_eq, List, Option, Some, None, Result, Err, IsOk, slice_get, slice_set}
use Rattle.std.specs.Option.{option_map_or}
use Rattle.dm_base.specs.declared.ids.Crate.{Crate}
use Rattle.dm_base.specs.declared.ids.ExternCrateId.{ExternCrateId}
use Rattle.dm_base.specs.declared.ids.MapId.{MapId}
use Rattle.dm_base.specs.declared.ids.ModuleId.{ModuleId}
use Rattle.dm_base.specs.declared.ids.UseId.{UseId}
use Rattle.dm_base.specs.declared.item_ids.MacroId.{MacroId}
use Rattle.dm_base.specs.declared.source.AstId.{AstId}
use Rattle.dm_base.specs.Names.{Name}
use Rattle.dm_scope.specs.declared.diagnostics.DefDiagnostic.{DefDiagnostic}
use Rattle.dm_maps.specs.declared.build_fault.BuildFault.{BuildFault}
use Rattle.dm_maps.specs.declared.check.held.HeldId.TheVariants as held
use Rattle.dm_def_map.specs.Maps.{Map, LocalMap}
use Rattle.dm_maps.specs.Maps.{maps_with}
use Rattle.dm_maps.specs.World.{World, numbered_map, maps_of, with_maps}
use Rattle.dm_maps.specs.Known.{knows}
use Rattle.dm_maps.specs.Faults.{first_fault, none_found}
use Rattle.dm_def_map.specs.declared.map_change.MapChange.TheVariants as change
use Rattle.dm_def_map.specs.MapChanges.{changed}
use Rattle.dm_def_map.specs.Helpers.{Helper}
use Rattle.dm_def_map.specs.Locals.{with_extern}

-- the world, with f of the map of that id
abbrev pub with_map : World → MapId → (Map → Map) → World
with_map w id f = with_maps w (maps_with (maps_of w) id f)

-- with that prelude module, or none
abbrev pub with_prelude : World → MapId → Option (ModuleId × Option UseId) → World
with_prelude w id p = with_map w id (changed (change.Prelude p))

-- with a macro in the `macro_use` prelude
abbrev pub with_macro_use : World → MapId → Name → MacroId → Option ExternCrateId → World
with_macro_use w id n m x = with_map w id (changed (change.MacroUse n (m, x)))

-- with the macro that an AST item defines
abbrev pub with_macro_def : World → MapId → AstId → MacroId → World
with_macro_def w id a m = with_map w id (changed (change.MacroDef a m))

-- with a derive helper at an AST item
abbrev pub with_helper : World → MapId → AstId → Helper → World
with_helper w id a h = with_map w id (changed (change.Helper a h))

-- with a diagnostic
abbrev pub with_diagnostic : World → MapId → DefDiagnostic → World
with_diagnostic w id d = with_map w id (changed (change.Diagnostic d))

abbrev pub locals_with : List LocalMap → ℕ → (LocalMap → LocalMap) → List LocalMap
locals_with Ls k f = option_map_or (λ L. slice_set Ls k (f L)) (slice_get Ls k) Ls

-- with an entry of a crate's extern prelude
abbrev pub with_extern_of : World → Crate → Name → ModuleId → Option ExternCrateId → World
with_extern_of w k n m x = record w { local_maps = locals_with w.local_maps k.0 (λ L. with_extern L n m x) }

-- there is no map of that number, or it is another crate's
abbrev pub lacks_map : World → MapId → Bool
lacks_map w id = option_map_or (λ m. not (nat_eq m.id.krate.0 id.krate.0)) (numbered_map w id) true

-- of what is set in a map
abbrev pub map_fault : World → MapId → Option BuildFault
map_fault w id = first_fault (record none_found { no_crate = lacks_map w id })

-- of what is set for a crate
abbrev pub crate_fault : World → Crate → Option BuildFault
crate_fault w k = first_fault (record none_found { no_crate = not (knows w (held.Crate k)) })

-- the fault that there is, and none else, since no memory is taken
abbrev pub AnswersFree : {A : Type 0} → Option BuildFault → Result A BuildFault → Type 0
AnswersFree None r = IsOk r
AnswersFree (Some fault) r = r ≡ Err fault
