-- What a push holds.
use Rattle.std.specs.Prelude.{List, [], ◌∷◌, ◌++◌, Option}
use Rattle.std.specs.Option.{option_map_or}
use Rattle.dm_base.specs.declared.ids.ModuleId.{ModuleId}
use Rattle.dm_base.specs.declared.imports.ImportOrExternCrate.{ImportOrExternCrate}
use Rattle.dm_base.specs.declared.per_ns.PerNs.{PerNs}
use Rattle.dm_maps.specs.declared.check.held.HeldId.{HeldId}
use Rattle.dm_maps.specs.declared.check.held.HeldId.TheVariants as held
use Rattle.dm_maps.specs.Holding.{res_holds, import_holds}

-- its module, its import, and what it resolves to; a push without an import holds its module and what it resolves to
abbrev pub push_holds : ModuleId → PerNs → Option ImportOrExternCrate → List HeldId
push_holds m x i = (held.Module m ∷ []) ++ (option_map_or import_holds i [] ++ res_holds x)
