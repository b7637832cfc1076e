-- A crate with a struct in its root, and what its name means there.
use Rattle.std.specs.Prelude.{◌≡◌, [], ◌∷◌, None, Some, codes, refl}
use Rattle.dm_base.specs.Names.{Name}
use Rattle.dm_base.specs.declared.ids.ModuleId.{ModuleId}
use Rattle.dm_base.specs.declared.item_ids.AdtId.TheVariants as adt
use Rattle.dm_base.specs.declared.item_ids.ItemKind.TheVariants.{Struct}
use Rattle.dm_base.specs.declared.item_ids.ModuleDefId.{ModuleDefId}
use Rattle.dm_base.specs.declared.item_ids.ModuleDefId.TheVariants as def
use Rattle.dm_base.specs.declared.edition.Edition.TheVariants.{Edition2021}
use Rattle.dm_base.specs.declared.source.EditionedFileId.{EditionedFileId}
use Rattle.dm_base.specs.PerNs.{definition, type_alone}
use Rattle.dm_base.specs.declared.mod_path.PathKind.TheVariants.{Plain}
use Rattle.dm_base.specs.declared.per_ns.PerNs.{PerNs}
use Rattle.dm_base.specs.declared.visibility.Visibility.TheVariants.{Public}
use Rattle.dm_def_map.specs.declared.modules.modes.BuiltinShadowMode.TheVariants.{Module}
use Rattle.dm_scope.specs.Flags.{no_globs}
use Rattle.dm_maps.specs.Build.{no_world, with_crate, with_item}
use Rattle.dm_maps.specs.PushRes.{with_push}
use Rattle.dm_maps.specs.World.{World}
use Rattle.hir_def_map.specs.Paths.{answer, asked}
use Rattle.hir_def_map.specs.declared.path_resolution.result.ResolveMode.TheVariants.{Other}

abbrev pub root : ModuleId
root = record { 0 = 0 }

abbrev pub struct_0 : ModuleDefId
struct_0 = def.AdtId (adt.StructId (record { 0 = 0 }))

-- the tables of a crate with a struct in its root
abbrev pub tables_of : EditionedFileId → World
tables_of f = with_item (with_crate no_world Edition2021 f) Struct root

-- a world in which the root binds the struct to a name, for everyone
abbrev pub world_of : World → Name → World
world_of w n = with_push w no_globs root n (type_alone struct_0 Public None) None

-- what the name `S` means in the root of that world
abbrev pub meant : EditionedFileId → PerNs
meant f =
    (answer (world_of (tables_of f) (codes "S")) [] (asked root Other Module None Plain) (codes "S" ∷ [])).resolved_def

-- It means the struct.
pub is_struct : (f : EditionedFileId) → definition (meant f).types ≡ Some struct_0
unfolding answer
is_struct f = refl
