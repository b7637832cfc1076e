-- Examples of dumps of def maps: equations that compute.
use Rattle.std.specs.Prelude.{◌≡◌, ℕ, Some, None, codes, refl, slice_get}
use Rattle.std.specs.Option.{option_map}
use Rattle.dm_base.specs.declared.ids.ModuleId.{ModuleId}
use Rattle.dm_base.specs.declared.item_ids.AdtId.TheVariants as adt
use Rattle.dm_base.specs.declared.item_ids.ModuleDefId.{ModuleDefId}
use Rattle.dm_base.specs.declared.item_ids.ModuleDefId.TheVariants as def
use Rattle.dm_base.specs.declared.edition.Edition.TheVariants.{Edition2021}
use Rattle.dm_base.specs.declared.source.EditionedFileId.{EditionedFileId}
use Rattle.dm_base.specs.declared.source.HirFileId.TheVariants.{File}
use Rattle.dm_base.specs.declared.visibility.Visibility.{Visibility}
use Rattle.dm_base.specs.declared.visibility.Visibility.TheVariants.{Module, Public}
use Rattle.dm_base.specs.declared.visibility.VisibilityExplicitness.TheVariants.{Implicit}
use Rattle.dm_base.specs.Names.{Name}
use Rattle.dm_scope.specs.Flags.{no_globs}
use Rattle.dm_def_map.specs.declared.modules.module_origin.ModuleOrigin.TheVariants.{Inline}
use Rattle.dm_maps.specs.PushRes.{with_push}
use Rattle.dm_maps.specs.Build.{no_world, with_crate, with_module}
use Rattle.dm_maps.specs.BuildBlocks.{with_block}
use Rattle.dm_maps.specs.MapDumps.{map_dump}
use Rattle.dm_maps.specs.ScopeTables.{scope_tables}
use Rattle.dm_maps.specs.World.{World}

abbrev number : ℕ → ModuleId
number n = record { 0 = n }

abbrev file : EditionedFileId
file = record { file = record { 0 = 0 }; edition = Edition2021 }

-- a module, a block, and a type that is pushed without an import
abbrev and_module : World → ℕ → Name → World
and_module w m n = with_module w (number m) n (Inline (record { file = File file; block = None }) (record { 0 = 0 })) Public

abbrev and_block : World → ℕ → World
and_block w m = with_block w (number m) (record { file_id = File file; value = record { 0 = 0 } })

abbrev and_type : World → ℕ → Name → ModuleDefId → Visibility → World
and_type w m n d v = with_push w no_globs (number m) n (record { types = Some (record { def = d; vis = v; import = None }); values = None; macros = None }) None

-- a crate with a module `a`, in which a block binds a type
abbrev one_block : World
one_block =
    and_type (and_type (and_block (and_module (with_crate no_world Edition2021 file) 0 (codes "a")) 1)
    0 (codes "a") (def.ModuleId (number 1)) Public)
    2 (codes "T") (def.AdtId (adt.StructId (record { 0 = 0 }))) (Module (number 2) Implicit)

-- the block's map first, and then the crate's
block_and_crate : option_map (map_dump one_block) (slice_get one_block.block_maps 0)
    ≡ Some (codes "(block scope)\n- T : type\n\ncrate\n- a : type\n\ncrate::a\n")
unfolding scope_tables
block_and_crate = refl

-- children in order of names, each with its own before the next
abbrev three_modules : World
three_modules = and_module (and_module (and_module (with_crate no_world Edition2021 file) 0 (codes "b")) 1 (codes "c")) 0 (codes "a")

children_first : option_map (map_dump three_modules) (slice_get three_modules.crate_maps 0)
    ≡ Some (codes "crate\n\ncrate::a\n\ncrate::b\n\ncrate::b::c\n")
unfolding scope_tables
children_first = refl
