-- Who sees the constructors of variants under `#[non_exhaustive]`: their crate alone.
use Rattle.std.specs.Prelude.{◌+◌, ◌++◌, ℕ, List, [], ◌∷◌, Option, Some, None, fold, slice_get, if◌then◌else◌}
use Rattle.std.specs.List.{flat_map}
use Rattle.std.specs.Option.{option_map_or, option_or}
use Rattle.crate_items.specs.CrateGraphs.{Data, Graph}
use Rattle.crate_items.specs.DeclaredVariants.{variants_from}
use Rattle.crate_items.specs.Files.{SourceFile, text_of}
use Rattle.crate_items.specs.Modules.{Listing}
use Rattle.crate_items.specs.Sources.{source_at}
use Rattle.crate_items.specs.declared.items.declared_variant.DeclaredVariant.{DeclaredVariant}
use Rattle.crate_tables.specs.CrateTables.{Table}
use Rattle.crate_tables.specs.declared.item_place.DefPlace.{DefPlace}
use Rattle.dm_base.specs.Names.{find_name}
use Rattle.dm_base.specs.declared.ids.Crate.{Crate}
use Rattle.dm_base.specs.declared.ids.EnumId.{EnumId}
use Rattle.dm_base.specs.declared.ids.EnumVariantId.{EnumVariantId}
use Rattle.dm_base.specs.declared.item_ids.AdtId.TheVariants as adt
use Rattle.dm_base.specs.declared.item_ids.ModuleDefId.{ModuleDefId}
use Rattle.dm_base.specs.declared.item_ids.ModuleDefId.TheVariants as def
use Rattle.dm_base.specs.declared.visibility.Visibility.{Visibility}
use Rattle.dm_base.specs.declared.visibility.Visibility.TheVariants.{PubCrate}
use Rattle.dm_imports.specs.Declarations.{same_variant}
use Rattle.dm_maps.specs.Readings.{variants_of}
use Rattle.dm_maps.specs.World.{World}
use Rattle.item_tree.specs.declared.cfg.CfgAtom.{CfgAtom}

-- a constructor that not all see who see its enum, and who does
abbrev pub Constructor : Type 0
Constructor = EnumVariantId × Visibility

-- a variant of an enum of a crate
abbrev pub of_variant : World → Crate → EnumId → DeclaredVariant → List Constructor
of_variant w k e v = if v.is_non_exhaustive then option_map_or (λ x. (x.0, PubCrate k) ∷ []) (find_name v.name (variants_of w e)) [] else []

abbrev pub of_def : World → Crate → ModuleDefId → List DeclaredVariant → List Constructor
of_def w k (def.AdtId (adt.EnumId e)) vs = flat_map (of_variant w k e) vs
of_def w k _ vs = []

-- a definition of a crate, by where it is written
abbrev pub of_place : World → List SourceFile → Crate → List CfgAtom → Listing → DefPlace → List Constructor
of_place w files k options l p = of_def w k p.def (variants_from options (text_of files p.file) (source_at l.sources p.file) p.item)

-- a crate
abbrev pub of_crate : World → List SourceFile → Crate → Data → List DefPlace → Option Listing → List Constructor
of_crate w files k d ps None = []
of_crate w files k d ps (Some l) = flat_map (of_place w files k d.cfg_options l) ps

abbrev pub places_in : Option Table → List DefPlace
places_in o = option_map_or (λ (t : Table). t.defs) o []

-- those of some crates, the first of which has this number
abbrev pub constructors : World → List SourceFile → List Listing → List Table → ℕ → Graph → List Constructor
constructors w files ls ts n [] = []
constructors w files ls ts n (d ∷ ds) =
    of_crate w files (record { 0 = n }) d (places_in (slice_get ts n)) (slice_get ls n) ++ constructors w files ls ts (n + 1) ds

-- who sees a constructor, by the last of some that says so
abbrev pub if_same : EnumVariantId → Constructor → Option Visibility
if_same v c = if same_variant c.0 v then Some c.1 else None

abbrev pub constructor_vis : List Constructor → EnumVariantId → Option Visibility
constructor_vis cs v = fold (λ o c. option_or (if_same v c) o) None cs
