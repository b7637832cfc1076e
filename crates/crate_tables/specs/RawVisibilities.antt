-- Visibilities as they are written, in the tables of a builder.
use Rattle.std.specs.Prelude.{List, [], ◌∷◌}
use Rattle.crate_items.specs.DeclaredFields.{field_visibilities}
use Rattle.crate_items.specs.RawVisibilities.{item_visibility}
use Rattle.crate_items.specs.declared.items.declared_item.DeclaredItem.{DeclaredItem}
use Rattle.crate_tables.specs.CrateDefs.{with_items}
use Rattle.crate_tables.specs.CrateMaps.{Filled}
use Rattle.crate_tables.specs.NewModules.{CrateView}
use Rattle.crate_tables.specs.declared.item_place.DefPlace.{DefPlace}
use Rattle.dm_base.specs.declared.item_ids.AdtId.TheVariants as adt
use Rattle.dm_base.specs.declared.item_ids.ModuleDefId.{ModuleDefId}
use Rattle.dm_base.specs.declared.item_ids.ModuleDefId.TheVariants as def
use Rattle.dm_base.specs.declared.item_ids.VariantId.{VariantId}
use Rattle.dm_base.specs.declared.item_ids.VariantId.TheVariants as variant
use Rattle.dm_maps.specs.BuildTables.{with_fields, with_trait_visibility}
use Rattle.dm_maps.specs.World.{World}

-- the fields of what is written at a place have the visibilities that are written there
abbrev pub with_fields_at : CrateView → World → VariantId → DefPlace → World
with_fields_at c w v p = with_fields w v (field_visibilities c.options c.list c.files p.file p.item)

-- a struct and a union have fields, a trait has its own visibility; variants have theirs where they are added
abbrev pub with_raw_as : CrateView → World → DefPlace → ModuleDefId → World
with_raw_as c w p (def.AdtId (adt.StructId s)) = with_fields_at c w (variant.StructId s) p
with_raw_as c w p (def.AdtId (adt.UnionId u)) = with_fields_at c w (variant.UnionId u) p
with_raw_as c w p (def.TraitId t) = with_trait_visibility w t (item_visibility c.list c.files p.file p.item)
with_raw_as c w p _ = w

-- what is written of each of these definitions is set, in order
abbrev pub with_raw_visibilities : CrateView → World → List DefPlace → World
with_raw_visibilities c w [] = w
with_raw_visibilities c w (p ∷ ps) = with_raw_visibilities c (with_raw_as c w p p.def) ps

-- Items are added, and then what is written of all that the table of the crate has.
abbrev pub with_raw_set : CrateView → Filled → Filled
with_raw_set c s = record s { world = with_raw_visibilities c s.world s.table.defs }

abbrev pub with_written_items : CrateView → Filled → List DeclaredItem → Filled
with_written_items c s xs = with_raw_set c (with_items c s xs)
