-- Setters for the tables that belong to no map and no module.
use Rattle.std.specs.Prelude.{List}
use Rattle.dm_base.specs.declared.ids.TraitId.{TraitId}
use Rattle.dm_base.specs.declared.item_ids.AssocItemId.{AssocItemId}
use Rattle.dm_base.specs.declared.item_ids.ItemContainerId.{ItemContainerId}
use Rattle.dm_base.specs.declared.item_ids.VariantId.{VariantId}
use Rattle.dm_base.specs.declared.visibility.RawVisibility.{RawVisibility}
use Rattle.dm_base.specs.Names.{Name}
use Rattle.dm_def_map.specs.ItemTables.{with_raw_name}
use Rattle.dm_def_map.specs.TableChanges.{with_field_list, with_assoc, with_trait}
use Rattle.dm_maps.specs.World.{World}

-- the world with a name that is printed as raw
abbrev pub with_raw : World → Name → World
with_raw w n = record w { item_tables = with_raw_name w.item_tables n }

-- with the visibilities of the fields of a variant, a struct or a union, in order
abbrev pub with_fields : World → VariantId → List RawVisibility → World
with_fields w v vs = record w { item_tables = with_field_list w.item_tables v vs }

-- with what an associated item lies in, and its visibility
abbrev pub with_assoc_item : World → AssocItemId → ItemContainerId → RawVisibility → World
with_assoc_item w a c v = record w { item_tables = with_assoc w.item_tables a c v }

-- with the visibility of a trait
abbrev pub with_trait_visibility : World → TraitId → RawVisibility → World
with_trait_visibility w t v = record w { item_tables = with_trait w.item_tables t v }
