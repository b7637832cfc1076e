-- `RawVisibility` in a world's tables: visibilities as they are written. What was not set is not there.
use Rattle.std.specs.Prelude.{List, Option}
use Rattle.std.specs.Map.{lookup}
use Rattle.dm_base.specs.declared.ids.TraitId.{TraitId}
use Rattle.dm_base.specs.declared.item_ids.AssocItemId.{AssocItemId}
use Rattle.dm_base.specs.declared.item_ids.ItemContainerId.{ItemContainerId}
use Rattle.dm_base.specs.declared.item_ids.VariantId.{VariantId}
use Rattle.dm_base.specs.declared.visibility.RawVisibility.{RawVisibility}
use Rattle.dm_def_map.specs.Keys.{same_variant, same_assoc, same_trait}
use Rattle.dm_maps.specs.World.{World}

-- the visibilities of the fields of a variant, a struct or a union, in order
abbrev pub fields_in : World → VariantId → Option (List RawVisibility)
fields_in w v = lookup (same_variant v) w.item_tables.fields

-- what an associated item lies in, and its visibility
abbrev pub assoc_in : World → AssocItemId → Option (ItemContainerId × RawVisibility)
assoc_in w a = lookup (same_assoc a) w.item_tables.assocs

-- the visibility of a trait
abbrev pub trait_visibility_in : World → TraitId → Option RawVisibility
trait_visibility_in w t = lookup (same_trait t) w.item_tables.traits
