-- What the setters of item tables do: the entry of a key that is there keeps its place and is replaced.
use Rattle.std.specs.Prelude.{List}
use Rattle.indexmap.specs.IndexMap.{insert_entry}
use Rattle.dm_base.specs.declared.ids.TraitId.{TraitId}
use Rattle.dm_base.specs.declared.item_ids.AssocItemId.{AssocItemId}
use Rattle.dm_base.specs.declared.item_ids.ItemContainerId.{ItemContainerId}
use Rattle.dm_base.specs.declared.item_ids.VariantId.{VariantId}
use Rattle.dm_base.specs.declared.visibility.RawVisibility.{RawVisibility}
use Rattle.dm_def_map.specs.ItemTables.{ItemTables}
use Rattle.dm_def_map.specs.Keys.{same_variant, same_assoc, same_trait}

-- with the visibilities of fields, in order
abbrev pub with_field_list : ItemTables → VariantId → List RawVisibility → ItemTables
with_field_list t v vs = record t { fields = insert_entry same_variant t.fields v vs }

-- with the container of an associated item, and its visibility
abbrev pub with_assoc : ItemTables → AssocItemId → ItemContainerId → RawVisibility → ItemTables
with_assoc t a c v = record t { assocs = insert_entry same_assoc t.assocs a (c, v) }

-- with the visibility of a trait
abbrev pub with_trait : ItemTables → TraitId → RawVisibility → ItemTables
with_trait t i v = record t { traits = insert_entry same_trait t.traits i v }
