-- Tables of items, outside all def maps: visibilities of fields and traits, containers of associated items, raw names.
use Rattle.std.specs.Prelude.{List, []}
use Rattle.indexmap.specs.IndexSet.{insert_key}
use Rattle.dm_base.specs.declared.ids.TraitId.{TraitId}
use Rattle.dm_base.specs.declared.item_ids.VariantId.{VariantId}
use Rattle.dm_base.specs.declared.item_ids.AssocItemId.{AssocItemId}
use Rattle.dm_base.specs.declared.item_ids.ItemContainerId.{ItemContainerId}
use Rattle.dm_base.specs.declared.visibility.RawVisibility.{RawVisibility}
use Rattle.dm_base.specs.Names.{Name, same_name}

pub record ItemTables : Type 0 where
  -- the visibilities of the fields of a variant, a struct or a union, in order
  pub fields : List (VariantId × List RawVisibility)
  -- the container of an associated item, and its visibility
  pub assocs : List (AssocItemId × (ItemContainerId × RawVisibility))
  -- the visibility of a trait
  pub traits : List (TraitId × RawVisibility)
  -- the names that are printed as raw identifiers (`r#name`)
  pub raw_names : List Name

abbrev pub no_tables : ItemTables
no_tables = record { fields = []; assocs = []; traits = []; raw_names = [] }

-- with a name that is printed as a raw identifier: one that is there stays at its place
abbrev pub with_raw_name : ItemTables → Name → ItemTables
with_raw_name t n = record t { raw_names = insert_key same_name t.raw_names n }
