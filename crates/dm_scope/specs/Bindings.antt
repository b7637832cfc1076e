-- The bindings of one namespace, and what a push does to them: shadowing of globs by explicit names.
use Rattle.std.specs.Prelude.{Bool, false, List, Option, None, Some, if◌then◌else◌}
use Rattle.indexmap.specs.IndexMap.{insert_entry}
use Rattle.dm_base.specs.Imports.{target_of}
use Rattle.dm_base.specs.Names.{Name, same_name, find_name}
use Rattle.dm_base.specs.declared.ids.ModuleId.{ModuleId}
use Rattle.dm_base.specs.declared.per_ns.Item.{Item}
use Rattle.dm_base.specs.declared.imports.ImportOrDef.{ImportOrDef}
use Rattle.dm_base.specs.declared.imports.ImportOrDef.TheVariants as target
use Rattle.dm_base.specs.declared.imports.ImportOrExternCrate.{ImportOrExternCrate}
use Rattle.dm_base.specs.declared.item_ids.ModuleDefId.{ModuleDefId}
use Rattle.dm_scope.specs.Flags.{Flags, has_flag}
use Rattle.dm_scope.specs.Shadowing.{Reading, import_of, writes, flagged}

-- one namespace of a scope: its bindings in order of first binding, and what each import that brought one resolved to
pub record Bound (D I : Type 0) : Type 0 where
  pub items : List (Name × Item D I)
  pub records : List (I × ImportOrDef)

module _ {D I : Type 0} (r : Reading D I) where
  -- what the record of an import becomes: the import that the pushed item carried, else its definition
  abbrev pub recorded_from : Option I → D → ImportOrDef
  recorded_from None def = target.Def (r.widened_def def)
  recorded_from (Some i) def = target_of (r.widened i)

  abbrev pub recorded : Item D I → ImportOrDef
  recorded item = recorded_from item.import item.def

  -- the item that is stored for a pushed one: its definition and visibility, with the import of the push
  abbrev pub stored : Item D I → Option I → Item D I
  stored item import = record item { import = import }

  -- the records after an import is recorded, if there is one
  abbrev pub with_record : List (I × ImportOrDef) → Option I → ImportOrDef → List (I × ImportOrDef)
  with_record records None value = records
  with_record records (Some i) value = insert_entry r.same_import records i value

  -- the namespace after an effective push: a name that is bound keeps its place, a new one goes last, and the import of
  -- the push is recorded
  abbrev pub bound : Bound D I → Name → Item D I → Option I → Bound D I
  bound s name item import = record {
    items = insert_entry same_name s.items name (stored item import);
    records = with_record s.records import (recorded item);
  }

  -- the namespace after a push
  abbrev pub pushed : Bound D I → Bool → Name → Item D I → Option I → Bound D I
  pushed s flag name item import = if writes r (find_name name s.items) flag item import then bound s name item import else s

  -- One push into a namespace, of an item that the push may have there: whether it is effective, the bindings that it
  -- leaves, and the flags.
  abbrev pub is_effective_at : Bound D I → Flags → ModuleId → Name → Option (Item D I) → Option ImportOrExternCrate → Bool
  is_effective_at s fs m name None by = false
  is_effective_at s fs m name (Some item) by = writes r (find_name name s.items) (has_flag fs m name) item (import_of r by)

  abbrev pub bound_after : Bound D I → Flags → ModuleId → Name → Option (Item D I) → Option ImportOrExternCrate → Bound D I
  bound_after s fs m name None by = s
  bound_after s fs m name (Some item) by = pushed s (has_flag fs m name) name item (import_of r by)

  abbrev pub flags_after : Bound D I → Flags → ModuleId → Name → Option (Item D I) → Option ImportOrExternCrate → Flags
  flags_after s fs m name item by = if is_effective_at s fs m name item by then flagged r fs m name (import_of r by) else fs
