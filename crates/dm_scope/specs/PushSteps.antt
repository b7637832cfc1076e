-- The two steps of a push into a namespace, all or nothing: the first one allocates new keys, and can be undone; the
-- second one writes the values, and cannot fail.
use Rattle.std.specs.Prelude.{Bool, false, List, Option, None, Some, if◌then◌else◌}
use Rattle.std.specs.Map.{set_value}
use Rattle.dm_base.specs.Names.{Name, same_name}
use Rattle.dm_base.specs.declared.ids.ModuleId.{ModuleId}
use Rattle.dm_base.specs.declared.per_ns.Item.{Item}
use Rattle.dm_base.specs.declared.imports.ImportOrDef.{ImportOrDef}
use Rattle.dm_base.specs.declared.imports.ImportOrExternCrate.{ImportOrExternCrate}
use Rattle.dm_scope.specs.Entries.{add_entry, is_new, without_new}
use Rattle.dm_scope.specs.Flags.{Flags, flags_finished}
use Rattle.dm_scope.specs.Shadowing.{Reading, import_of, is_glob}
use Rattle.dm_scope.specs.Bindings.{Bound, stored, recorded}

module _ {I : Type 0} (eq : I → I → Bool) where
  -- the records with the import as a key, if there is one
  abbrev pub add_import : List (I × ImportOrDef) → Option I → ImportOrDef → List (I × ImportOrDef)
  add_import records None value = records
  add_import records (Some i) value = add_entry eq records i value

  -- whether the import is not recorded yet
  abbrev pub is_new_import : List (I × ImportOrDef) → Option I → Bool
  is_new_import records None = false
  is_new_import records (Some i) = is_new eq records i

  -- the records with the value at the import, where it is recorded
  abbrev pub set_import : List (I × ImportOrDef) → Option I → ImportOrDef → List (I × ImportOrDef)
  set_import records None value = records
  set_import records (Some i) value = set_value (eq i) records value

module _ {D I : Type 0} (r : Reading D I) where
  -- the namespace with the new keys of a push that writes put last
  abbrev pub with_keys : Bound D I → Name → Item D I → Option I → Bound D I
  with_keys s name item import = record {
    items = add_entry same_name s.items name (stored r item import);
    records = add_import r.same_import s.records import (recorded r item);
  }

  abbrev pub is_new_record : List (I × ImportOrDef) → Option I → Bool
  is_new_record = is_new_import r.same_import

  -- the namespace with the values of a push at the keys that stand
  abbrev pub written : Bound D I → Name → Item D I → Option I → Bound D I
  written s name item import = record {
    items = set_value (same_name name) s.items (stored r item import);
    records = set_import r.same_import s.records import (recorded r item);
  }

  -- the namespace after the second step of a push
  abbrev pub finished : Bound D I → Bool → Name → Option (Item D I) → Option ImportOrExternCrate → Bound D I
  finished s writes name None by = s
  finished s writes name (Some item) by = if writes then written s name item (import_of r by) else s

  -- and its flags
  abbrev pub flags_done : Flags → Bool → ModuleId → Name → Option ImportOrExternCrate → Flags
  flags_done fs writes m name by = if writes then flags_finished fs m name (is_glob r (import_of r by)) else fs

-- the namespace with its last keys taken off, where they are new
abbrev pub without_keys : {D I : Type 0} → Bound D I → Bool → Bool → Bound D I
without_keys s new_item new_record = record { items = without_new new_item s.items; records = without_new new_record s.records }
