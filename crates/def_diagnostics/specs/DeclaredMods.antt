-- The `mod` items that declare a module.
use Rattle.std.specs.Prelude.{◌&&◌, ◌==◌, ℕ, Bool, List, [], Option, None, Some, fold}
use Rattle.std.specs.List.{list_any}
use Rattle.crate_items.specs.declared.items.declared_item.DeclaredItem.{DeclaredItem}
use Rattle.crate_items.specs.DeclaredModules.{Fault, Module}
use Rattle.crate_items.specs.Modules.{Listing}
use Rattle.crate_items.specs.declared.modules.declared_module.Declaration.{Declaration}
use Rattle.indexmap.specs.IndexSet.{insert_key}

-- an item by the number of the module that it stands in, and its own
abbrev pub same_item : ℕ × ℕ → ℕ × ℕ → Bool
same_item a b = (a.0 == b.0) && (a.1 == b.1)

-- with one more, unless it is among them
abbrev pub with_item : List (ℕ × ℕ) → ℕ × ℕ → List (ℕ × ℕ)
with_item items x = insert_key same_item items x

abbrev pub with_declaration : List (ℕ × ℕ) → Option Declaration → List (ℕ × ℕ)
with_declaration items None = items
with_declaration items (Some d) = with_item items (d.parent, d.item)

abbrev pub with_module : List (ℕ × ℕ) → Module → List (ℕ × ℕ)
with_module items m = with_declaration items m.declaration

abbrev pub with_fault : List (ℕ × ℕ) → Fault → List (ℕ × ℕ)
with_fault items f = with_item items (f.declaration.parent, f.declaration.item)

-- those that declare a module that is there, and those that declare one that has no file of its own. Any other `mod` item
-- is of a file that begins with a `cfg` which does not hold
abbrev pub declared_mods : Listing → List (ℕ × ℕ)
declared_mods l = fold with_fault (fold with_module [] l.modules) l.faults

abbrev pub has : List (ℕ × ℕ) → DeclaredItem → Bool
has items x = list_any (same_item (x.«module», x.item)) items
