-- Examples: what imports of each kind bring, in a tree of two crates. Crate 0 has the module 0, its root, with the modules
-- 1 and 2 in it; crate 1 has its root, the module 3.
use Rattle.std.specs.Prelude.{◌≡◌, [], ◌∷◌, None, Some, refl}
use Rattle.dm_base.specs.declared.ids.Crate.{Crate}
use Rattle.dm_base.specs.declared.item_ids.ModuleDefId.TheVariants as def
use Rattle.dm_base.specs.declared.per_ns.PerNs.{PerNs}
use Rattle.dm_base.specs.declared.visibility.Visibility.{Visibility}
use Rattle.dm_base.specs.declared.visibility.Visibility.TheVariants.{Module, PubCrate, Public}
use Rattle.dm_base.specs.declared.visibility.VisibilityExplicitness.TheVariants.{Explicit}
use Rattle.dm_base.specs.Tree.{Tree}
use Rattle.dm_maps.specs.Trees.{tree_by}
use Rattle.hir_def_map.specs.Written.{a_struct, an_item, crate_id, number, place}
use Rattle.dm_retry.specs.declared.import_kind.ImportKind.TheVariants as kind
use Rattle.dm_retry.specs.Kinds.{by_kind, if_any}

abbrev tree : Tree
tree =
    tree_by (place (crate_id 0) 0 None ∷ place (crate_id 0) 1 (Some (number 0)) ∷ place (crate_id 0) 2 (Some (number 0))
    ∷ place (crate_id 1) 0 None ∷ []) []

abbrev krate : Crate
krate = record { 0 = 0 }

-- a struct and a constant of one name
abbrev seen : Visibility → PerNs
seen v = record { types = Some (an_item (a_struct 0) v None); values = Some (an_item (def.ConstId (record { 0 = 0 })) v None); macros = None }

abbrev type_seen : Visibility → PerNs
type_seen v = record { types = Some (an_item (a_struct 0) v None); values = None; macros = None }

-- `pub(crate) use`: all of them, seen in the crate
plain : by_kind tree (number 1) (PubCrate krate) kind.Plain (seen Public) ≡ seen (PubCrate krate)
plain = refl

-- `pub(crate) use a::{self}`: the type alone
type_only : by_kind tree (number 1) (PubCrate krate) kind.TypeOnly (seen Public) ≡ type_seen (PubCrate krate)
type_only = refl

-- `pub(crate) use` of what is public, and `pub use` of what the crate sees: the less permissive of both
of_public : by_kind tree (number 1) (PubCrate krate) kind.ReExport (seen Public) ≡ seen (PubCrate krate)
of_public = refl

of_the_crate : by_kind tree (number 1) Public kind.ReExport (seen (PubCrate krate)) ≡ seen (PubCrate krate)
of_the_crate = refl

-- of modules the one that lies in the other
of_the_root : by_kind tree (number 1) (Module (number 1) Explicit) kind.ReExport (seen (Module (number 0) Explicit)) ≡ seen (Module (number 1) Explicit)
of_the_root = refl

-- modules side by side do not compare: as the item says
of_a_sibling : by_kind tree (number 1) (Module (number 1) Explicit) kind.ReExport (seen (Module (number 2) Explicit)) ≡ seen (Module (number 2) Explicit)
of_a_sibling = refl

-- `pub(crate) use a as _`: all of them, though a trait alone is bound (specs/UnnamedRows)
unnamed : by_kind tree (number 1) (PubCrate krate) kind.Unnamed (seen Public) ≡ seen (PubCrate krate)
unnamed = refl

-- what another crate does not make public is not re-exported, and so nothing is
of_another_crate : if_any (by_kind tree (number 1) Public kind.ReExport (seen (Module (number 3) Explicit))) ≡ None
of_another_crate = refl
