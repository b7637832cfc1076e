-- Reverse look-up in a scope: the names of a definition.
use Rattle.std.specs.Prelude.{◌∷◌, [], Bool, List, Option, Some, None, if◌then◌else◌, nat_eq}
use Rattle.dm_base.specs.declared.ids.TraitId.{TraitId}
use Rattle.dm_base.specs.declared.imports.ImportId.{ImportId}
use Rattle.dm_base.specs.declared.item_in_ns.ItemInNs.{ItemInNs}
use Rattle.dm_base.specs.declared.item_in_ns.ItemInNs.TheVariants.{Types, Values, Macros}
use Rattle.dm_base.specs.declared.per_ns.Item.{Item}
use Rattle.dm_base.specs.declared.visibility.Visibility.{Visibility}
use Rattle.dm_base.specs.Names.{Name}
use Rattle.dm_base.specs.Sameness.{same_def, same_macro}
use Rattle.dm_scope.specs.BindingLookups.{names_in}
use Rattle.dm_scope.specs.Scope.{Scope}

abbrev pub def_and_vis : {D I : Type 0} → Item D I → D × Visibility
def_and_vis x = (x.def, x.vis)

-- the names of an item of a scope, in its namespace
abbrev pub names_for : ItemInNs → Scope → List (Name × Visibility × Bool)
names_for (Types d) s = names_in same_def d s.types.items
names_for (Values d) s = names_in same_def d s.values.items
names_for (Macros m) s = names_in same_macro m s.macros.items

-- the visibility of an unnamed trait, by its first import
abbrev pub trait_vis : TraitId → List (TraitId × Visibility × Option ImportId) → Option Visibility
trait_vis t [] = None
trait_vis t (e ∷ es) = if nat_eq e.0.0 t.0 then Some e.1 else trait_vis t es
