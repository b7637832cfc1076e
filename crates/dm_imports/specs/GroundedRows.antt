-- Worked rows: what one step derives in small def maps, as equations that compute.
use Rattle.std.specs.Prelude.{◌≡◌, Bool, true, false, not, if◌then◌else◌, [], ◌∷◌, Option, Some, None, codes, refl}
use Rattle.std.specs.Option.{option_map}
use Rattle.dm_base.specs.declared.ids.ModuleId.{ModuleId}
use Rattle.dm_base.specs.declared.imports.ImportOrExternCrate.TheVariants as wide
use Rattle.dm_base.specs.declared.per_ns.Namespace.TheVariants.{Types}
use Rattle.dm_base.specs.declared.visibility.Visibility.TheVariants.{Public}
use Rattle.dm_base.specs.Names.{Name}
use Rattle.dm_maps.specs.ItemHomes.{homes_of}
use Rattle.dm_maps.specs.Trees.{tree_of}
use Rattle.dm_imports.specs.Grounded.{SlotSet, is_step, known_offers}
use Rattle.dm_imports.specs.Paths.{DefMaps, at}
use Rattle.dm_imports.specs.Slots.{same_place}
use Rattle.dm_imports.specs.Written.{a_module, a_struct, a_type, glob, import, leaf, number, types_and_values, within, world_of}

-- whether one step derives what a slot means, if it means anything
abbrev derived : DefMaps → SlotSet → ModuleId → Name → Option Bool
derived d k m n = option_map (is_step d k (known_offers d k) m n Types) (at d m n Types)

abbrev nothing : SlotSet
nothing m n s = false

-- all slots but those of X in two modules, and in one
abbrev all_but_both : SlotSet
all_but_both m n s = if same_place (number 1) (codes "X") m n then false else not (same_place (number 2) (codes "X") m n)

abbrev all_but_a : SlotSet
all_but_a m n s = not (same_place (number 1) (codes "X") m n)

-- ---- Two imports that name each other: each follows from the other, and none from what is declared.
--
-- pub mod a { pub use b::X; }  pub mod b { pub use a::X; }  pub mod c { pub struct X {} }, with paths from the root
abbrev circle : DefMaps
circle = record {
  world = world_of (
      (0, types_and_values ((codes "a", a_type (a_module 1) Public None) ∷ (codes "b", a_type (a_module 2) Public None) ∷ (codes "c", a_type (a_module 3) Public None) ∷ []) [])
      ∷ (
        1,
        types_and_values (
            (codes "b", a_type (a_module 2) (within 1) None) ∷ (codes "c", a_type (a_module 3) (within 1) None)
            ∷ (codes "X", a_type (a_struct 0) Public (Some (wide.Import (leaf 0)))) ∷ []) [],
      )
      ∷ (2, types_and_values ((codes "a", a_type (a_module 1) (within 2) None) ∷ (codes "X", a_type (a_struct 0) Public (Some (wide.Import (leaf 1)))) ∷ []) [])
      ∷ (3, types_and_values ((codes "X", a_type (a_struct 0) Public None) ∷ []) [])
      ∷ []);
  imports = import 0 1 (codes "X") (codes "b" ∷ codes "X" ∷ []) ∷ import 1 2 (codes "X") (codes "a" ∷ codes "X" ∷ []) ∷ [];
  globs = [];
  enum_vis = λ e. Public;
  constructor_vis = λ v. None;
  is_bare = λ m. false;
  is_ambiguous = λ m n s. false;
}

pub a_declaration : derived circle nothing (number 3) (codes "X") ≡ Some true
unfolding tree_of homes_of
a_declaration = refl

pub an_import_alone : derived circle all_but_both (number 1) (codes "X") ≡ Some false
unfolding tree_of homes_of
an_import_alone = refl

pub an_import_by_the_other : derived circle all_but_a (number 1) (codes "X") ≡ Some true
unfolding tree_of homes_of
an_import_by_the_other = refl

-- ---- The same, where a glob brings X too, below the import: `pub use c::*;` in a.
abbrev grounded : DefMaps
grounded = record circle { globs = glob 2 1 Public (codes "c" ∷ []) ∷ [] }

pub a_glob_below_an_import : derived grounded all_but_both (number 1) (codes "X") ≡ Some true
unfolding tree_of homes_of
a_glob_below_an_import = refl

-- but not before what it brings is known
pub a_glob_of_nothing : derived grounded nothing (number 1) (codes "X") ≡ Some false
unfolding tree_of homes_of
a_glob_of_nothing = refl
