-- Worked rows: what the rules give of small def maps, as equations that compute. What rustc 1.95 makes of each text was
-- asked of it.
use Rattle.std.specs.Prelude.{◌≡◌, true, false, [], ◌∷◌, Some, None, codes, refl}
use Rattle.dm_base.specs.declared.imports.ImportOrExternCrate.TheVariants as wide
use Rattle.dm_base.specs.declared.imports.ImportOrGlob.TheVariants as narrow
use Rattle.dm_base.specs.declared.per_ns.Namespace.TheVariants.{Types, Values, Macros}
use Rattle.dm_base.specs.declared.item_ids.ModuleDefId.TheVariants as def
use Rattle.dm_base.specs.declared.visibility.Visibility.TheVariants.{PubCrate, Public}
use Rattle.dm_maps.specs.ItemHomes.{homes_of}
use Rattle.dm_maps.specs.Trees.{tree_of}
use Rattle.dm_imports.specs.declared.meaning.Source.TheVariants as source
use Rattle.dm_imports.specs.Paths.{DefMaps}
use Rattle.dm_maps.specs.World.{World}
use Rattle.dm_imports.specs.Rules.{given}
use Rattle.dm_imports.specs.Written.{a_function, a_macro, a_module, a_struct, a_type, a_value, behind, crate_id, glob, import, in_2015, leaf, meant, number, star, types_and_values, with_macros, within, world_of}

-- ---- An import by name goes before a glob, also where the glob was there first.
--
-- mod generic { pub fn open() {} }  mod unix { pub fn open() {} }  mod imp { pub use unix::*; }
-- mod sys { pub use generic::*; pub use imp::open; }  mod prelude { pub use sys::*; }, with paths from the root
abbrev shadowing : DefMaps
shadowing = record {
  world = world_of ((
    0,
    types_and_values (
        (codes "generic", a_type (a_module 1) Public None) ∷ (codes "unix", a_type (a_module 2) Public None) ∷ (codes "imp", a_type (a_module 3) Public None)
        ∷ (codes "sys", a_type (a_module 4) Public None) ∷ []) [],
  )
      ∷ (1, types_and_values [] ((codes "open", a_value (a_function 0) Public None) ∷ []))
      ∷ (2, types_and_values [] ((codes "open", a_value (a_function 1) Public None) ∷ []))
      ∷ (3, types_and_values ((codes "unix", a_type (a_module 2) Public (Some (wide.Import (leaf 5)))) ∷ []) ((codes "open", a_value (a_function 1) Public (Some (narrow.Glob (star 0)))) ∷ []))
      ∷ (4, types_and_values ((codes "generic", a_type (a_module 1) Public None) ∷ (codes "imp", a_type (a_module 3) Public None) ∷ []) ((codes "open", a_value (a_function 1) Public (Some (narrow.Import (leaf 2)))) ∷ []))
      ∷ (5, types_and_values ((codes "sys", a_type (a_module 4) Public None) ∷ []) ((codes "open", a_value (a_function 1) Public (Some (narrow.Glob (star 3)))) ∷ []))
      ∷ []);
  imports = import 2 4 (codes "open") (codes "imp" ∷ codes "open" ∷ []) ∷ [];
  globs = glob 0 3 Public (codes "unix" ∷ []) ∷ glob 1 4 Public (codes "generic" ∷ []) ∷ glob 3 5 Public (codes "sys" ∷ []) ∷ [];
  enum_vis = λ e. Public;
  constructor_vis = λ v. None;
  is_bare = λ m. false;
  is_ambiguous = λ m n s. false;
}

pub import_before_glob : given shadowing (number 4) (codes "open") Values ≡ meant (a_function 1) Public (source.Import (leaf 2))
unfolding tree_of homes_of
import_before_glob = refl

pub glob_of_an_import : given shadowing (number 5) (codes "open") Values ≡ meant (a_function 1) Public (source.Glob (star 3))
unfolding tree_of homes_of
glob_of_an_import = refl

-- ---- An import does not see its own binding.
--
-- pub mod p { pub use q as b; }  pub mod q {}  mod src { pub use p as a; }, and in the root: use src::*; use a::b as a;
abbrev own_binding : DefMaps
own_binding = record {
  world = world_of ((
    0,
    types_and_values (
        (codes "p", a_type (a_module 1) Public None) ∷ (codes "q", a_type (a_module 2) Public None) ∷ (codes "src", a_type (a_module 3) Public None)
        ∷ (codes "a", a_type (a_module 2) Public (Some (wide.Import (leaf 3)))) ∷ []) [],
  )
      ∷ (1, types_and_values ((codes "b", a_type (a_module 2) Public None) ∷ []) [])
      ∷ (2, types_and_values [] [])
      ∷ (3, types_and_values ((codes "a", a_type (a_module 1) Public None) ∷ []) [])
      ∷ []);
  imports = import 3 0 (codes "a") (codes "a" ∷ codes "b" ∷ []) ∷ [];
  globs = glob 2 0 Public (codes "src" ∷ []) ∷ [];
  enum_vis = λ e. Public;
  constructor_vis = λ v. None;
  is_bare = λ m. false;
  is_ambiguous = λ m n s. false;
}

pub name_below_its_own : given own_binding (number 0) (codes "a") Types ≡ meant (a_module 2) Public (source.Import (leaf 3))
unfolding tree_of homes_of
name_below_its_own = refl

-- ---- Two globs with different definitions: ambiguous, and seen by those alone who see both.
--
-- pub mod k { pub struct X {} }  pub mod b { pub struct X {} }  pub mod m { use k::*; pub use b::*; }, with paths from the root
abbrev two_globs : DefMaps
two_globs = record {
  world = world_of (
      (0, types_and_values ((codes "k", a_type (a_module 1) Public None) ∷ (codes "b", a_type (a_module 2) Public None) ∷ []) [])
      ∷ (1, types_and_values ((codes "X", a_type (a_struct 0) Public None) ∷ []) [])
      ∷ (2, types_and_values ((codes "X", a_type (a_struct 1) Public None) ∷ []) [])
      ∷ (3, types_and_values ((codes "k", a_type (a_module 1) (within 3) None) ∷ (codes "b", a_type (a_module 2) (within 3) None) ∷ []) [])
      ∷ []);
  imports = [];
  globs = glob 0 3 (within 3) (codes "k" ∷ []) ∷ glob 1 3 Public (codes "b" ∷ []) ∷ [];
  enum_vis = λ e. Public;
  constructor_vis = λ v. None;
  is_bare = λ m. false;
  is_ambiguous = λ m n s. false;
}

pub ambiguous_names : given two_globs (number 3) (codes "X") Types ≡ Some (record { def = a_struct 0; vis = within 3; source = source.Glob (star 0); is_ambiguous = true })
unfolding tree_of homes_of
ambiguous_names = refl

-- a name that nothing brings means nothing
pub nothing_there : given two_globs (number 3) (codes "Y") Types ≡ None
unfolding tree_of homes_of
nothing_there = refl

-- ---- A textual macro is seen by its crate alone, and by all where it is exported; of two of one name the import takes the
-- last before it.
--
-- macro_rules! m { .. }  pub use m as n;
-- #[macro_export] macro_rules! e { .. }  pub use e as f;  macro_rules! e { .. }  pub use e as g;
abbrev textual_macros : DefMaps
textual_macros = record {
  world = world_of ((0, with_macros ((codes "e", a_macro 1) ∷ [])) ∷ []);
  imports = behind (a_macro 0) (import 0 0 (codes "n") (codes "m" ∷ []))
      ∷ behind (a_macro 1) (import 1 0 (codes "f") (codes "e" ∷ []))
      ∷ behind (a_macro 2) (import 2 0 (codes "g") (codes "e" ∷ []))
      ∷ [];
  globs = [];
  enum_vis = λ e. Public;
  constructor_vis = λ v. None;
  is_bare = λ m. false;
  is_ambiguous = λ m n s. false;
}

pub not_exported : given textual_macros (number 0) (codes "n") Macros ≡ meant (def.MacroId (a_macro 0)) (PubCrate crate_id.krate) (source.Import (leaf 0))
unfolding tree_of homes_of
not_exported = refl

pub exported : given textual_macros (number 0) (codes "f") Macros ≡ meant (def.MacroId (a_macro 1)) Public (source.Import (leaf 1))
unfolding tree_of homes_of
exported = refl

pub exported_before : given textual_macros (number 0) (codes "g") Macros ≡ meant (def.MacroId (a_macro 2)) (PubCrate crate_id.krate) (source.Import (leaf 2))
unfolding tree_of homes_of
exported_before = refl

-- ---- In edition 2015 a path without a name is the root.
--
-- pub struct S {}  mod m { pub use *; }
abbrev glob_of_no_name : (World → World) → DefMaps
glob_of_no_name edition = record {
  world = edition (world_of (
      (0, types_and_values ((codes "S", a_type (a_struct 0) Public None) ∷ (codes "m", a_type (a_module 1) (within 0) None) ∷ []) [])
      ∷ (1, types_and_values [] [])
      ∷ []));
  imports = [];
  globs = glob 0 1 Public [] ∷ [];
  enum_vis = λ e. Public;
  constructor_vis = λ v. None;
  is_bare = λ m. false;
  is_ambiguous = λ m n s. false;
}

pub the_root_in_2015 : given (glob_of_no_name in_2015) (number 1) (codes "S") Types ≡ meant (a_struct 0) Public (source.Glob (star 0))
unfolding tree_of homes_of
the_root_in_2015 = refl

pub nothing_since : given (glob_of_no_name (λ w. w)) (number 1) (codes "S") Types ≡ None
unfolding tree_of homes_of
nothing_since = refl
