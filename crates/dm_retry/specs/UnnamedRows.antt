-- Examples: what imports as `_` write. The root of a crate has a module `a`, which has a trait `T` and a struct `S`, and a
-- use.
use Rattle.std.specs.Prelude.{◌≡◌, true, false, [], ◌∷◌, Some, None, codes, refl}
use Rattle.dm_base.specs.declared.ids.TraitId.{TraitId}
use Rattle.dm_base.specs.declared.item_ids.ItemKind.TheVariants as item
use Rattle.dm_base.specs.declared.item_ids.ModuleDefId.TheVariants as def
use Rattle.dm_base.specs.declared.edition.Edition.TheVariants.{Edition2021}
use Rattle.dm_base.specs.Names.{Name}
use Rattle.dm_base.specs.declared.mod_path.PathKind.TheVariants.{Plain}
use Rattle.dm_base.specs.declared.per_ns.PerNs.{PerNs}
use Rattle.dm_base.specs.declared.visibility.Visibility.TheVariants.{Public}
use Rattle.dm_base.specs.declared.visibility.VisibilityExplicitness.TheVariants.{Explicit}
use Rattle.dm_scope.specs.Flags.{no_globs}
use Rattle.dm_scope.specs.Scope.{bound_in}
use Rattle.dm_maps.specs.Build.{no_world}
use Rattle.dm_maps.specs.ItemHomes.{homes_of}
use Rattle.dm_maps.specs.Trees.{tree_of}
use Rattle.dm_maps.specs.World.{World, scope_of}
use Rattle.hir_def_map.specs.Paths.{answer}
use Rattle.hir_def_map.specs.Written.{a_map, a_module, a_struct, an_item, binds_types, crate_id, leaf, module_with, number, place, within, within_crate}
use Rattle.dm_retry.specs.declared.import_kind.ImportKind.TheVariants as kind
use Rattle.dm_retry.specs.Rounds.{Pending, State, finds_nothing, to_push, round_answer, rounds}
use Rattle.dm_retry.specs.Unnamed.{unnamed_answer, with_unnamed}

abbrev the_trait : TraitId
the_trait = record { 0 = 1 }

abbrev world_e : World
world_e = record no_world {
  crate_maps = a_map (crate_id 0) Edition2021 0 None
      (module_with 0 None (binds_types ((codes "a", an_item (a_module 1) Public None) ∷ []))
      ∷ module_with 1 (Some (number 0))
      (binds_types ((codes "S", an_item (a_struct 0) Public None) ∷ (codes "T", an_item (def.TraitId the_trait) Public None) ∷ [])) ∷ [])
      ∷ [];
  places = place (crate_id 0) 0 None ∷ place (crate_id 0) 1 (Some (number 0)) ∷ [];
  local_maps = [] ∷ [];
  uses = number 0 ∷ [];
  items = (item.Struct, number 1) ∷ (item.Trait, number 1) ∷ [];
}

-- ---- What is new in the root

abbrev a_trait : PerNs
a_trait = record { types = Some (an_item (def.TraitId the_trait) Public None); values = None; macros = None }

-- a trait is, and goes among the unnamed ones
is_new : unnamed_answer world_e (number 0) (within_crate 0) a_trait ≡ true
is_new = refl

abbrev once : World
once = with_unnamed world_e (number 0) (within_crate 0) (leaf 0 0) a_trait

has_one : (scope_of once (number 0)).unnamed_traits ≡ (the_trait, within_crate 0, Some (leaf 0 0)) ∷ []
has_one = refl

-- what is no trait is nothing there
no_trait : unnamed_answer world_e (number 0) Public (record { types = Some (an_item (a_struct 0) Public None); values = None; macros = None }) ≡ false
no_trait = refl

-- then the trait is new for more than the crate, and for no part of it
for_the_crate : unnamed_answer once (number 0) (within_crate 0) a_trait ≡ false
unfolding tree_of
for_the_crate = refl

for_a_module : unnamed_answer once (number 0) (within 1 Explicit) a_trait ≡ false
unfolding tree_of
for_a_module = refl

for_all : unnamed_answer once (number 0) Public a_trait ≡ true
unfolding tree_of
for_all = refl

-- in the other module it is
elsewhere : unnamed_answer once (number 1) (within_crate 0) a_trait ≡ true
unfolding tree_of
elsewhere = refl

-- ---- Rounds

-- `use a::N as _;`
abbrev as_unnamed : Name → Pending
as_unnamed n = record {
  origin = number 0;
  name = codes "_";
  path = record { kind = Plain; segments = codes "a" ∷ n ∷ [] };
  visibility = Public;
  kind = kind.Unnamed;
  import = leaf 0 0;
  due = true;
}

abbrev start : Name → State
start n = record { world = world_e; globs = no_globs; pending = as_unnamed n ∷ [] }

-- of a trait: the first round writes, and the second does not
first_answer : round_answer (start (codes "T")) ≡ true
unfolding answer to_push homes_of tree_of
first_answer = refl

second_answer : round_answer (rounds 1 (start (codes "T"))) ≡ false
unfolding answer to_push homes_of tree_of
second_answer = refl

written : (scope_of (rounds 2 (start (codes "T"))).world (number 0)).unnamed_traits ≡ (the_trait, Public, Some (leaf 0 0)) ∷ []
unfolding answer to_push homes_of tree_of
written = refl

-- and no name is bound
no_name : bound_in (scope_of (rounds 2 (start (codes "T"))).world (number 0)) (codes "_") ≡ record { types = None; values = None; macros = None }
unfolding answer to_push homes_of tree_of
no_name = refl

-- of a struct: it is resolved, and writes nothing
resolved : finds_nothing world_e (as_unnamed (codes "S")) ≡ false
unfolding answer to_push homes_of tree_of
resolved = refl

writes_nothing : round_answer (start (codes "S")) ≡ false
unfolding answer to_push homes_of tree_of
writes_nothing = refl
