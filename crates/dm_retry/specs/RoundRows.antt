-- Two imports, the first of which needs the second, and what rounds of resolution make of them: equations that compute.
use Rattle.std.specs.Prelude.{◌≡◌, true, false, [], ◌∷◌, Some, None, codes, refl}
use Rattle.dm_base.specs.declared.item_ids.ItemKind.TheVariants as item
use Rattle.dm_base.specs.declared.edition.Edition.TheVariants.{Edition2021}
use Rattle.dm_base.specs.declared.mod_path.PathKind.TheVariants.{Plain, Crate}
use Rattle.dm_base.specs.declared.visibility.Visibility.TheVariants.{Public}
use Rattle.dm_scope.specs.Flags.{no_globs}
use Rattle.dm_scope.specs.Scope.{bound_in}
use Rattle.dm_maps.specs.Build.{no_world}
use Rattle.dm_maps.specs.ItemHomes.{homes_of}
use Rattle.dm_maps.specs.World.{World, scope_of}
use Rattle.hir_def_map.specs.Paths.{answer}
use Rattle.hir_def_map.specs.Written.{a_map, a_module, a_struct, an_item, binds_types, crate_id, leaf, module_with, named, number, place}
use Rattle.dm_retry.specs.declared.import_kind.ImportKind.TheVariants as kind
use Rattle.dm_retry.specs.Rounds.{Pending, State, added, to_push, round_answer, rounds, due_turns}

-- the root has a module `a`, which has a struct `S`, and one use
abbrev world_c : World
world_c = record no_world {
  crate_maps = a_map (crate_id 0) Edition2021 0 None
      (module_with 0 None (binds_types ((codes "a", an_item (a_module 1) Public None) ∷ []))
      ∷ module_with 1 (Some (number 0)) (binds_types ((codes "S", an_item (a_struct 0) Public None) ∷ [])) ∷ []) ∷ [];
  places = place (crate_id 0) 0 None ∷ place (crate_id 0) 1 (Some (number 0)) ∷ [];
  local_maps = [] ∷ [];
  uses = number 0 ∷ [];
  items = (item.Struct, number 1) ∷ [];
}

-- `use Y as X;`
abbrev needs : Pending
needs = record {
  origin = number 0;
  name = codes "X";
  path = record { kind = Plain; segments = codes "Y" ∷ [] };
  visibility = Public;
  kind = kind.Plain;
  import = leaf 0 0;
  due = true;
}

-- `use crate::a::S as Y;`
abbrev gives_y : Pending
gives_y = record {
  origin = number 0;
  name = codes "Y";
  path = record { kind = Crate; segments = codes "a" ∷ codes "S" ∷ [] };
  visibility = Public;
  kind = kind.Plain;
  import = leaf 0 1;
  due = true;
}

abbrev start : State
start = record { world = world_c; globs = no_globs; pending = needs ∷ gives_y ∷ [] }

-- the first round binds Y, the second X, and the third changes nothing: the fixed point
first_answer : round_answer start ≡ true
unfolding answer to_push homes_of
first_answer = refl

second_answer : round_answer (rounds 1 start) ≡ true
unfolding answer to_push homes_of
second_answer = refl

third_answer : round_answer (rounds 2 start) ≡ false
unfolding answer to_push homes_of
third_answer = refl

-- both are due in the first round, X's import alone in the second, and none in the third
first_due : due_turns start 2 ≡ 2
unfolding answer to_push homes_of
first_due = refl

second_due : due_turns (rounds 1 start) 2 ≡ 1
unfolding answer to_push homes_of
second_due = refl

third_due : due_turns (rounds 2 start) 2 ≡ 0
unfolding answer to_push homes_of
third_due = refl

-- Without the second the first round finds nothing. When it is added it is due, and the first is not; the round after
-- that tries it alone, and the next one binds X.
abbrev late : State
late = added (rounds 1 (record start { pending = needs ∷ [] })) (record gives_y { due = false })

late_are_due : due_turns late 2 ≡ 1
unfolding answer to_push homes_of
late_are_due = refl

late_answer : round_answer (rounds 1 late) ≡ true
unfolding answer to_push homes_of
late_answer = refl

late_bound : bound_in (scope_of (rounds 2 late).world (number 0)) (codes "X") ≡ record { types = Some (an_item (a_struct 0) Public (Some (named 0 0))); values = None; macros = None }
unfolding answer to_push homes_of
late_bound = refl

-- what X is bound to in the end
bound : bound_in (scope_of (rounds 2 start).world (number 0)) (codes "X") ≡ record { types = Some (an_item (a_struct 0) Public (Some (named 0 0))); values = None; macros = None }
unfolding answer to_push homes_of
bound = refl
