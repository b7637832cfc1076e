-- An import that never settles, as equations that compute: it binds the name that its own path begins with.
use Rattle.std.specs.Prelude.{◌≡◌, true, [], ◌∷◌, Some, None, codes, refl}
use Rattle.dm_base.specs.declared.edition.Edition.TheVariants.{Edition2021}
use Rattle.dm_base.specs.declared.mod_path.PathKind.TheVariants.{Plain}
use Rattle.dm_base.specs.declared.visibility.Visibility.TheVariants.{Public}
use Rattle.dm_scope.specs.Flags.{Globs, no_globs, with_flag}
use Rattle.dm_maps.specs.Build.{no_world}
use Rattle.dm_maps.specs.ItemHomes.{homes_of}
use Rattle.dm_maps.specs.World.{World}
use Rattle.hir_def_map.specs.Paths.{answer}
use Rattle.hir_def_map.specs.Written.{a_map, a_module, an_item, binds_types, crate_id, leaf, module_with, number, place}
use Rattle.dm_retry.specs.declared.import_kind.ImportKind.TheVariants as kind
use Rattle.dm_retry.specs.Rounds.{Pending, State, to_push, round_answer, rounds}

-- A glob brought the module 1 into the root as `a`. The modules 1 and 2 have each other as `b`.
abbrev world_d : World
world_d = record no_world {
  crate_maps = a_map (crate_id 0) Edition2021 0 None
      (module_with 0 None (binds_types ((codes "a", an_item (a_module 1) Public None) ∷ []))
      ∷ module_with 1 (Some (number 0)) (binds_types ((codes "b", an_item (a_module 2) Public None) ∷ []))
      ∷ module_with 2 (Some (number 0)) (binds_types ((codes "b", an_item (a_module 1) Public None) ∷ [])) ∷ []) ∷ [];
  places = place (crate_id 0) 0 None ∷ place (crate_id 0) 1 (Some (number 0)) ∷ place (crate_id 0) 2 (Some (number 0)) ∷ [];
  local_maps = [] ∷ [];
  uses = number 0 ∷ [];
}

abbrev by_glob : Globs
by_glob = record no_globs { types = with_flag no_globs.types (number 0) (codes "a") true }

-- `use a::b as a;`
abbrev turns : Pending
turns = record {
  origin = number 0;
  name = codes "a";
  path = record { kind = Plain; segments = codes "a" ∷ codes "b" ∷ [] };
  visibility = Public;
  kind = kind.Plain;
  import = leaf 0 0;
  due = true;
}

abbrev start : State
start = record { world = world_d; globs = by_glob; pending = turns ∷ [] }

-- The first round binds `a` to the module 2, the second to 1, the third to 2 again: each round changes something, for ever.
first_turn : round_answer start ≡ true
unfolding answer to_push homes_of
first_turn = refl

second_turn : round_answer (rounds 1 start) ≡ true
unfolding answer to_push homes_of
second_turn = refl

third_turn : round_answer (rounds 2 start) ≡ true
unfolding answer to_push homes_of
third_turn = refl

goes_round : rounds 3 start ≡ rounds 1 start
unfolding answer to_push homes_of
goes_round = refl
