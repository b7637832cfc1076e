-- Examples of cuts (a world restricted to some names), as equations that compute.
use Rattle.std.specs.Prelude.{◌≡◌, ℕ, [], ◌∷◌, Some, None, codes, refl}
use Rattle.dm_base.specs.declared.fields_shape.FieldsShape.TheVariants.{Unit}
use Rattle.dm_base.specs.declared.macros.MacroExpander.TheVariants.{BuiltIn}
use Rattle.dm_base.specs.declared.macros.MacroLoc.TheVariants.{MacroRules}
use Rattle.dm_base.specs.declared.edition.Edition.TheVariants.{Edition2021}
use Rattle.dm_base.specs.Names.{Name}
use Rattle.dm_def_map.specs.Variants.{Enums, Variants}
use Rattle.dm_scope.specs.Flags.{no_globs}
use Rattle.dm_scope.specs.Scope.{no_scope}
use Rattle.dm_def_map.specs.declared.modules.module_origin.ModuleOrigin.TheVariants.{CrateRoot}
use Rattle.dm_maps.specs.PushRes.{with_push}
use Rattle.dm_maps.specs.Build.{no_world}
use Rattle.dm_maps.specs.Cut.{cut, cut_enums, cut_local, cut_macro, cut_module, cut_prelude}
use Rattle.dm_maps.specs.World.{World}
use Rattle.hir_def_map.specs.Written.{a_struct, by_rules, within_crate, crate_id, block_id, number, module_with, a_map}
use Rattle.hir_def_map.specs.WorldS.{world_s, a_type, outer_scope, inner_scope}

-- by `mm`: of its two legacy macros the last; no `A`, no `X`, no record; maps, roots, editions, places and styles as they are
pub of_legacy_macros : cut world_s (codes "mm" ∷ []) ≡ record no_world {
  crate_maps = a_map (crate_id 0) Edition2021 0 None (module_with 0 None (record no_scope { legacy_macros = (codes "mm", by_rules 1 ∷ []) ∷ [] }) ∷ []) ∷ [];
  block_maps =
      a_map (block_id 0 0) Edition2021 1 (Some (number 0)) (module_with 1 None no_scope ∷ module_with 2 (Some (number 1)) no_scope ∷ [])
      ∷ a_map (block_id 0 1) Edition2021 3 (Some (number 2)) (module_with 3 None no_scope ∷ [])
      ∷ [];
  places = world_s.places;
  macros = world_s.macros;
}
of_legacy_macros = refl

-- by `X`: the type of one module, the value of another, and the macro of the crate's macro_use prelude
pub of_three_places : cut world_s (codes "X" ∷ []) ≡ record no_world {
  crate_maps = record (a_map (crate_id 0) Edition2021 0 None (module_with 0 None no_scope ∷ [])) { macro_use = (codes "X", (by_rules 0, None)) ∷ [] } ∷ [];
  block_maps =
      a_map (block_id 0 0) Edition2021 1 (Some (number 0)) (module_with 1 None no_scope ∷ module_with 2 (Some (number 1)) outer_scope ∷ [])
      ∷ a_map (block_id 0 1) Edition2021 3 (Some (number 2)) (module_with 3 None inner_scope ∷ [])
      ∷ [];
  places = world_s.places;
  macros = world_s.macros;
}
of_three_places = refl

abbrev pushed : World
pushed = with_push world_s no_globs (number 0) (codes "nz") (a_type (a_struct 1)) None

-- a push of `nz` leaves the cut by `X`, and by no name at all
pub of_other_names : cut pushed (codes "X" ∷ []) ≡ cut world_s (codes "X" ∷ [])
of_other_names = refl

pub of_no_name : cut pushed [] ≡ cut world_s []
of_no_name = refl

-- of a local map the entries under the names
pub of_local_maps : cut_local ((codes "dep", (number 0, None)) ∷ (codes "core", (number 1, None)) ∷ []) (codes "core" ∷ []) ≡ (codes "core", (number 1, None)) ∷ []
of_local_maps = refl

-- in whatever order a table has them
pub of_another_order : cut_local ((codes "dep", (number 0, None)) ∷ (codes "core", (number 1, None)) ∷ []) (codes "core" ∷ codes "dep" ∷ []) ≡ cut_local ((codes "core", (number 1, None)) ∷ (codes "dep", (number 0, None)) ∷ []) (codes "core" ∷ codes "dep" ∷ [])
of_another_order = refl

abbrev enums_with : ℕ → Variants → Enums → Enums
enums_with e vs es = (record { 0 = e }, vs) ∷ es

abbrev variants_with : Name → ℕ → Variants → Variants
variants_with n v vs = (n, (record { 0 = v }, Unit)) ∷ vs

-- of the enums those that have a variant under the names, in the order of their numbers
pub of_enums : cut_enums (codes "V" ∷ []) (enums_with 2 (variants_with (codes "V") 0 []) (enums_with 1 (variants_with (codes "W") 1 []) (enums_with 0 (variants_with (codes "W") 2 (variants_with (codes "V") 3 [])) []))) ≡ enums_with 0 (variants_with (codes "V") 3 []) (enums_with 2 (variants_with (codes "V") 0 []) [])
of_enums = refl

-- of a module its children go, also those under the names
pub of_children : cut_module (codes "c" ∷ []) (record (module_with 0 None no_scope).1 { children = (codes "c", number 1) ∷ [] }) ≡ (module_with 0 None no_scope).1
of_children = refl

-- where it comes from and who sees it go too
pub of_origins : cut_module [] (record (module_with 0 None no_scope).1 { origin = CrateRoot (record { file = record { 0 = 7 }; edition = Edition2021 }); visibility = within_crate 0 }) ≡ (module_with 0 None no_scope).1
of_origins = refl

-- of a macro its kind stays, and not the module that it was added to
pub of_macros : cut_macro (number 3, MacroRules BuiltIn) ≡ (number 0, MacroRules BuiltIn)
of_macros = refl

-- of a prelude its module stays, and not the use that named it
pub of_preludes : cut_prelude (number 1, Some (record { 0 = 0 })) ≡ (number 1, None)
of_preludes = refl
