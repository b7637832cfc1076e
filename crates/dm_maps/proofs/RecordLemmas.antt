-- The scopes of a world by number, and their records.
use Rattle.std.proofs.Common.{◌≡◌, ◌∙◌, ℕ, List, Option, None, Some, map, slice_get, length, nat_lt, is_some, refl, sym, ap, inl, inr}
use Rattle.std.specs.Borrow.{Bor}
use Rattle.std.specs.Option.{option_copied, option_map, option_map_or, option_and_then}
use Rattle.std.proofs.lemmas.List.{length-map}
use Rattle.std.proofs.lemmas.Option.{slice_get-map, slice_get_cases}
use Rattle.std.proofs.lemmas.Bool.{lt-ltb, le-ltb}
use Rattle.dm_maps.proofs.Ids.{ModuleId, Place}
use Rattle.dm_base.specs.declared.per_ns.Namespace.{Namespace}
use Rattle.dm_base.specs.declared.per_ns.Namespace.TheVariants.{Types, Values, Macros}
use Rattle.dm_scope.specs.Records.{records_in}
use Rattle.dm_scope.specs.Scope.{no_scope}
use Rattle.dm_def_map.specs.Maps.{Module}
use Rattle.dm_maps.specs.ScopeTables.{scope_at_place}
use Rattle.dm_maps.specs.Trees.{IsWorld}
use Rattle.dm_maps.specs.World.{World, placed_module, scope_if_known}
use Rattle.dm_maps.proofs.WorldFacts.{module-there}

-- a scope that binds nothing has no record
pub records_none : (ns : Namespace) → length (records_in ns no_scope) ≡ 0
records_none Types = refl
records_none Values = refl
records_none Macros = refl

-- the scope of a module stands at its number
pub scope-numbered : (w : World) → IsWorld w → (m : ModuleId) → scope_if_known w m ≡ slice_get (map (scope_at_place w) w.places) m.0
scope-numbered w is m = by (slice_get w.places m.0) refl ∙ sym (slice_get-map (scope_at_place w) w.places m.0)
  where
    by : (o : Option Place) → slice_get w.places m.0 ≡ o → option_map (λ (d : Module). d.scope) (option_and_then (placed_module w) o) ≡ option_map (scope_at_place w) o
    by None e = refl
    by (Some p) e =
        let d = module-there w is m p e in
        ap (λ o. option_map (λ (x : Module). x.scope) o) d.1 ∙ sym (ap (λ o. Some (option_map_or (λ (x : Module). x.scope) o no_scope)) d.1)

some-within : {X : Type 0} (xs : List X) (i : ℕ) → is_some (slice_get xs i) ≡ nat_lt i (length xs)
some-within xs i =
    elim (slice_get_cases xs i).1 [
      | inl e ↦ ap is_some e.2 ∙ sym (lt-ltb i (length xs) e.1)
      | inr e ↦ ap is_some e.1 ∙ sym (le-ltb i (length xs) e.0)
    ]

-- a module has one exactly if it is the world's
pub scope-within : (w : World) → IsWorld w → (m : ModuleId) → is_some (scope_if_known w m) ≡ nat_lt m.0 (length w.places)
scope-within w is m =
    ap is_some (scope-numbered w is m)
    ∙ some-within (map (scope_at_place w) w.places) m.0
    ∙ ap (nat_lt m.0) (length-map w.places (scope_at_place w))

-- what is found behind a reference is there exactly if the reference is
pub some-copied : {X : Type 0} (r : Option (Bor X)) → is_some r ≡ is_some (option_copied r)
some-copied None = refl
some-copied (Some b) = refl
