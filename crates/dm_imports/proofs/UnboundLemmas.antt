-- Names that a module or an enum does not have mean nothing there.
use Rattle.std.proofs.Common.{◌≡◌, ◌∙◌, ◌++◌, ap, refl, sym, true, false, true≢false, Bool, List, [], Option, None, Some, map}
use Rattle.std.specs.List.{Contains, list_any}
use Rattle.std.specs.Option.{option_and_then, option_map, option_map_or}
use Rattle.std.proofs.lemmas.List.Elements.{Contains-append_left, Contains-append_right}
use Rattle.dm_base.specs.declared.ids.EnumVariantId.{EnumVariantId}
use Rattle.dm_base.specs.declared.fields_shape.FieldsShape.{FieldsShape}
use Rattle.dm_base.specs.declared.ids.ModuleId.{ModuleId}
use Rattle.dm_base.specs.declared.item_ids.ModuleDefId.TheVariants as def
use Rattle.dm_base.specs.declared.per_ns.Namespace.{Namespace}
use Rattle.dm_base.specs.declared.per_ns.Namespace.TheVariants.{Types, Values, Macros}
use Rattle.dm_base.specs.Names.{Name, find_name, same_name}
use Rattle.dm_base.specs.PerNs.{is_empty, nothing}
use Rattle.dm_maps.specs.GoesOn.{variants_if_known}
use Rattle.dm_maps.specs.World.{scope_of}
use Rattle.dm_scope.specs.Scope.{Scope, bound_in}
use Rattle.dm_scope.specs.Sorted.{names_of}
use Rattle.dm_imports.specs.declared.container.Container.{Container}
use Rattle.dm_imports.specs.declared.container.Container.TheVariants as container
use Rattle.dm_imports.specs.Meanings.{in_namespace}
use Rattle.dm_imports.specs.Paths.{Asking, DefMaps, at, marked, member, seen, variant_in, variant_vis, visible}
use Rattle.dm_imports.specs.Supporting.{source_names}
use Rattle.dm_imports.proofs.ListLemmas.{find-absent, name-absent, name-listed}

unbound : (s : Scope) (n : Name) → (Contains (names_of s) n → ⊥) → bound_in s n ≡ nothing
unbound s n missing =
    let ts = map (λ e. e.0) s.types.items in
    let vs = map (λ e. e.0) s.values.items in
    let ms = map (λ e. e.0) s.macros.items in
    let us = s.unresolved in
    let in_types : Contains ts n → ⊥ = λ h. missing (Contains-append_left ((ts ++ vs) ++ ms) us n (Contains-append_left (ts ++ vs) ms n (Contains-append_left ts vs n h))) in
    let in_values : Contains vs n → ⊥ = λ h. missing (Contains-append_left ((ts ++ vs) ++ ms) us n (Contains-append_left (ts ++ vs) ms n (Contains-append_right ts vs n h))) in
    let in_macros : Contains ms n → ⊥ = λ h. missing (Contains-append_left ((ts ++ vs) ++ ms) us n (Contains-append_right (ts ++ vs) ms n h)) in
    λ i. record {
      types = find-absent n s.types.items in_types i;
      values = find-absent n s.values.items in_values i;
      macros = find-absent n s.macros.items in_macros i;
    }

-- a name under which something is bound is one of the names
pub bound-listed : (s : Scope) (n : Name) → is_empty (bound_in s n) ≡ false → Contains (names_of s) n
bound-listed s n some = by (list_any (same_name n) (names_of s)) refl
  where
    by : (b : Bool) → list_any (same_name n) (names_of s) ≡ b → Contains (names_of s) n
    by true e = name-listed n (names_of s) e
    by false e = absurd (true≢false (sym (ap is_empty (unbound s n (name-absent n (names_of s) e))) ∙ some))

nothing-in : (s : Namespace) → in_namespace s nothing ≡ None
nothing-in Types = refl
nothing-in Values = refl
nothing-in Macros = refl

pub at-unbound : (d : DefMaps) (m : ModuleId) (n : Name) (s : Namespace) → (Contains (names_of (scope_of d.world m)) n → ⊥) → at d m n s ≡ None
at-unbound d m n s missing =
    ap (λ o. option_map (marked (d.is_ambiguous m n s)) o)
    (ap (in_namespace s) (unbound (scope_of d.world m) n missing) ∙ nothing-in s)

pub member-unbound : (d : DefMaps) (a : Asking) (c : Container) (n : Name) (s : Namespace) → (Contains (source_names d.world c) n → ⊥) → member d a c n s ≡ None
member-unbound d a (container.Module m) n s missing = ap (λ o. option_and_then (seen d a m n s) o) (at-unbound d m n s missing)
member-unbound d a (container.Enum e) n s missing =
    ap (λ o. visible d a (option_and_then (λ v. variant_in s v.1 (def.EnumVariantId v.0) (variant_vis d e s v.0)) o)) (by (variants_if_known d.world e) missing)
  where
    by : (o : Option (List (Name × (EnumVariantId × FieldsShape)))) → (Contains (option_map_or (map (λ v. v.0)) o []) n → ⊥) → option_and_then (find_name n) o ≡ None
    by None h = refl
    by (Some vs) h = find-absent n vs h
