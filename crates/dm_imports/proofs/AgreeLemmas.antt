-- What holds of the names that are bound, and of those that could be, holds of all that do not have what the rules give.
use Rattle.std.proofs.Common.{◌≡◌, ◌∙◌, ap, cond, refl, subst, sym, true, false, Bool, List, [], ◌∷◌, Option, None, Some, ◌&&◌}
use Rattle.std.proofs.lemmas.Bool.{and_parts}
use Rattle.std.proofs.lemmas.List.Elements.{All-contains}
use Rattle.std.specs.List.{All, Contains, cons_option, list_any}
use Rattle.std.specs.Option.{option_and_then, option_map, option_map_or, option_or}
use Rattle.std.specs.Prelude.{fold}
use Rattle.dm_base.specs.declared.ids.ModuleId.{ModuleId}
use Rattle.dm_base.specs.declared.per_ns.Namespace.{Namespace}
use Rattle.dm_base.specs.IdLaws.{same_module-true}
use Rattle.dm_base.specs.Names.{Name, same_name}
use Rattle.dm_base.specs.PerNs.{keep}
use Rattle.dm_base.specs.Tree.{same_module}
use Rattle.dm_maps.specs.World.{scope_of}
use Rattle.dm_scope.specs.Sorted.{names_of}
use Rattle.dm_imports.specs.declared.container.Container.{Container}
use Rattle.dm_imports.specs.declared.glob_import.GlobImport.{GlobImport}
use Rattle.dm_imports.specs.declared.named_import.NamedImport.{NamedImport}
use Rattle.dm_imports.specs.Meanings.{is_declared, joined}
use Rattle.dm_imports.specs.Paths.{DefMaps}
use Rattle.dm_imports.specs.Rules.{IsModule, all_imports, all_offers, glob_asks, import_brings, import_to, join_all, offer_from, offer_to, offered, offers_to, source_of}
use Rattle.dm_imports.specs.Slots.{same_place}
use Rattle.dm_imports.specs.Supporting.{Agrees, names_brought, source_names}
use Rattle.dm_imports.proofs.ListLemmas.{name-absent, name-listed, none-of, some-of}
use Rattle.dm_imports.proofs.SlotLemmas.{name-same}
use Rattle.dm_imports.proofs.UnboundLemmas.{at-unbound, member-unbound}

module _ (d : DefMaps) (m : ModuleId) (n : Name) where
  -- whether an import is of the name, and whether a glob brings it
  abbrev imports-it : NamedImport → Bool
  imports-it i = same_place i.home i.name m n

  abbrev brings-it : GlobImport → Bool
  brings-it g = same_module g.into m && list_any (same_name n) (names_brought d g)

  no-import : (s : Namespace) (is : List NamedImport) → list_any imports-it is ≡ false → all_imports d is m n s ≡ None
  no-import s [] h = refl
  no-import s (i ∷ is) h =
      let p = none-of imports-it i is h in
      let none : import_to d m n s i ≡ None = ap (λ b. cond b (import_brings d i s) None) p.0 in
      ap (λ o. fold (λ x i. option_or x (import_to d m n s i)) o is) none ∙ no-import s is p.1

  pub unlisted : (s : Namespace) (g : GlobImport) → same_module g.into m ≡ true → list_any (same_name n) (names_brought d g) ≡ false → offer_to d m n s g ≡ None
  unlisted s g here h = ap (λ b. cond b (option_and_then (λ c. offer_from d g c n s) (source_of d g)) None) here ∙ by (source_of d g) h
    where
      by : (o : Option Container) → list_any (same_name n) (option_map_or (source_names d.world) o []) ≡ false → option_and_then (λ c. offer_from d g c n s) o ≡ None
      by None h = refl
      by (Some c) h = ap (λ o. option_map (offered d g) o) (member-unbound d (glob_asks g) c n s (name-absent n (source_names d.world c) h))

  no-offer : (s : Namespace) (g : GlobImport) → brings-it g ≡ false → offer_to d m n s g ≡ None
  no-offer s g h = by (same_module g.into m) refl h
    where
      by : (b : Bool) → same_module g.into m ≡ b → (b && list_any (same_name n) (names_brought d g)) ≡ false → offer_to d m n s g ≡ None
      by true e i = unlisted s g e i
      by false e i = ap (λ b. cond b (option_and_then (λ c. offer_from d g c n s) (source_of d g)) None) e

  no-offers : (s : Namespace) (gs : List GlobImport) → list_any brings-it gs ≡ false → all_offers d gs m n s ≡ None
  no-offers s [] h = refl
  no-offers s (g ∷ gs) h =
      let p = none-of brings-it g gs h in
      ap (λ o. join_all d.world m (cons_option o (offers_to d gs m n s))) (no-offer s g p.0) ∙ no-offers s gs p.1

  -- a name that nothing could bind has what the rules give
  agrees-unbound : (Contains (names_of (scope_of d.world m)) n → ⊥) → list_any imports-it d.imports ≡ false → list_any brings-it d.globs ≡ false → Agrees d m n
  agrees-unbound missing i g s =
      let here = at-unbound d m n s missing in
      here ∙ sym ((λ j. option_or (keep is_declared (here j)) (option_or (no-import s d.imports i j) (option_map joined (no-offers s d.globs g j)))))

module _ (d : DefMaps) where
  -- What holds of each name that has what the rules give, that a module binds, or that an import or a glob brings, holds of
  -- all names.
  pub everywhere : (P : ModuleId → Name → Type 0) → ((m : ModuleId) (n : Name) → Agrees d m n → P m n)
      → All (λ (i : NamedImport). P i.home i.name) d.imports
      → ((m : ModuleId) → IsModule d m → (n : Name) → Contains (names_of (scope_of d.world m)) n → P m n)
      → All (λ (g : GlobImport). (n : Name) → Contains (names_brought d g) n → P g.into n) d.globs
      → (m : ModuleId) → IsModule d m → (n : Name) → P m n
  everywhere P agrees imports modules globs m is n =
      by (list_any (same_name n) (names_of (scope_of d.world m))) (list_any (imports-it d m n) d.imports) (list_any (brings-it d m n) d.globs) refl refl refl
    where
      by : (a b c : Bool) → list_any (same_name n) (names_of (scope_of d.world m)) ≡ a → list_any (imports-it d m n) d.imports ≡ b → list_any (brings-it d m n) d.globs ≡ c → P m n
      by true b c e f g = modules m is n (name-listed n (names_of (scope_of d.world m)) e)
      by false true c e f g =
          let i = some-of (imports-it d m n) d.imports f in
          let p = and_parts (same_module i.0.home m) (same_name i.0.name n) i.2 in
          let here = All-contains (λ (x : NamedImport). P x.home x.name) d.imports i.0 imports i.1 in
          subst (λ (k : ModuleId). P k n) (same_module-true i.0.home m p.0) (subst (P i.0.home) (name-same i.0.name n p.1) here)
      by false false true e f g =
          let x = some-of (brings-it d m n) d.globs g in
          let p = and_parts (same_module x.0.into m) (list_any (same_name n) (names_brought d x.0)) x.2 in
          let here = All-contains (λ (y : GlobImport). (v : Name) → Contains (names_brought d y) v → P y.into v) d.globs x.0 globs x.1 in
          subst (λ (k : ModuleId). P k n) (same_module-true x.0.into m p.0) (here n (name-listed n (names_brought d x.0) p.1))
      by false false false e f g = agrees m n (agrees-unbound d m n (name-absent n (names_of (scope_of d.world m)) e) f g)
