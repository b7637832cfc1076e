-- What builders add leaves no fewer of anything, and each crate its map; and what tells that there are too many.
use Rattle.std.proofs.Common.{◌≡◌, ◌≤◌, ◌<◌, ◌||◌, ◌+◌, ◌∙◌, ℕ, suc, zero, Bool, true, false, cond, not, List, [], ◌∷◌, ◌++◌, Option, None, Some, length, length-append, map, nat_eq, nat_lt, set, slice_get, ap, arith, refl, subst, sym, true≢false}
use Rattle.std.proofs.lemmas.Bool.{lt-ltb, ltb-true, ltb-false}
use Rattle.std.specs.Prelude.{IsTrue}
use Rattle.std.specs.Option.{option_map_or}
use Rattle.crate_tables.proofs.FitLemmas.{at, put}
use Rattle.crate_tables.proofs.FitSteps.{Longer, longer-same, more-push}
use Rattle.crate_tables.specs.Numbers.{has_too_many, is_past, is_shortage, IsShortage}
use Rattle.dm_base.specs.Names.{Name}
use Rattle.dm_base.specs.declared.edition.Edition.{Edition}
use Rattle.dm_base.specs.declared.fields_shape.FieldsShape.{FieldsShape}
use Rattle.dm_base.specs.declared.ids.BlockId.{BlockId}
use Rattle.dm_base.specs.declared.ids.Crate.{Crate}
use Rattle.dm_base.specs.declared.ids.EnumId.{EnumId}
use Rattle.dm_base.specs.declared.ids.MapId.{MapId}
use Rattle.dm_base.specs.declared.ids.ModuleId.{ModuleId}
use Rattle.dm_base.specs.declared.ids.UseId.{UseId}
use Rattle.dm_base.specs.declared.item_ids.ItemKind.{ItemKind}
use Rattle.dm_base.specs.declared.macros.MacroLoc.{MacroLoc}
use Rattle.dm_base.specs.declared.source.EditionedFileId.{EditionedFileId}
use Rattle.dm_base.specs.declared.visibility.Visibility.{Visibility}
use Rattle.dm_def_map.specs.CrateData.{CrateData}
use Rattle.dm_def_map.specs.ItemTables.{ItemTables}
use Rattle.dm_def_map.specs.MapChanges.{changed}
use Rattle.dm_def_map.specs.Maps.{LocalMap, Map, Module, fresh_module, map_with_child, map_with_scope}
use Rattle.dm_def_map.specs.declared.crate_data.crate_setting.CrateSetting.{CrateSetting}
use Rattle.dm_def_map.specs.declared.map_change.MapChange.TheVariants as change
use Rattle.dm_def_map.specs.declared.modules.module_origin.ModuleOrigin.{ModuleOrigin}
use Rattle.dm_maps.specs.Build.{next_module, next_place, with_child_at_place, with_child_of, with_crate, with_item, with_module}
use Rattle.dm_maps.specs.BuildCrateData.{map_with_shared, with_crate_setting, with_crate_settings, with_shared}
use Rattle.dm_maps.specs.BuildItems.{with_macro, with_use, with_variant}
use Rattle.dm_maps.specs.BuildMaps.{with_map, with_prelude}
use Rattle.dm_maps.specs.Known.{knows}
use Rattle.dm_maps.specs.Maps.{Maps, maps_with}
use Rattle.dm_maps.specs.World.{World, maps_of, place_of, scope_if_known, with_maps, with_scope, with_scope_in}
use Rattle.dm_maps.specs.declared.build_fault.BuildFault.{BuildFault}
use Rattle.dm_maps.specs.declared.build_fault.BuildFault.TheVariants as fault
use Rattle.dm_maps.specs.declared.check.held.HeldId.TheVariants as held
use Rattle.dm_maps.specs.declared.place.Place.{Place}
use Rattle.dm_scope.specs.Scope.{Scope}

-- ---- Too many

pub past-on : (m n : ℕ) → m ≤ n → is_past m ≡ true → is_past n ≡ true
past-on m n le h = let l : 4294967295 < m = ltb-true 4294967295 m h in lt-ltb 4294967295 n (omega arith)

pub past-full : (m n : ℕ) → 4294967295 ≤ m → m < n → is_past n ≡ true
past-full m n full less = lt-ltb 4294967295 n (omega arith)

pub or-left : (a b : Bool) → a ≡ true → (a || b) ≡ true
or-left a b h = ap (λ (x : Bool). x || b) h

pub or-right : (a b : Bool) → b ≡ true → (a || b) ≡ true
or-right true b h = refl
or-right false b h = h

pub or-on : (a b c d : Bool) → (a ≡ true → c ≡ true) → (b ≡ true → d ≡ true) → (a || b) ≡ true → (c || d) ≡ true
or-on true b c d f g h = or-left c d (f refl)
or-on false b c d f g h = or-right c d (g h)

-- ---- Why nothing more is added

pub short-on : (a b : Bool) → (a ≡ true → b ≡ true) → (f : BuildFault) → is_shortage a f ≡ true → is_shortage b f ≡ true
short-on a b on fault.OutOfMemory h = refl
short-on a b on fault.OutOfNumbers h = on h
short-on a b on fault.NoSuchCrate h = h
short-on a b on fault.NoSuchModule h = h
short-on a b on fault.NoSuchEnum h = h
short-on a b on fault.TakenChild h = h
short-on a b on fault.TakenVariant h = h

pub short-memory : (a : Bool) (f : BuildFault) → f ≡ fault.OutOfMemory → is_shortage a f ≡ true
short-memory a f h = ap (is_shortage a) h

pub short-for : (a : Bool) (P : Type 0) → (a ≡ true → P) → (f : BuildFault) → is_shortage a f ≡ true → IsShortage P f
short-for a P on fault.OutOfMemory h = tt
short-for a P on fault.OutOfNumbers h = on h
short-for a P on fault.NoSuchCrate h = absurd (true≢false (sym h))
short-for a P on fault.NoSuchModule h = absurd (true≢false (sym h))
short-for a P on fault.NoSuchEnum h = absurd (true≢false (sym h))
short-for a P on fault.TakenChild h = absurd (true≢false (sym h))
short-for a P on fault.TakenVariant h = absurd (true≢false (sym h))

pub reason-on : (P Q : Type 0) → (P → Q) → (f : BuildFault) → IsShortage P f → IsShortage Q f
reason-on P Q on fault.OutOfMemory h = tt
reason-on P Q on fault.OutOfNumbers h = on h
reason-on P Q on fault.NoSuchCrate h = h
reason-on P Q on fault.NoSuchModule h = h
reason-on P Q on fault.NoSuchEnum h = h
reason-on P Q on fault.TakenChild h = h
reason-on P Q on fault.TakenVariant h = h

pub reason-memory : (P : Type 0) (f : BuildFault) → f ≡ fault.OutOfMemory → IsShortage P f
reason-memory P f h = subst (IsShortage P) (sym h) tt

-- ---- A world with more

-- the id of each crate's map
abbrev pub ids_of : List Map → List MapId
ids_of ms = map (λ (m : Map). m.id) ms

-- v has no fewer of anything than w, and each crate of w has its map there
pub record IsMore (w v : World) : Type 0 where
  pub modules : length w.places ≤ length v.places
  pub items : length w.items ≤ length v.items
  pub variants : length w.variants ≤ length v.variants
  pub uses : length w.uses ≤ length v.uses
  pub macros : length w.macros ≤ length v.macros
  pub ids : Longer (ids_of w.crate_maps) (ids_of v.crate_maps)

pub more-same : (w : World) → IsMore w w
more-same w = record {
  modules = omega arith;
  items = omega arith;
  variants = omega arith;
  uses = omega arith;
  macros = omega arith;
  ids = longer-same (ids_of w.crate_maps);
}

pub more-further : (u v w : World) → IsMore u v → IsMore v w → IsMore u w
more-further u v w a b = record {
  modules = omega (arith, a.modules, b.modules);
  items = omega (arith, a.items, b.items);
  variants = omega (arith, a.variants, b.variants);
  uses = omega (arith, a.uses, b.uses);
  macros = omega (arith, a.macros, b.macros);
  ids = λ i x h. b.ids i x (a.ids i x h);
}

pub many-on : (w v : World) → IsMore w v → has_too_many w ≡ true → has_too_many v ≡ true
many-on w v more =
    or-on (is_past (length w.places)) _ (is_past (length v.places)) _ (past-on _ _ more.modules)
    (or-on (is_past (length w.items)) _ (is_past (length v.items)) _ (past-on _ _ more.items)
    (or-on (is_past (length w.variants)) _ (is_past (length v.variants)) _ (past-on _ _ more.variants)
    (or-on (is_past (length w.uses)) _ (is_past (length v.uses)) _ (past-on _ _ more.uses) (past-on _ _ more.macros))))

pub many-short : (w v : World) → IsMore w v → (f : BuildFault) → is_shortage (has_too_many w) f ≡ true → is_shortage (has_too_many v) f ≡ true
many-short w v more = short-on (has_too_many w) (has_too_many v) (many-on w v more)

module _ (w : World) where
  pub many-modules : is_past (length w.places) ≡ true → has_too_many w ≡ true
  many-modules h = or-left (is_past (length w.places)) _ h

  pub many-items : is_past (length w.items) ≡ true → has_too_many w ≡ true
  many-items h = or-right (is_past (length w.places)) _ (or-left (is_past (length w.items)) _ h)

  pub many-variants : is_past (length w.variants) ≡ true → has_too_many w ≡ true
  many-variants h = or-right (is_past (length w.places)) _ (or-right (is_past (length w.items)) _ (or-left (is_past (length w.variants)) _ h))

  pub many-uses : is_past (length w.uses) ≡ true → has_too_many w ≡ true
  many-uses h =
      or-right (is_past (length w.places)) _ (or-right (is_past (length w.items)) _ (or-right (is_past (length w.variants)) _ (or-left (is_past (length w.uses)) _ h)))

  pub many-macros : is_past (length w.macros) ≡ true → has_too_many w ≡ true
  many-macros h =
      or-right (is_past (length w.places)) _ (or-right (is_past (length w.items)) _ (or-right (is_past (length w.variants)) _ (or-right (is_past (length w.uses)) _ h)))

-- ---- What builders add

ids-push : (xs ys : List Map) → Longer (ids_of xs) (ids_of (xs ++ ys))
ids-push [] ys i x h = cc
ids-push (z ∷ zs) ys zero x h = h
ids-push (z ∷ zs) ys (suc i) x h = ids-push zs ys i x h

pub more-crate : (w : World) (e : Edition) (f : EditionedFileId) → IsMore w (with_crate w e f)
more-crate w e f = record {
  modules = omega (arith, length-append w.places);
  items = omega arith;
  variants = omega arith;
  uses = omega arith;
  macros = omega arith;
  ids = ids-push w.crate_maps _;
}

pub more-use : (w : World) (m : ModuleId) → IsMore w (with_use w m)
more-use w m = record {
  modules = omega arith;
  items = omega arith;
  variants = omega arith;
  uses = more-push w.uses m;
  macros = omega arith;
  ids = longer-same (ids_of w.crate_maps);
}

pub more-macro : (w : World) (m : ModuleId) (l : MacroLoc) → IsMore w (with_macro w m l)
more-macro w m l = record {
  modules = omega arith;
  items = omega arith;
  variants = omega arith;
  uses = omega arith;
  macros = more-push w.macros (m, l);
  ids = longer-same (ids_of w.crate_maps);
}

pub more-item : (w : World) (k : ItemKind) (m : ModuleId) → IsMore w (with_item w k m)
more-item w k m = record {
  modules = omega arith;
  items = more-push w.items (k, m);
  variants = omega arith;
  uses = omega arith;
  macros = omega arith;
  ids = longer-same (ids_of w.crate_maps);
}

pub more-variant : (w : World) (e : EnumId) (n : Name) (s : FieldsShape) → IsMore w (with_variant w e n s)
more-variant w e n s = record {
  modules = omega arith;
  items = omega arith;
  variants = more-push w.variants e;
  uses = omega arith;
  macros = omega arith;
  ids = longer-same (ids_of w.crate_maps);
}

pub more-locals : (w : World) (Ls : List LocalMap) → IsMore w (record w { local_maps = Ls })
more-locals w Ls = record {
  modules = omega arith;
  items = omega arith;
  variants = omega arith;
  uses = omega arith;
  macros = omega arith;
  ids = longer-same (ids_of w.crate_maps);
}

pub more-tables : (w : World) (t : ItemTables) → IsMore w (record w { item_tables = t })
more-tables w t = record {
  modules = omega arith;
  items = omega arith;
  variants = omega arith;
  uses = omega arith;
  macros = omega arith;
  ids = longer-same (ids_of w.crate_maps);
}

-- ---- Maps that keep their ids

more-maps : (w : World) (ms : Maps) → Longer (ids_of w.crate_maps) (ids_of ms.crates) → IsMore w (with_maps w ms)
more-maps w ms longer = record {
  modules = omega arith;
  items = omega arith;
  variants = omega arith;
  uses = omega arith;
  macros = omega arith;
  ids = longer;
}

ids-set : (xs : List Map) (k : ℕ) (m n : Map) → slice_get xs k ≡ Some m → n.id ≡ m.id → Longer (ids_of xs) (ids_of (set xs k n))
ids-set [] k m n e s i x h = cc
ids-set (y ∷ ys) zero m n e s zero x h =
    let same : y ≡ m = cc in
    ap (λ (z : MapId). Some z) (s ∙ ap (λ (z : Map). z.id) (sym same)) ∙ h
ids-set (y ∷ ys) zero m n e s (suc i) x h = h
ids-set (y ∷ ys) (suc k) m n e s zero x h = h
ids-set (y ∷ ys) (suc k) m n e s (suc i) x h = ids-set ys k m n e s i x h

ids-with : (ms : Maps) (id : MapId) (f : Map → Map) → ((m : Map) → (f m).id ≡ m.id) → Longer (ids_of ms.crates) (ids_of (maps_with ms id f).crates)
ids-with ms id f keeps = by id.block
  where
    crate : (o : Option Map) → slice_get ms.crates id.krate.0 ≡ o → Longer (ids_of ms.crates) (ids_of (option_map_or (λ m. put ms id None (f m)) o ms).crates)
    crate None e = longer-same (ids_of ms.crates)
    crate (Some m) e = ids-set ms.crates id.krate.0 m (f m) e (keeps m)

    block : (b : BlockId) (o : Option Map) → Longer (ids_of ms.crates) (ids_of (option_map_or (λ m. put ms id (Some b) (f m)) o ms).crates)
    block b None = longer-same (ids_of ms.crates)
    block b (Some m) = longer-same (ids_of ms.crates)

    by : (b : Option BlockId) → Longer (ids_of ms.crates) (ids_of (option_map_or (λ m. put ms id b (f m)) (at ms id b) ms).crates)
    by None = crate (slice_get ms.crates id.krate.0) refl
    by (Some b) = block b (slice_get ms.blocks b.0)

pub more-prelude : (w : World) (id : MapId) (p : Option (ModuleId × Option UseId)) → IsMore w (with_prelude w id p)
more-prelude w id p = more-maps w (maps_with (maps_of w) id (changed (change.Prelude p))) (ids-with (maps_of w) id (changed (change.Prelude p)) (λ m. refl))

pub more-scope : (w : World) (m : ModuleId) (s : Scope) → IsMore w (with_scope w m s)
more-scope w m s = by (place_of w m)
  where
    by : (o : Option Place) → IsMore w (with_scope_in w o s)
    by None = more-same w
    by (Some q) = more-maps w (maps_with (maps_of w) q.map (λ x. map_with_scope x q.index s)) (ids-with (maps_of w) q.map (λ x. map_with_scope x q.index s) (λ x. refl))

ids-shared : (k : Crate) (d : CrateData) (ms : List Map) → Longer (ids_of ms) (ids_of (with_shared k d ms))
ids-shared k d [] i x h = cc
ids-shared k d (m ∷ ms) zero x h = by (nat_eq m.id.krate.0 k.0)
  where
    by : (b : Bool) → Some (cond b (record m { shared = d }) m).id ≡ Some x
    by true = h
    by false = h
ids-shared k d (m ∷ ms) (suc i) x h = ids-shared k d ms i x h

more-setting : (w : World) (k : Crate) (d : CrateData) → IsMore w (with_maps w (record { crates = with_shared k d w.crate_maps; blocks = with_shared k d w.block_maps }))
more-setting w k d = more-maps w (record { crates = with_shared k d w.crate_maps; blocks = with_shared k d w.block_maps }) (ids-shared k d w.crate_maps)

pub more-settings : (w : World) (k : Crate) (ss : List CrateSetting) → IsMore w (with_crate_settings w k ss)
more-settings w k [] = more-same w
more-settings w k (s ∷ ss) =
    let v = with_crate_setting w k s in
    more-further w v (with_crate_settings v k ss) (more-setting w k _) (more-settings v k ss)

-- ---- A module more

module _ (w : World) (p : ModuleId) (n : Name) (d : Module) where
  abbrev below : Place → World
  below q = with_child_at_place w p q n d

  more-below : (q : Place) → IsMore w (below q)
  more-below q = record {
    modules = more-push w.places (next_place w q.map p);
    items = omega arith;
    variants = omega arith;
    uses = omega arith;
    macros = omega arith;
    ids = ids-with (maps_of w) q.map (λ x. map_with_child x q.index n (next_module w) d) (λ x. refl);
  }

  more-child : IsMore w (with_child_of w p n d)
  more-child = by (place_of w p)
    where
      by : (o : Option Place) → IsMore w (option_map_or below o w)
      by None = more-same w
      by (Some q) = more-below q

  child-past : IsTrue (knows w (held.Module p)) → 4294967295 ≤ length w.places → has_too_many (with_child_of w p n d) ≡ true
  child-past known full = by (get-within w.places p.0 (ltb-true p.0 (length w.places) known))
    where
      get-within : {X : Type 0} (xs : List X) (i : ℕ) → i < length xs → (x : X) × (slice_get xs i ≡ Some x)
      get-within [] i h = absurd (let f : ⊥ = omega arith in f)
      get-within (x ∷ xs) zero h = (x, refl)
      get-within (x ∷ xs) (suc i) h = get-within xs i (omega arith)

      by : (q : Place) × (slice_get w.places p.0 ≡ Some q) → has_too_many (with_child_of w p n d) ≡ true
      by q =
          subst (λ (o : Option Place). has_too_many (option_map_or below o w) ≡ true) (sym q.1)
          (many-modules (below q.0) (past-full (length w.places) (length (below q.0).places) full (omega (arith, length-append w.places (next_place w q.0.map p ∷ [])))))

pub more-module : (w : World) (p : ModuleId) (n : Name) (o : ModuleOrigin) (v : Visibility) → IsMore w (with_module w p n o v)
more-module w p n o v = more-child w p n (fresh_module o v (Some p))

pub module-past : (w : World) (p : ModuleId) (n : Name) (o : ModuleOrigin) (v : Visibility) → IsTrue (knows w (held.Module p)) → 4294967295 ≤ length w.places
    → has_too_many (with_module w p n o v) ≡ true
module-past w p n o v = child-past w p n (fresh_module o v (Some p))

-- ---- Full tables

pub full-least : {X : Type 0} (xs : List X) → not (nat_lt (length xs) 4294967295) ≡ true → 4294967295 ≤ length xs
full-least xs h = by (nat_lt (length xs) 4294967295) refl h
  where
    by : (b : Bool) → nat_lt (length xs) 4294967295 ≡ b → not b ≡ true → 4294967295 ≤ length xs
    by true e g = cc
    by false e g = ltb-false (length xs) 4294967295 e

pub full-past : {X : Type 0} (xs : List X) (x : X) → not (nat_lt (length xs) 4294967295) ≡ true → is_past (length (xs ++ x ∷ [])) ≡ true
full-past xs x full = past-full (length xs) (length (xs ++ x ∷ [])) (full-least xs full) (omega (arith, length-append xs (x ∷ [])))
