-- The type of the layers of a first segment, and that a path which goes on needs no more.
use Rattle.std.proofs.Common.{◌≡◌, ◌∙◌, ◌&&◌, ◌<◌, ℕ, Bool, true, false, cond, not, List, [], ◌∷◌, Option, None, Some, ap, arith, is_none, is_some, length, map, refl, sym, true≢false}
use Rattle.std.specs.Option.{option_map_or, option_or}
use Rattle.dm_base.specs.declared.ids.MapId.{MapId}
use Rattle.dm_base.specs.declared.ids.ModuleId.{ModuleId}
use Rattle.dm_base.specs.declared.imports.ImportOrExternCrate.{ImportOrExternCrate}
use Rattle.dm_base.specs.declared.item_ids.MacroId.{MacroId}
use Rattle.dm_base.specs.declared.item_ids.ModuleDefId.{ModuleDefId}
use Rattle.dm_base.specs.Names.{Name}
use Rattle.dm_base.specs.declared.mod_path.PathKind.{PathKind}
use Rattle.dm_base.specs.declared.mod_path.PathKind.TheVariants as kind
use Rattle.dm_base.specs.declared.per_ns.Item.{Item}
use Rattle.dm_base.specs.declared.per_ns.PerNs.{PerNs}
use Rattle.dm_base.specs.declared.visibility.Visibility.TheVariants.{Public}
use Rattle.dm_base.specs.Overlays.{option_or_none, over_nothing}
use Rattle.dm_base.specs.PerNs.{is_empty, macro_alone, nothing, overlay}
use Rattle.dm_base.specs.Tree.{Tree, is_block_root}
use Rattle.dm_def_map.specs.declared.modules.modes.BuiltinShadowMode.{BuiltinShadowMode}
use Rattle.dm_def_map.specs.declared.modules.modes.BuiltinShadowMode.TheVariants as shadow
use Rattle.dm_def_map.specs.declared.modules.modes.MacroSubNs.{MacroSubNs}
use Rattle.dm_def_map.specs.Maps.{LocalMap}
use Rattle.dm_maps.specs.declared.rules.Rules.{Rules}
use Rattle.dm_maps.specs.declared.rules.Rules.TheVariants.{V1, V2}
use Rattle.dm_maps.specs.Readings.{Setting, Reading, read, setting_of}
use Rattle.dm_maps.specs.World.{World}
use Rattle.hir_def_map.specs.declared.path_resolution.place.Place.{Place}
use Rattle.hir_def_map.specs.declared.path_resolution.place.Place.TheVariants.{In}
use Rattle.hir_def_map.specs.declared.path_resolution.question.Ask.{Ask}
use Rattle.hir_def_map.specs.Answers.{nothing_no}
use Rattle.hir_def_map.specs.Paths.{are_builtins_first, builtins_of, builtins_or_scope, by_2015_rule, by_first_segment, enter, extern_prelude, fits, fitting, layers, legacy, macro_use_prelude, missed, of_prelude, plain_layers, prelude, seen_from, stop, type_module, unless_block_root}
use Rattle.hir_def_map.specs.Walk.{in_types, starting, walk}
use Rattle.hir_def_map.specs.LayerLaws.{AreTypes, extern-alone, macro_use-is, layers-abs}
use Rattle.hir_def_map.proofs.WalkLemmas.{walk-stop}

abbrev Type_item : Type 0
Type_item = Item ModuleDefId ImportOrExternCrate

-- the first that is there
pub or-some : {A : Type 0} (a b : Option A) → is_some a ≡ true → a ≡ option_or a b
or-some None b there = absurd (true≢false (sym there))
or-some (Some x) b there = refl

pub or-none : {A : Type 0} (a b : Option A) → is_some a ≡ false → b ≡ option_or a b
or-none None b gone = refl
or-none (Some x) b gone = absurd (true≢false gone)

-- ---- Of the layers.

legacy-types : (w : Setting) (e : Option MacroSubNs) (m : ModuleId) (s : Reading) → (legacy w e m s).types ≡ None
legacy-types w e m s = by (s.legacy m)
  where
    fit : (b : Bool) (l : MacroId) → (cond b (macro_alone l Public None) nothing).types ≡ None
    fit true l = refl
    fit false l = refl

    by : (o : Option MacroId) → (option_map_or (λ l. cond (fits w e l) (macro_alone l Public None) nothing) o nothing).types ≡ None
    by None = refl
    by (Some l) = fit (fits w e l) l

prelude-types : (w : Setting) (e : Option MacroSubNs) (x : PerNs) → (of_prelude w e x).types ≡ x.types
prelude-types w e x = by w.rules
  where
    left : Rules → PerNs
    left r = elim r [ V1 ↦ x | V2 ↦ fitting w e x ]

    by : (r : Rules) → (left r).types ≡ x.types
    by V1 = refl
    by V2 = refl

skipped : (b : Bool) (x y : PerNs) → x.types ≡ y.types → (cond b nothing x).types ≡ (cond b nothing y).types
skipped true x y same = refl
skipped false x y same = same

not-first : (q : Ask) (own : PerNs) → are_builtins_first q own false ≡ false
not-first q own = by q.shadow
  where
    by : (s : BuiltinShadowMode) → elim s [ shadow.Other ↦ true | shadow.Module ↦ false ] && false && is_some (type_module own.types) ≡ false
    by shadow.Other = refl
    by shadow.Module = refl

abbrev laid : Option Type_item → Option Type_item → Option Type_item → Option Type_item → Option Type_item → Option Type_item → Option Type_item
laid a b c d e f = option_or a (option_or b (option_or c (option_or d (option_or e (option_or f None)))))

-- the type that a module selects: of the scope, the builtin types, the extern prelude, the prelude module
pub plain-types : (w : Setting) (q : Ask) (m : ModuleId) (s : Reading)
    → option_or (s.bound m).types (option_or (builtins_of w m s).types (option_or (unless_block_root w m (extern_prelude s)).types (unless_block_root w m (prelude w (w.tree.map_of m) s)).types))
    ≡ (overlay (plain_layers w q (In m) s false)).types
plain-types w q m s =
    let id = w.tree.map_of m in
    let own = (s.bound m).types in
    let builtins = (builtins_of w m s).types in
    let outer = (unless_block_root w m (extern_prelude s)).types in
    let last = (unless_block_root w m (prelude w id s)).types in
    let textual = sym (legacy-types w q.expected m s) in
    let first = sym (not-first q (s.bound m)) in
    let used = sym (macro_use-is w q.expected id s).types in
    let end = sym (skipped (is_block_root w.tree m) (of_prelude w q.expected (prelude w id s)) (prelude w id s) (prelude-types w q.expected (prelude w id s))) in
    ap (λ x. option_or own (option_or builtins (option_or outer x))) (sym (option_or_none last))
    ∙ (λ i. laid (textual i) (builtins_or_scope w q m s (first i)).types (builtins_or_scope w q m s (not (first i))).types outer (used i) (end i))

-- the type that the preludes of a map select
pub preludes-types : (w : Setting) (q : Ask) (id : MapId) (s : Reading)
    → option_or (extern_prelude s).types (prelude w id s).types
    ≡ (overlay (extern_prelude s ∷ of_prelude w q.expected (macro_use_prelude id s) ∷ of_prelude w q.expected (prelude w id s) ∷ [])).types
preludes-types w q id s =
    let last = (prelude w id s).types in
    ap (option_or (extern_prelude s).types) (sym (option_or_none last))
    ∙ (λ i. option_or (extern_prelude s).types (option_or (sym (macro_use-is w q.expected id s).types i) (option_or (sym (prelude-types w q.expected (prelude w id s)) i) None)))

-- ---- A path that goes on.

pub goes-by-type : (t : Tree) (f : ModuleId) (x : PerNs) (pos : ℕ) (s : Reading) (S : List Reading) → stop (enter t) t f (in_types x.types) pos (s ∷ S) ≡ stop (enter t) t f x pos (s ∷ S)
goes-by-type t f x pos s S = sym (walk-stop t (starting f (in_types x.types)) pos (s ∷ S)) ∙ walk-stop t (starting f x) pos (s ∷ S)

same-empty : (x : PerNs) → AreTypes x → is_empty (in_types x.types) ≡ is_empty x
same-empty x are = λ i. is_none x.types && is_none (sym are.values i) && is_none (sym are.macros i)

abbrev missed-by : PathKind → Bool → PerNs → Bool
missed-by k b x = elim k [ kind.Abs ↦ not b && is_empty x | _ ↦ false ]

-- it is missed by its type alone
pub missed-type : (w : Setting) (q : Ask) (p : Place) (s : Reading)
    → let x = overlay (layers w q p s false) in missed q (by_2015_rule w q p) (in_types x.types) ≡ missed q (by_2015_rule w q p) x
missed-type w q p s = by q.kind refl (by_2015_rule w q p) refl
  where
    x : PerNs
    x = overlay (layers w q p s false)

    alone : q.kind ≡ kind.Abs → by_2015_rule w q p ≡ false → is_empty (in_types x.types) ≡ is_empty x
    alone is unruled =
        let same : x ≡ extern_prelude s = ap overlay (layers-abs w q p s false unruled is) ∙ over_nothing (extern_prelude s) in
        ap (λ y. is_empty (in_types y.types)) same ∙ same-empty (extern_prelude s) (extern-alone s) ∙ ap is_empty (sym same)

    by : (k : PathKind) → q.kind ≡ k → (b : Bool) → by_2015_rule w q p ≡ b → missed-by q.kind b (in_types x.types) ≡ missed-by q.kind b x
    by kind.Abs is true ruled = ap (λ k. missed-by k true (in_types x.types)) is ∙ sym (ap (λ k. missed-by k true x) is)
    by kind.Abs is false unruled = ap (λ k. missed-by k false (in_types x.types)) is ∙ alone is unruled ∙ sym (ap (λ k. missed-by k false x) is)
    by _ is b e = ap (λ k. missed-by k b (in_types x.types)) is ∙ sym (ap (λ k. missed-by k b x) is)

-- so is its answer
pub ends-by-type : (w : World) (L : LocalMap) (q : Ask) (p : Place) (n : Name) (rest : List Name) → 0 < length rest
    → let g = setting_of w in
    let x = in_types (overlay (layers g q p (read w L n) false)).types in
    cond (missed q (by_2015_rule g q p) x) nothing_no (stop (enter g.tree) g.tree (seen_from p) x 1 (map (read w L) rest)) ≡ by_first_segment g q p (map (read w L) (n ∷ rest))
ends-by-type w L q p n [] some = absurd (omega arith)
ends-by-type w L q p n (r ∷ rest) some =
    let g = setting_of w in
    let x = overlay (layers g q p (read w L n) false) in
    λ i. cond (missed-type g q p (read w L n) i) nothing_no (goes-by-type g.tree (seen_from p) x 1 (read w L r) (map (read w L) rest) i)
