-- A checked world goes on, where a scope of it has a trait more that is imported without a name, or shows what it binds
-- to others.
use Rattle.std.proofs.Common.{◌≡◌, ◌∙◌, ◌^◌, ◌-◌, min, ℕ, Bool, true, false, cond, List, [], ◌∷◌, ◌++◌, Option, None, Some, map, length, refl, sym, ap, subst, arith, IsSome, IsTrue}
use Rattle.std.specs.Cmp.Lexicographic.{nat_list_eq_equiv}
use Rattle.std.specs.List.{AllByRecursion, flat_map, cons_option}
use Rattle.std.specs.Option.{option_map, option_map_or}
use Rattle.std.proofs.lemmas.Bool.{cond-false, or_parts}
use Rattle.std.proofs.lemmas.Slice.Eq.{bytes_eq-Decides}
use Rattle.dm_base.specs.declared.ids.ModuleId.{ModuleId}
use Rattle.dm_base.specs.declared.ids.TraitId.{TraitId}
use Rattle.dm_base.specs.declared.imports.ImportId.{ImportId}
use Rattle.dm_base.specs.declared.imports.ImportOrExternCrate.{ImportOrExternCrate}
use Rattle.dm_base.specs.declared.imports.ImportOrGlob.{ImportOrGlob}
use Rattle.dm_base.specs.declared.item_ids.MacroId.{MacroId}
use Rattle.dm_base.specs.declared.item_ids.ModuleDefId.{ModuleDefId}
use Rattle.dm_base.specs.Names.{Name, same_name, find_name}
use Rattle.dm_base.specs.IdLaws.{same_module-true}
use Rattle.dm_base.specs.Tree.{same_module}
use Rattle.dm_base.specs.declared.per_ns.Item.{Item}
use Rattle.dm_base.specs.declared.per_ns.Namespace.{Namespace}
use Rattle.dm_base.specs.declared.per_ns.Namespace.TheVariants.{Types, Values, Macros}
use Rattle.dm_base.specs.declared.visibility.Visibility.{Visibility}
use Rattle.dm_scope.specs.Changes.{change_item, with_vis}
use Rattle.dm_scope.specs.Tables.{record_count, all_records}
use Rattle.dm_scope.specs.Records.{records_in}
use Rattle.dm_scope.specs.Flags.{Globs}
use Rattle.dm_scope.specs.Scope.{Scope, no_scope}
use Rattle.dm_scope.specs.Shows.{ScopePush, Shows}
use Rattle.dm_maps.specs.declared.check.held.HeldId.{HeldId}
use Rattle.dm_maps.specs.declared.check.held.HeldId.TheVariants as held
use Rattle.dm_maps.specs.Holding.{def_holds, vis_holds, import_holds, value_import_holds, type_holds, value_holds, macro_holds}
use Rattle.dm_maps.specs.ScopeHolds.{scope_holds, bindings_hold, records_hold, legacies_hold, lists_hold, types_hold, values_hold, macros_hold, unnamed_trait_holds, unnamed_const_holds}
use Rattle.dm_maps.specs.declared.world.record_counts.RecordCounts.{RecordCounts}
use Rattle.dm_maps.specs.Built.{IsBuilt}
use Rattle.dm_maps.specs.Cut.{among, kept, cut_scope}
use Rattle.dm_maps.specs.GoesOn.{and_trait, seen_type, seen_value, seen_macro, with_unnamed_trait}
use Rattle.dm_maps.specs.Known.{knows, KnowsAll}
use Rattle.dm_maps.specs.PushRes.{StaysShown}
use Rattle.dm_maps.specs.RecordCounts.{IsCounted}
use Rattle.dm_maps.specs.ScopeTables.{scope_tables}
use Rattle.dm_maps.specs.Sound.{IsCheckedWorld}
use Rattle.dm_maps.specs.Stays.{StaysKnown}
use Rattle.dm_maps.specs.Trees.{IsWorld}
use Rattle.dm_def_map.specs.Maps.{Module}
use Rattle.dm_maps.specs.World.{World, module_of, place_of, scope_if_known, scope_of, with_scope}
use Rattle.dm_maps.proofs.AllLemmas.{all-left, all-right, all-append}
use Rattle.dm_maps.proofs.CutPush.{with_scope-cut}
use Rattle.dm_maps.proofs.RecordGrowth.{records-scoped}
use Rattle.dm_maps.proofs.RecordLemmas.{scope-within}
use Rattle.dm_maps.proofs.ScopeWrites.{IsCheckedWorld-scoped, knows-scoped, scope-known, scope_of-own, scope_of-other}
use Rattle.dm_maps.proofs.StayLemmas.{same-cut, locals-scoped}
use Rattle.dm_maps.proofs.WorldFacts.{scope-there}

-- ---- What the scope holds afterwards is what it held, or what is put into it.

module _ (P : HeldId → Type 0) where
  abbrev All : List HeldId → Type 0
  All hs = AllByRecursion P hs

  and-last : {X : Type 0} (f : X → List HeldId) (xs : List X) (x : X) → All (flat_map f xs) → All (f x) → All (flat_map f (xs ++ x ∷ []))
  and-last f [] x h p = all-append P (f x) [] p tt
  and-last f (y ∷ ys) x h p = all-append P (f y) (flat_map f (ys ++ x ∷ [])) (all-left P (f y) (flat_map f ys) h) (and-last f ys x (all-right P (f y) (flat_map f ys) h) p)

  -- with a trait more
  pub and_trait-holds : (s : Scope) (t : TraitId) (v : Visibility) (i : Option ImportId) → All (scope_holds s) → All (unnamed_trait_holds (t, v, i)) → All (scope_holds (and_trait s t v i))
  and_trait-holds s t v i h p =
      let bindings = bindings_hold s in
      let records = records_hold s in
      let legacies = legacies_hold s.legacy_macros in
      let defs = flat_map def_holds s.declarations in
      let traits = flat_map unnamed_trait_holds s.unnamed_traits in
      let consts = map unnamed_const_holds s.unnamed_consts in
      let more = flat_map unnamed_trait_holds (s.unnamed_traits ++ (t, v, i) ∷ []) in
      let after_bindings = all-right P bindings (records ++ (legacies ++ lists_hold s)) h in
      let after_records = all-right P records (legacies ++ lists_hold s) after_bindings in
      let lists = all-right P legacies (lists_hold s) after_records in
      let after_defs = all-right P defs (traits ++ consts) lists in
      all-append P bindings (records ++ (legacies ++ (defs ++ (more ++ consts)))) (all-left P bindings (records ++ (legacies ++ lists_hold s)) h)
      (all-append P records (legacies ++ (defs ++ (more ++ consts))) (all-left P records (legacies ++ lists_hold s) after_bindings)
      (all-append P legacies (defs ++ (more ++ consts)) (all-left P legacies (lists_hold s) after_records)
      (all-append P defs (more ++ consts) (all-left P defs (traits ++ consts) lists)
      (all-append P more consts (and-last unnamed_trait_holds s.unnamed_traits (t, v, i) (all-left P traits consts after_defs) p)
      (all-right P traits consts after_defs)))))

  -- with another visibility of what a name is bound to, in a namespace of which each item holds some ids
  module _ {D I : Type 0} (holds : Item D I → List HeldId) (v : Visibility) (seen : (x : Item D I) → All (holds x) → All (holds (record x { vis = v }))) where
    abbrev items_hold : List (Name × Item D I) → List HeldId
    items_hold es = flat_map holds (map (λ e. e.1) es)

    abbrev changed : Name → List (Name × Item D I) → List (Name × Item D I)
    changed n es = change_item (λ x. record x { vis = v }) n es

    vis-holds : (n : Name) (es : List (Name × Item D I)) → All (items_hold es) → All (items_hold (changed n es))
    vis-holds n [] h = h
    vis-holds n (e ∷ es) h = by (same_name n e.0) (vis-holds n es (all-right P (holds e.1) (items_hold es) h))
      where
        by : (b : Bool) → All (items_hold (changed n es)) → All (items_hold (cond b ((e.0, record e.1 { vis = v }) ∷ es) (e ∷ changed n es)))
        by true rest = all-append P (holds (record e.1 { vis = v })) (items_hold es) (seen e.1 (all-left P (holds e.1) (items_hold es) h)) (all-right P (holds e.1) (items_hold es) h)
        by false rest = all-append P (holds e.1) (items_hold (changed n es)) (all-left P (holds e.1) (items_hold es) h) rest

  other-vis : (a b c d : List HeldId) → All ((a ++ b) ++ c) → All d → All ((a ++ d) ++ c)
  other-vis a b c d h p = all-append P (a ++ d) c (all-append P a d (all-left P a b (all-left P (a ++ b) c h)) p) (all-right P (a ++ b) c h)

  module _ (s : Scope) (n : Name) (v : Visibility) (before : All (scope_holds s)) (known : All (vis_holds v)) where
    abbrev beside : List HeldId
    beside = records_hold s ++ (legacies_hold s.legacy_macros ++ lists_hold s)

    abbrev types : List HeldId
    types = types_hold s.types.items

    abbrev values : List HeldId
    values = values_hold s.values.items

    abbrev macros : List HeldId
    macros = macros_hold s.macros.items

    bindings : All (types ++ (values ++ macros))
    bindings = all-left P (bindings_hold s) beside before

    others : All (values ++ macros)
    others = all-right P types (values ++ macros) bindings

    unchanged : All beside
    unchanged = all-right P (bindings_hold s) beside before

    seen_types : All (types_hold (with_vis n v s.types).items)
    seen_types =
        vis-holds type_holds v (λ x h. other-vis (def_holds x.def) (vis_holds x.vis) (option_map_or import_holds x.import []) (vis_holds v) h known)
        n s.types.items (all-left P types (values ++ macros) bindings)

    seen_values : All (values_hold (with_vis n v s.values).items)
    seen_values =
        vis-holds value_holds v (λ x h. other-vis (def_holds x.def) (vis_holds x.vis) (option_map_or value_import_holds x.import []) (vis_holds v) h known)
        n s.values.items (all-left P values macros others)

    seen_macros : All (macros_hold (with_vis n v s.macros).items)
    seen_macros =
        vis-holds macro_holds v (λ x h. other-vis (held.Macro x.def ∷ []) (vis_holds x.vis) (option_map_or import_holds x.import []) (vis_holds v) h known)
        n s.macros.items (all-right P values macros others)

    pub seen_type-holds : All (scope_holds (seen_type s n v))
    seen_type-holds =
        all-append P (bindings_hold (seen_type s n v)) beside
        (all-append P (types_hold (with_vis n v s.types).items) (values ++ macros) seen_types others) unchanged

    pub seen_value-holds : All (scope_holds (seen_value s n v))
    seen_value-holds =
        let seen = values_hold (with_vis n v s.values).items in
        all-append P (bindings_hold (seen_value s n v)) beside
        (all-append P types (seen ++ macros) (all-left P types (values ++ macros) bindings)
        (all-append P seen macros seen_values (all-right P values macros others))) unchanged

    pub seen_macro-holds : All (scope_holds (seen_macro s n v))
    seen_macro-holds =
        let seen = macros_hold (with_vis n v s.macros).items in
        all-append P (bindings_hold (seen_macro s n v)) beside
        (all-append P types (values ++ seen) (all-left P types (values ++ macros) bindings)
        (all-append P values seen (all-left P values macros others) seen_macros)) unchanged

-- ---- What it has under other names stays.

find-changed : {D I : Type 0} (f : Item D I → Item D I) (n k : Name) → same_name k n ≡ false → (es : List (Name × Item D I)) → find_name k (change_item f n es) ≡ find_name k es
find-changed f n k other [] = refl
find-changed {D} {I} f n k other (e ∷ es) = by (same_name n e.0) refl (find-changed f n k other es)
  where
    by : (b : Bool) → same_name n e.0 ≡ b → find_name k (change_item f n es) ≡ find_name k es → find_name k (cond b ((e.0, f e.1) ∷ es) (e ∷ change_item f n es)) ≡ find_name k (e ∷ es)
    by true is rest =
        let here : same_name k e.0 ≡ false = ap (same_name k) (sym ((bytes_eq-Decides n e.0).0 is)) ∙ other in
        cond-false (same_name k e.0) _ _ here ∙ sym (cond-false (same_name k e.0) _ _ here)
    by false is rest = ap (cond (same_name k e.0) (Some e.1)) rest

kept-changed : {D I : Type 0} (f : Item D I → Item D I) (N : List Name) (n : Name) → among N n ≡ false → (es : List (Name × Item D I)) → kept N (change_item f n es) ≡ kept N es
kept-changed f [] n h es = refl
kept-changed f (k ∷ N) n h es =
    let parts = or_parts (same_name n k) (among N n) h in
    λ i. cons_option (option_map (λ x. (k, x)) (find-changed f n k (nat_list_eq_equiv.symm k n ∙ parts.0) es i)) (kept-changed f N n parts.1 es i)

module _ (N : List Name) (s : Scope) (n : Name) (v : Visibility) (h : among N n ≡ false) where
  pub seen_type-cut : cut_scope N (seen_type s n v) ≡ cut_scope N s
  seen_type-cut =
      let f = λ (x : Item ModuleDefId ImportOrExternCrate). record x { vis = v } in
      λ i. record (cut_scope N s) { types = record { items = kept-changed f N n h s.types.items i; records = [] } }

  pub seen_value-cut : cut_scope N (seen_value s n v) ≡ cut_scope N s
  seen_value-cut =
      let f = λ (x : Item ModuleDefId ImportOrGlob). record x { vis = v } in
      λ i. record (cut_scope N s) { values = record { items = kept-changed f N n h s.values.items i; records = [] } }

  pub seen_macro-cut : cut_scope N (seen_macro s n v) ≡ cut_scope N s
  seen_macro-cut =
      let f = λ (x : Item MacroId ImportOrExternCrate). record x { vis = v } in
      λ i. record (cut_scope N s) { macros = record { items = kept-changed f N n h s.macros.items i; records = [] } }

-- ---- The world goes on.

-- s may be the scope of m: what it holds is the world's, and it has as many records as there were
pub record Fits (w : World) (m : ModuleId) (s : Scope) : Type 0 where
  pub known : IsTrue (knows w (held.Module m))
  pub holds : KnowsAll w (scope_holds s)
  pub records : (ns : Namespace) → length (records_in ns s) ≡ length (records_in ns (scope_of w m))

module _ (w : World) (is : IsWorld w) (m : ModuleId) (s : Scope) (fits : Fits w m s) where
  counts-same : (ns : Namespace) → record_count ns (scope_tables w) ≡ record_count ns (scope_tables (with_scope w m s))
  counts-same ns =
      let all = records-scoped ns w is m s (scope-there w is m fits.known) in
      let own = fits.records ns in
      let same : length (all_records ns (scope_tables w)) ≡ length (all_records ns (scope_tables (with_scope w m s))) = omega (arith, all, own) in
      ap (λ n. min n (2 ^ 64 - 1)) same

  count-goes_on : (v : World) → v ≡ with_scope w m s → (ns : Namespace) (n : ℕ) → n ≡ record_count ns (scope_tables w) → n ≡ record_count ns (scope_tables v)
  count-goes_on v same ns n e = e ∙ counts-same ns ∙ ap (λ u. record_count ns (scope_tables u)) (sym same)

-- it is checked, and its records are as many
pub scope-goes_on : (w v : World) (c : RecordCounts) (m : ModuleId) (s : Scope) → IsCheckedWorld w → IsCounted w c → IsBuilt v → v ≡ with_scope w m s → Fits w m s → IsCheckedWorld v × IsCounted v c
scope-goes_on w v c m s is counted built same fits = (
  IsCheckedWorld-scoped w v m s is built same fits.holds,
  record {
    types = count-goes_on w is.lawful m s fits v same Types c.types counted.types;
    values = count-goes_on w is.lawful m s fits v same Values c.values counted.values;
    macros = count-goes_on w is.lawful m s fits v same Macros c.macros counted.macros;
  },
)

-- what was known is known, and the name-independent part is as before
pub scope-stays : (w : World) (m : ModuleId) (s : Scope) → StaysKnown w (with_scope w m s)
scope-stays w m s = same-cut w (with_scope w m s) (with_scope-cut w [] m s refl) (locals-scoped w (place_of w m) s) (knows-scoped w m s)

-- ---- Its records are as many.

and_trait-records : (s : Scope) (t : TraitId) (v : Visibility) (i : Option ImportId) (ns : Namespace) → length (records_in ns (and_trait s t v i)) ≡ length (records_in ns s)
and_trait-records s t v i Types = refl
and_trait-records s t v i Values = refl
and_trait-records s t v i Macros = refl

seen_type-records : (s : Scope) (n : Name) (v : Visibility) (ns : Namespace) → length (records_in ns (seen_type s n v)) ≡ length (records_in ns s)
seen_type-records s n v Types = refl
seen_type-records s n v Values = refl
seen_type-records s n v Macros = refl

seen_value-records : (s : Scope) (n : Name) (v : Visibility) (ns : Namespace) → length (records_in ns (seen_value s n v)) ≡ length (records_in ns s)
seen_value-records s n v Types = refl
seen_value-records s n v Values = refl
seen_value-records s n v Macros = refl

seen_macro-records : (s : Scope) (n : Name) (v : Visibility) (ns : Namespace) → length (records_in ns (seen_macro s n v)) ≡ length (records_in ns s)
seen_macro-records s n v Types = refl
seen_macro-records s n v Values = refl
seen_macro-records s n v Macros = refl

-- ---- Each of these scopes fits.

module _ (w : World) (is : IsCheckedWorld w) (m : ModuleId) (known : IsTrue (knows w (held.Module m))) where
  abbrev Known : HeldId → Type 0
  Known h = IsTrue (knows w h)

  abbrev old : Scope
  old = scope_of w m

  pub fits-trait : (t : TraitId) (v : Visibility) (i : Option ImportId) → KnowsAll w (unnamed_trait_holds (t, v, i)) → Fits w m (and_trait old t v i)
  fits-trait t v i h = record { known = known; holds = and_trait-holds Known old t v i (scope-known w m is) h; records = and_trait-records old t v i }

  module _ (n : Name) (v : Visibility) (seen : KnowsAll w (vis_holds v)) where
    pub fits-type : Fits w m (seen_type old n v)
    fits-type = record { known = known; holds = seen_type-holds Known old n v (scope-known w m is) seen; records = seen_type-records old n v }

    pub fits-value : Fits w m (seen_value old n v)
    fits-value = record { known = known; holds = seen_value-holds Known old n v (scope-known w m is) seen; records = seen_value-records old n v }

    pub fits-macro : Fits w m (seen_macro old n v)
    fits-macro = record { known = known; holds = seen_macro-holds Known old n v (scope-known w m is) seen; records = seen_macro-records old n v }

-- ---- A trait without a name leaves what scopes show.

trait-shows : (s : Scope) (g : Globs) (k : ModuleId) (ps : List ScopePush) (t : TraitId) (v : Visibility) (i : Option ImportId) → Shows s g k ps → Shows (and_trait s t v i) g k ps
trait-shows s g k ps t v i h = record { types = h.types; values = h.values; macros = h.macros; unresolved = h.unresolved }

pub trait-shown : (w : World) → IsWorld w → (m : ModuleId) → IsTrue (knows w (held.Module m)) → (t : TraitId) (v : Visibility) (i : Option ImportId) (g : Globs) (k : ModuleId) → StaysShown w g (with_unnamed_trait w m t v i) g k
trait-shown w is m known t v i g k ps h = by (same_module m k) refl
  where
    new : Scope
    new = and_trait (scope_of w m) t v i

    u : World
    u = with_scope w m new

    by : (b : Bool) → same_module m k ≡ b → Shows (scope_of u k) g k ps
    by true e =
        let same = same_module-true m k e in
        subst (λ j. Shows (scope_of u j) g j ps) same
        (subst (λ s. Shows s g m ps) (sym (scope_of-own new w m (scope-there w is m known)))
        (trait-shows (scope_of w m) g m ps t v i (subst (λ j. Shows (scope_of w j) g j ps) (sym same) h)))
    by false e = subst (λ s. Shows s g k ps) (sym (scope_of-other new w is m k e)) h

-- ---- A module whose scope binds something is there.

pub scope-bound : (w : World) (m : ModuleId) (Q : Scope → Type 0) → (Q no_scope → ⊥) → Q (scope_of w m) → IsSome (scope_if_known w m)
scope-bound w m Q none q = by (module_of w m) q
  where
    by : (o : Option Module) → Q (option_map_or (λ (d : Module). d.scope) o no_scope) → IsSome (option_map (λ (d : Module). d.scope) o)
    by None h = absurd (none h)
    by (Some d) h = refl

pub known-bound : (w : World) → IsWorld w → (m : ModuleId) → IsSome (scope_if_known w m) → IsTrue (knows w (held.Module m))
known-bound w is m there = sym (scope-within w is m) ∙ there

-- a scope that is read is the one that is lent
pub lent-read : (s : Scope) (o : Option Module) → option_map (λ (d : Module). d.scope) o ≡ Some s → s ≡ option_map_or (λ (d : Module). d.scope) o no_scope
lent-read s None e = cc
lent-read s (Some d) e = cc
