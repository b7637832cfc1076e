-- What comes into the lists and the textual scopes of modules is known.
use Rattle.std.proofs.Common.{◌≡◌, ◌+◌, ℕ, Bool, true, false, cond, List, [], ◌∷◌, ◌++◌, Option, None, Some, map, slice_get, refl, subst, sym}
use Rattle.std.specs.List.{AllByRecursion, flat_map}
use Rattle.std.specs.Option.{option_map_or}
use Rattle.crate_tables.proofs.AllLemmas.{all-append, all-get, all-left, all-right, all-weaker}
use Rattle.crate_tables.proofs.FitLemmas.{IsFit, Known}
use Rattle.crate_tables.proofs.FitSteps.{Goes, all-wider, goes-further, goes-same}
use Rattle.crate_tables.proofs.FitMaps.{goes-scope, scope-fits}
use Rattle.crate_items.specs.DeclaredModules.{Module}
use Rattle.crate_items.specs.TextualScopes.{Scopes, name_at}
use Rattle.crate_items.specs.declared.items.declared_item.DeclaredItem.{DeclaredItem}
use Rattle.crate_items.specs.declared.macros.textual_scopes.TextualMacro.{TextualMacro}
use Rattle.crate_tables.specs.BlockLists as blocks
use Rattle.crate_tables.specs.CrateTables.{IsMacroOf}
use Rattle.crate_tables.specs.ExternLists as externs
use Rattle.crate_tables.specs.ScopeEntries.{entered, with_entry, with_entry_in}
use Rattle.crate_tables.specs.TextualMacros as textual
use Rattle.crate_tables.specs.Visibilities.{AreIdsOf, Ids, id_at}
use Rattle.crate_tables.specs.declared.extern_crates.ExternCrateRow.{ExternCrateRow}
use Rattle.crate_tables.specs.declared.item_place.BlockKind.{BlockKind}
use Rattle.crate_tables.specs.declared.item_place.BlockKind.TheVariants.{TraitImpl, InherentImpl, Extern}
use Rattle.crate_tables.specs.declared.item_place.BlockPlace.{BlockPlace}
use Rattle.crate_tables.specs.declared.scope_entry.ScopeEntry.{ScopeEntry}
use Rattle.crate_tables.specs.declared.scope_entry.ScopeEntry.TheVariants as entry
use Rattle.dm_base.specs.Names.{Name, same_name}
use Rattle.dm_base.specs.declared.ids.ModuleId.{ModuleId}
use Rattle.dm_base.specs.declared.item_ids.ItemKind.TheVariants as item
use Rattle.dm_base.specs.declared.item_ids.MacroId.{MacroId}
use Rattle.dm_base.specs.declared.item_ids.ModuleDefId.{ModuleDefId}
use Rattle.dm_maps.specs.Holding.{def_holds}
use Rattle.dm_maps.specs.Known.{KnowsAll, knows}
use Rattle.dm_maps.specs.ScopeHolds.{bindings_hold, legacies_hold, lists_hold, records_hold, scope_holds, unnamed_const_holds, unnamed_trait_holds}
use Rattle.dm_maps.specs.World.{World, scope_if_known}
use Rattle.dm_maps.specs.declared.check.held.HeldId.{HeldId}
use Rattle.dm_maps.specs.declared.check.held.HeldId.TheVariants as held
use Rattle.dm_scope.specs.Scope.{Scope}
use Rattle.dm_scope.specs.TableLists.{add_to_list}

-- ---- Entries of lists

-- what an entry holds: a definition, or a constant
abbrev pub entry_holds : ScopeEntry → List HeldId
entry_holds (entry.Declaration d) = def_holds d
entry_holds (entry.UnnamedConst c) = unnamed_const_holds c ∷ []
entry_holds (entry.ExternCrate c) = []
entry_holds (entry.Impl i b) = []
entry_holds (entry.ExternBlock b) = []

module _ (P : HeldId → Type 0) where
  flat-push : {X : Type 0} (f : X → List HeldId) (xs : List X) (x : X) → AllByRecursion P (flat_map f xs) → AllByRecursion P (f x) → AllByRecursion P (flat_map f (xs ++ x ∷ []))
  flat-push f [] x h g = all-append P (f x) [] g tt
  flat-push f (y ∷ ys) x h g = all-append P (f y) (flat_map f (ys ++ x ∷ [])) (all-left P (f y) (flat_map f ys) h) (flat-push f ys x (all-right P (f y) (flat_map f ys) h) g)

  map-push : {X : Type 0} (f : X → HeldId) (xs : List X) (x : X) → AllByRecursion P (map f xs) → P (f x) → AllByRecursion P (map f (xs ++ x ∷ []))
  map-push f [] x h g = (g, tt)
  map-push f (y ∷ ys) x h g = (h.0, map-push f ys x h.1 g)

  -- the lists of a scope are the last that it holds
  lists-put : (s t : Scope) → AllByRecursion P (scope_holds s) → bindings_hold t ≡ bindings_hold s → records_hold t ≡ records_hold s → legacies_hold t.legacy_macros ≡ legacies_hold s.legacy_macros
      → (AllByRecursion P (lists_hold s) → AllByRecursion P (lists_hold t)) → AllByRecursion P (scope_holds t)
  lists-put s t h b r l step =
      let behind = all-right P (bindings_hold s) (records_hold s ++ (legacies_hold s.legacy_macros ++ lists_hold s)) h in
      let later = all-right P (records_hold s) (legacies_hold s.legacy_macros ++ lists_hold s) behind in
      subst (λ (z : List HeldId × List HeldId × List HeldId). AllByRecursion P (z.0 ++ (z.1 ++ (z.2 ++ lists_hold t)))) (λ i. (sym b i, sym r i, sym l i))
      (all-append P (bindings_hold s) (records_hold s ++ (legacies_hold s.legacy_macros ++ lists_hold t)) (all-left P (bindings_hold s) (records_hold s ++ (legacies_hold s.legacy_macros ++ lists_hold s)) h)
      (all-append P (records_hold s) (legacies_hold s.legacy_macros ++ lists_hold t) (all-left P (records_hold s) (legacies_hold s.legacy_macros ++ lists_hold s) behind)
      (all-append P (legacies_hold s.legacy_macros) (lists_hold t) (all-left P (legacies_hold s.legacy_macros) (lists_hold s) later)
      (step (all-right P (legacies_hold s.legacy_macros) (lists_hold s) later)))))

  entry-put : (s : Scope) (e : ScopeEntry) → AllByRecursion P (scope_holds s) → AllByRecursion P (entry_holds e) → AllByRecursion P (scope_holds (entered s e))
  entry-put s (entry.Declaration d) h k =
      let rest = flat_map unnamed_trait_holds s.unnamed_traits ++ map unnamed_const_holds s.unnamed_consts in
      lists-put s (entered s (entry.Declaration d)) h refl refl refl
      (λ old. all-append P (flat_map def_holds (s.declarations ++ d ∷ [])) rest (flat-push def_holds s.declarations d (all-left P (flat_map def_holds s.declarations) rest old) k) (all-right P (flat_map def_holds s.declarations) rest old))
  entry-put s (entry.UnnamedConst c) h k =
      let traits = flat_map unnamed_trait_holds s.unnamed_traits in
      let consts = map unnamed_const_holds s.unnamed_consts in
      lists-put s (entered s (entry.UnnamedConst c)) h refl refl refl
      (λ old.
      let behind = all-right P (flat_map def_holds s.declarations) (traits ++ consts) old in
      all-append P (flat_map def_holds s.declarations) (traits ++ map unnamed_const_holds (s.unnamed_consts ++ c ∷ [])) (all-left P (flat_map def_holds s.declarations) (traits ++ consts) old)
      (all-append P traits (map unnamed_const_holds (s.unnamed_consts ++ c ∷ [])) (all-left P traits consts behind) (map-push unnamed_const_holds s.unnamed_consts c (all-right P traits consts behind) k.0)))
  entry-put s (entry.ExternCrate c) h k = h
  entry-put s (entry.Impl i b) h k = h
  entry-put s (entry.ExternBlock b) h k = h

  legacies-put : (es : List (Name × List MacroId)) (n : Name) (id : MacroId) → AllByRecursion P (legacies_hold es) → P (held.Macro id) → AllByRecursion P (legacies_hold (add_to_list same_name es n id))
  legacies-put [] n id h k = (k, tt)
  legacies-put (e ∷ es) n id h k =
      by (same_name n e.0) (legacies-put es n id (all-right P (map held.Macro e.1) (legacies_hold es) h) k)
    where
      by : (b : Bool) → AllByRecursion P (legacies_hold (add_to_list same_name es n id)) → AllByRecursion P (legacies_hold (cond b ((e.0, e.1 ++ id ∷ []) ∷ es) (e ∷ add_to_list same_name es n id)))
      by true rest = all-append P (map held.Macro (e.1 ++ id ∷ [])) (legacies_hold es) (map-push held.Macro e.1 id (all-left P (map held.Macro e.1) (legacies_hold es) h) k) (all-right P (map held.Macro e.1) (legacies_hold es) h)
      by false rest = all-append P (map held.Macro e.1) (legacies_hold (add_to_list same_name es n id)) (all-left P (map held.Macro e.1) (legacies_hold es) h) rest

  legacy-put : (s : Scope) (n : Name) (id : MacroId) → AllByRecursion P (scope_holds s) → P (held.Macro id) → AllByRecursion P (scope_holds (record s { legacy_macros = add_to_list same_name s.legacy_macros n id }))
  legacy-put s n id h k =
      let old = legacies_hold s.legacy_macros in
      let new = legacies_hold (add_to_list same_name s.legacy_macros n id) in
      let behind = all-right P (bindings_hold s) (records_hold s ++ (old ++ lists_hold s)) h in
      let later = all-right P (records_hold s) (old ++ lists_hold s) behind in
      all-append P (bindings_hold s) (records_hold s ++ (new ++ lists_hold s)) (all-left P (bindings_hold s) (records_hold s ++ (old ++ lists_hold s)) h)
      (all-append P (records_hold s) (new ++ lists_hold s) (all-left P (records_hold s) (old ++ lists_hold s) behind)
      (all-append P new (lists_hold s) (legacies-put s.legacy_macros n id (all-left P old (lists_hold s) later) k) (all-right P old (lists_hold s) later)))

pub goes-entry : (w : World) (m : ModuleId) (e : ScopeEntry) → IsFit w → KnowsAll w (entry_holds e) → Goes w (with_entry w m e)
goes-entry w m e is known = by (scope_if_known w m) refl
  where
    by : (o : Option Scope) → scope_if_known w m ≡ o → Goes w (with_entry_in w m e o)
    by None there = goes-same w is
    by (Some s) there = goes-scope w m (entered s e) is (entry-put (Known w) s e (scope-fits w m s is there) known)

-- ---- Rows of extern crates, and blocks: they are no ids.

pub goes-rows : (w : World) (n : ℕ) (rows : List ExternCrateRow) → IsFit w → Goes w (externs.with_extern_rows w n rows)
goes-rows w n [] is = goes-same w is
goes-rows w n (r ∷ rows) is =
    let one = by (knows w (held.Module r.home)) in
    goes-further w (externs.with_extern_row w n r) (externs.with_extern_rows w n (r ∷ rows)) one (goes-rows (externs.with_extern_row w n r) (n + 1) rows one.fit)
  where
    by : (b : Bool) → Goes w (cond b (with_entry w r.home (entry.ExternCrate (record { 0 = n }))) w)
    by true = goes-entry w r.home (entry.ExternCrate (record { 0 = n })) is tt
    by false = goes-same w is

pub goes-blocks : (w : World) (n : ℕ) (bs : List BlockPlace) → IsFit w → Goes w (blocks.with_blocks_from w n bs)
goes-blocks w n [] is = goes-same w is
goes-blocks w n (b ∷ bs) is =
    let one = by (knows w (held.Module b.home)) in
    goes-further w (blocks.with_block w n b) (blocks.with_blocks_from w n (b ∷ bs)) one (goes-blocks (blocks.with_block w n b) (n + 1) bs one.fit)
  where
    of : (k : BlockKind) → Goes w (blocks.with_block_of w b.home n k)
    of TraitImpl = goes-entry w b.home (entry.Impl (record { 0 = n }) true) is tt
    of InherentImpl = goes-entry w b.home (entry.Impl (record { 0 = n }) false) is tt
    of Extern = goes-entry w b.home (entry.ExternBlock (record { 0 = n })) is tt

    by : (t : Bool) → Goes w (cond t (blocks.with_known_block w n b) w)
    by true = of b.kind
    by false = goes-same w is

-- ---- Textual macros

goes-legacy : (w : World) (m : ModuleId) (n : Name) (id : MacroId) → IsFit w → Known w (held.Macro id) → Goes w (textual.with_legacy w m n id)
goes-legacy w m n id is known = by (scope_if_known w m) refl
  where
    by : (o : Option Scope) → scope_if_known w m ≡ o → Goes w (textual.with_legacy_in w m n id o)
    by None there = goes-same w is
    by (Some s) there = goes-scope w m (record s { legacy_macros = add_to_list same_name s.legacy_macros n id }) is (legacy-put (Known w) s n id (scope-fits w m s is there) known)

-- macros of a list, each of which is known
abbrev pub AreMacrosOf : World → List (Option MacroId) → Type 0
AreMacrosOf w ids = AllByRecursion (IsMacroOf w) ids

pub macros-on : (w v : World) (ids : List (Option MacroId)) → Goes w v → AreMacrosOf w ids → AreMacrosOf v ids
macros-on w v ids goes h = all-weaker (IsMacroOf w) (IsMacroOf v) on ids h
  where
    on : (o : Option MacroId) → IsMacroOf w o → IsMacroOf v o
    on None k = tt
    on (Some id) k = (goes.wider (held.Macro id) k.0, tt)

macro-fits : (w : World) (ids : List (Option MacroId)) (n : ℕ) → AreMacrosOf w ids → IsMacroOf w (textual.macro_at ids n)
macro-fits w ids n h = by (slice_get ids n) refl
  where
    by : (o : Option (Option MacroId)) → slice_get ids n ≡ o → IsMacroOf w (option_map_or (λ id. id) o None)
    by None e = tt
    by (Some id) e = all-get (IsMacroOf w) ids n id h e

goes-named : (w : World) (m : ModuleId) (id : Option MacroId) (n : Option Name) → IsFit w → IsMacroOf w id → Goes w (textual.with_named w m id n)
goes-named w m None n is known = goes-same w is
goes-named w m (Some id) None is known = goes-same w is
goes-named w m (Some id) (Some n) is known = goes-legacy w m n id is known.0

module _ (xs : List DeclaredItem) (ids : List (Option MacroId)) where
  goes-textual : (w : World) (m : ModuleId) (ts : List TextualMacro) → IsFit w → AreMacrosOf w ids → Goes w (textual.with_textual xs ids w m ts)
  goes-textual w m [] is known = goes-same w is
  goes-textual w m (t ∷ ts) is known =
      let v = textual.with_item xs ids w m t.number in
      let one = goes-named w m (textual.macro_at ids t.number) (name_at xs t.number) is (macro-fits w ids t.number known) in
      goes-further w v (textual.with_textual xs ids v m ts) one (goes-textual v m ts one.fit (macros-on w v ids one known))

  goes-scope_of : (w : World) (m : Option ModuleId) (ts : List TextualMacro) → IsFit w → AreMacrosOf w ids → Goes w (textual.with_scope_of xs ids w m ts)
  goes-scope_of w None ts is known = goes-same w is
  goes-scope_of w (Some m) ts is known = goes-textual w m ts is known

  pub goes-scopes : (modules : Ids) (w : World) (n : ℕ) (ss : Scopes) → IsFit w → AreMacrosOf w ids → Goes w (textual.with_scopes_from xs ids modules w n ss)
  goes-scopes modules w n [] is known = goes-same w is
  goes-scopes modules w n (s ∷ ss) is known =
      let v = textual.with_scope_of xs ids w (id_at modules n) s in
      let one = goes-scope_of w (id_at modules n) s is known in
      goes-further w v (textual.with_scopes_from xs ids modules v (n + 1) ss) one (goes-scopes modules v (n + 1) ss one.fit (macros-on w v ids one known))
