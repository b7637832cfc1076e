-- The segments of a path, step by step, and that the bound on the crates that it enters does not matter.
use Rattle.std.proofs.Common.{◌≡◌, ℕ, zero, suc, ◌+◌, ◌≤◌, ◌<◌, Bool, true, false, cond, List, [], ◌∷◌, length, find, is_none, Option, None, Some, refl, sym, ◌∙◌, ap, arith}
use Rattle.std.specs.Option.{option_map_or}
use Rattle.std.proofs.lemmas.Bool.{cond-true, eq-eqb}
use Rattle.dm_base.specs.declared.ids.ModuleId.{ModuleId}
use Rattle.dm_base.specs.declared.imports.ImportOrExternCrate.{ImportOrExternCrate}
use Rattle.dm_base.specs.declared.item_ids.ModuleDefId.{ModuleDefId}
use Rattle.dm_base.specs.declared.item_ids.ModuleDefId.TheVariants as def
use Rattle.dm_base.specs.declared.item_ids.AdtId.TheVariants as adt
use Rattle.dm_base.specs.declared.per_ns.Item.{Item}
use Rattle.dm_base.specs.declared.per_ns.PerNs.{PerNs}
use Rattle.dm_base.specs.PerNs.{nothing}
use Rattle.dm_base.specs.Tree.{Tree, crate_of, in_block_map, home}
use Rattle.dm_maps.specs.Readings.{Reading}
use Rattle.hir_def_map.specs.declared.path_resolution.result.ResolvePathResult.{ResolvePathResult}
use Rattle.hir_def_map.specs.Answers.{nothing_no, from_other_crate, yes_in_block}
use Rattle.hir_def_map.specs.Paths.{Entering, Station, stations, is_stop, at_stop, stop, next_module, seen_in, root_item, enter_within, enter}

module _ (e : Entering) (t : Tree) (f : ModuleId) (x : PerNs) (b : ℕ) (s : Reading) (S : List Reading) where
  -- the answer at the first stop, by the module of the first station
  abbrev stop_by : Option ModuleId → ResolvePathResult
  stop_by o = option_map_or (at_stop e) (cond (is_none o) (Some (record { position = b; here = x; rest = s ∷ S })) (find (is_stop t f) (stations t f (option_map_or (seen_in t f s) o nothing) (b + 1) S))) nothing_no

  pub stop-through : (m : ModuleId) → next_module t f x ≡ Some m → stop e t f x b (s ∷ S) ≡ stop e t f (seen_in t f s m) (b + 1) S
  stop-through m h = ap stop_by h

  pub stop-here : next_module t f x ≡ None → stop e t f x b (s ∷ S) ≡ at_stop e (record { position = b; here = x; rest = s ∷ S })
  stop-here h = ap stop_by h

-- two ways into other crates give the same, for at most n segments
abbrev SameUpTo : ℕ → (e d : Entering) → Type 0
SameUpTo n e d = (m : ModuleId) (S : List Reading) → length S ≤ n → e m S ≡ d m S

module _ (e d : Entering) where
  at_stop-same : (n : ℕ) → SameUpTo n e d → (b : ℕ) (x : PerNs) (S : List Reading) → length S ≤ n → at_stop e (record { position = b; here = x; rest = S }) ≡ at_stop d (record { position = b; here = x; rest = S })
  at_stop-same n h b x [] l = refl
  at_stop-same n h b x (s ∷ S) l = by x.types
    where
      by_def : (i : Item ModuleDefId ImportOrExternCrate) (c : ModuleDefId) → at_stop e (record { position = b; here = record x { types = Some (record i { def = c }) }; rest = s ∷ S }) ≡ at_stop d (record { position = b; here = record x { types = Some (record i { def = c }) }; rest = s ∷ S })
      by_def i (def.ModuleId m) = ap (from_other_crate b) (h m (s ∷ S) l)
      by_def i (def.AdtId (adt.EnumId k)) = refl
      by_def i (def.AdtId _) = refl
      by_def i _ = refl

      by : (o : Option (Item ModuleDefId ImportOrExternCrate)) → at_stop e (record { position = b; here = record x { types = o }; rest = s ∷ S }) ≡ at_stop d (record { position = b; here = record x { types = o }; rest = s ∷ S })
      by None = refl
      by (Some i) = by_def i i.def

  stop-same : (n : ℕ) → SameUpTo n e d → (t : Tree) (f : ModuleId) (x : PerNs) (b : ℕ) (S : List Reading) → length S ≤ n → stop e t f x b S ≡ stop d t f x b S
  stop-same n h t f x b [] l = refl
  stop-same n h t f x b (s ∷ S) l =
      let o = next_module t f x in
      go (is_none o) (find (is_stop t f) (stations t f (option_map_or (seen_in t f s) o nothing) (b + 1) S))
      (at_stop-same n h b x (s ∷ S) l) (stop-same n h t f (option_map_or (seen_in t f s) o nothing) (b + 1) S (omega arith))
    where
      chosen : Entering → Option Station → ResolvePathResult
      chosen y o = option_map_or (at_stop y) o nothing_no

      j : Station
      j = record { position = b; here = x; rest = s ∷ S }

      go : (c : Bool) (u : Option Station) → at_stop e j ≡ at_stop d j → chosen e u ≡ chosen d u → chosen e (cond c (Some j) u) ≡ chosen d (cond c (Some j) u)
      go true u here there = here
      go false u here there = there

-- a module is one of its own crate
pub own_crate : (t : Tree) (m : ModuleId) → next_module t m (root_item m) ≡ Some m
own_crate t m = cond-true _ (Some m) None (eq-eqb (crate_of t m).0 (crate_of t m).0 refl)

-- from a module itself the first segment is looked up in it, so other crates are met with fewer segments
stop_from-same : (e d : Entering) (t : Tree) (m : ModuleId) (S : List Reading) → ((n : ℕ) → suc n ≡ length S → SameUpTo n e d) → stop e t m (root_item m) 0 S ≡ stop d t m (root_item m) 0 S
stop_from-same e d t m [] h = refl
stop_from-same e d t m (s ∷ S) h =
    stop-through e t m (root_item m) 0 s S m (own_crate t m)
    ∙ stop-same e d (length S) (h (length S) refl) t m (seen_in t m s m) (0 + 1) S (omega arith)
    ∙ sym (stop-through d t m (root_item m) 0 s S m (own_crate t m))

-- a bound above the number of segments changes nothing
pub enough : (t : Tree) (k l : ℕ) (m : ModuleId) (S : List Reading) → length S < k → length S < l → enter_within k t m S ≡ enter_within l t m S
enough t zero l m S h g = absurd (omega arith)
enough t (suc k) zero m S h g = absurd (omega arith)
enough t (suc k) (suc l) m S h g =
    ap (yes_in_block (in_block_map t (home t m)))
    (stop_from-same (enter_within k t) (enter_within l t) t (home t m) S (λ n z o R r. enough t k l o R (omega arith) (omega arith)))

-- at a module of another crate the rest is entered there, whatever the bound
pub stop-enters : (t : Tree) (f : ModuleId) (x : PerNs) (b : ℕ) (S : List Reading) (k : ℕ) → length S < k → stop (enter_within k t) t f x b S ≡ stop (enter t) t f x b S
stop-enters t f x b S k h = stop-same (enter_within k t) (enter t) (length S) (λ m R r. enough t k (suc (length R)) m R (omega arith) (omega arith)) t f x b S (omega arith)

-- a module that is entered answers as the stop from its home
pub enter-stop : (t : Tree) (m : ModuleId) (S : List Reading) → enter t m S ≡ yes_in_block (in_block_map t (home t m)) (stop (enter t) t (home t m) (root_item (home t m)) 0 S)
enter-stop t m S =
    ap (yes_in_block (in_block_map t (home t m)))
    (stop_from-same (enter_within (length S) t) (enter t) t (home t m) S (λ n z o R r. enough t (length S) (suc (length R)) o R (omega arith) (omega arith)))
