-- Trees of modules, and what is left of one while it is written.
use Rattle.std.proofs.Common.{◌≡◌, ◌++◌, ◌<◌, ◌≤◌, ◌+◌, ◌∙◌, ℕ, zero, suc, List, [], ◌∷◌, Option, None, Some, IsSome, map, codes, length, is_some, refl, sym, ap, arith}
use Rattle.std.specs.List.{flat_map}
use Rattle.std.specs.Option.{option_map_or}
use Rattle.std.proofs.lemmas.Bool.{ltb-true}
use Rattle.std.proofs.lemmas.List.{append_assoc, append-nil, length-append}
use Rattle.dm_maps.proofs.Ids.{ModuleId, Name, find_name}
use Rattle.dm_scope.specs.Dumps.{Text}
use Rattle.dm_def_map.specs.Maps.{Map, Module, module_at}
use Rattle.dm_maps.specs.Branches.{children_text, branch_text, left_text}
use Rattle.dm_maps.specs.MapDumps.{in_order, path_and, module_text, of_children, tree_within, tree, map_text, map_dump}
use Rattle.dm_maps.specs.MapFacts.{IsChild, IsMapOf}
use Rattle.dm_maps.specs.Outwards.{maps_outwards, next_outwards}
use Rattle.dm_maps.specs.Trees.{IsWorld}
use Rattle.dm_maps.specs.ScopeTables.{scope_tables}
use Rattle.dm_maps.specs.World.{World}
use Rattle.dm_maps.proofs.OutwardLemmas.{outwards-step, fewer-next}
use Rattle.dm_maps.specs.declared.world.map_dump.Branch.{Branch}

module _ (w : World) (own : Map) (is : IsMapOf w own) where
  within : (m : ModuleId) → IsSome (module_at own.modules m) → m.0 < length w.places
  within m some = ltb-true m.0 (length w.places) (is.known m some)

  -- what two say alike of the children of a module of the map
  same-children : (m : ModuleId) (d : Module) → module_at own.modules m ≡ Some d → (f g : Name → ModuleId → Text) → ((n : Name) (c : ModuleId) → IsChild own m c → f n c ≡ g n c) → of_children f d ≡ of_children g d
  same-children m d e f g same = λ i. flat_map (λ n. at n i) (in_order (map (λ x. x.0) d.children))
    where
      at : (n : Name) → option_map_or (f n) (find_name n d.children) [] ≡ option_map_or (g n) (find_name n d.children) []
      at n = by (find_name n d.children) refl
        where
          by : (o : Option ModuleId) → find_name n d.children ≡ o → option_map_or (f n) o [] ≡ option_map_or (g n) o []
          by None h = refl
          by (Some c) h = same n c (is.child m d e n c h)

  -- the children's trees, as far as n levels
  abbrev below : ℕ → Text → Name → ModuleId → Text
  below n path name c = codes "\n" ++ tree_within n (scope_tables w) own.modules (path_and (scope_tables w) path name) c

  -- a level more shows nothing more
  stable : (n : ℕ) (path : Text) (m : ModuleId) → IsSome (module_at own.modules m) → length w.places ≤ n + m.0 → tree_within n (scope_tables w) own.modules path m ≡ tree_within (suc n) (scope_tables w) own.modules path m
  stable zero path m some h = let less = within m some in absurd (omega arith)
  stable (suc n) path m some h = by (stable n) (module_at own.modules m) refl
    where
      by : ((p : Text) (c : ModuleId) → IsSome (module_at own.modules c) → length w.places ≤ n + c.0 → tree_within n (scope_tables w) own.modules p c ≡ tree_within (suc n) (scope_tables w) own.modules p c)
          → (o : Option Module) → module_at own.modules m ≡ o
          → option_map_or (λ d. module_text (scope_tables w) path d ++ of_children (below n path) d) o [] ≡ option_map_or (λ d. module_text (scope_tables w) path d ++ of_children (below (suc n) path) d) o []
      by rest None e = refl
      by rest (Some d) e = ap (λ x. module_text (scope_tables w) path d ++ x) (same-children m d e (below n path) (below (suc n) path) (λ name c child. let more = child.greater in ap (λ x. codes "\n" ++ x) (rest (path_and (scope_tables w) path name) c child.lies (omega arith))))

  -- a tree is its module, and then the trees of the children
  pub tree-step : (path : Text) (m : ModuleId) (d : Module) → module_at own.modules m ≡ Some d → tree w own path m ≡ module_text (scope_tables w) path d ++ children_text w own path d
  tree-step path m d e = by (length w.places) refl
    where
      by : (n : ℕ) → length w.places ≡ n → tree_within n (scope_tables w) own.modules path m ≡ module_text (scope_tables w) path d ++ of_children (below n path) d
      by zero h = let less = within m (ap is_some e) in absurd (omega arith)
      by (suc n) h =
          ap (λ o. option_map_or (λ x. module_text (scope_tables w) path x ++ of_children (below n path) x) o []) e
          ∙ ap (λ x. module_text (scope_tables w) path d ++ x) (same-children m d e (below n path) (below (suc n) path) (λ name c child. let more = child.greater in ap (λ x. codes "\n" ++ x) (stable n (path_and (scope_tables w) path name) c child.lies (omega arith))))

-- ---- What is left

module _ (w : World) (M : Map) where
  -- what is put last comes first
  pub left_text-push : (bs : List Branch) (b : Branch) → left_text w M (bs ++ b ∷ []) ≡ branch_text w M b ++ left_text w M bs
  left_text-push [] b = sym (append-nil (branch_text w M b))
  left_text-push (x ∷ bs) b = ap (λ l. l ++ branch_text w M x) (left_text-push bs b) ∙ append_assoc (branch_text w M b) (left_text w M bs) (branch_text w M x)

  -- and is taken first
  pub left_text-popped : (all bs : List Branch) (b : Branch) → all ≡ bs ++ b ∷ [] → left_text w M all ≡ branch_text w M b ++ left_text w M bs
  left_text-popped all bs b e = ap (left_text w M) e ∙ left_text-push bs b

-- what is written in front leaves less
pub shorter : (a b c d : Text) → a ++ b ≡ c ++ d → length c < length a → length b < length d
shorter a b c d e less =
    let same : length (a ++ b) ≡ length (c ++ d) = ap length e in
    let one = length-append a b in
    let other = length-append c d in
    omega arith

-- ---- From a map outwards

module _ (w : World) (is : IsWorld w) where
  abbrev one : Map × ModuleId → Text
  one x = map_text w x.0

  -- what is said of the maps from one outwards does not depend on the module that stands beside it
  from-any : (M : Map) (m p : ModuleId) → flat_map one (maps_outwards w M m) ≡ flat_map one (maps_outwards w M p)
  from-any M m p = ap (flat_map one) (outwards-step w is M m) ∙ sym (ap (flat_map one) (outwards-step w is M p))

  -- a dump has the map first, and then that of the next one outwards
  pub map_dump-next : (M P : Map) (p : ModuleId) → Some (P, p) ≡ next_outwards w M → map_dump w M ≡ map_text w M ++ map_dump w P
  map_dump-next M P p e =
      ap (flat_map one) (outwards-step w is M M.root ∙ ap (λ o. (M, M.root) ∷ option_map_or (λ (x : Map × ModuleId). maps_outwards w x.0 x.1) o []) (sym e))
      ∙ ap (λ x. map_text w M ++ x) (from-any P p P.root)

  pub fewer-outwards : (M P : Map) (p : ModuleId) → Some (P, p) ≡ next_outwards w M → length (maps_outwards w P P.root) < length (maps_outwards w M M.root)
  fewer-outwards M P p e =
      let same = ap length (outwards-step w is P P.root) ∙ sym (ap length (outwards-step w is P p)) in
      let fewer = fewer-next w is M P M.root p e in
      omega arith
