-- What holds of every world still holds where a map has a module more, or a list a map.
use Rattle.std.proofs.Common.{◌≡◌, ◌<◌, ◌≤◌, ◌+◌, ℕ, zero, suc, List, [], ◌∷◌, ◌++◌, Option, Some, None, length, set, slice_get, inl, inr, sym, ap, ◌∙◌, refl, subst, arith, is_some, length-append}
use Rattle.std.specs.Option.{option_map_or, option_and_then, option_or}
use Rattle.std.proofs.lemmas.Option.{slice_get_within}
use Rattle.std.proofs.lemmas.Bool.{ltb-true, lt-ltb}
use Rattle.dm_maps.proofs.Ids.{BlockId, MapId, ModuleId, Place}
use Rattle.dm_base.specs.Tree.{IsTree, IsKnown, containing, outside, in_block_map, crate_of}
use Rattle.dm_maps.specs.Trees.{no_map, Outline, IsMap, IsPlaced, IsWorldOf, Stands, AreMaps, is_crate_id, is_block_id, map_id_in, parent_in, container_in, tree_by, numbered_outline}
use Rattle.dm_maps.proofs.EntryLemmas.{get-push, get-append, get-last, at-set}

-- the outline with a module more
abbrev pub longer : Outline → ModuleId → Option ModuleId → Outline
longer o m q = record o { modules = o.modules ++ (m, q) ∷ [] }

-- ---- A module's map stays where places come after it.

pub get-within : {X : Type 0} (xs : List X) (i : ℕ) → i < length xs → (x : X) × (slice_get xs i ≡ Some x)
get-within [] i h = absurd (omega arith)
get-within (x ∷ xs) zero h = (x, refl)
get-within (x ∷ xs) (suc i) h = get-within xs i (omega arith)

pub map_id_in-append : (ps qs : List Place) (m : ModuleId) → m.0 < length ps → map_id_in (ps ++ qs) m ≡ map_id_in ps m
map_id_in-append ps qs m h =
    let there = get-within ps m.0 h in
    ap (λ o. option_map_or (λ (p : Place). p.map) o no_map) (get-append ps qs m.0 there.0 there.1 ∙ sym there.1)

pub container_in-append : (cs ds : List (Option ModuleId)) (b : BlockId) (c : ModuleId) → container_in cs (Some b) ≡ Some c → container_in (cs ++ ds) (Some b) ≡ Some c
container_in-append cs ds b c h = by (slice_get cs b.0) refl h
  where
    by : (o : Option (Option ModuleId)) → slice_get cs b.0 ≡ o → option_and_then (λ x. x) o ≡ Some c → container_in (cs ++ ds) (Some b) ≡ Some c
    by None e g = cc
    by (Some x) e g = ap (option_and_then (λ y. y)) (get-append cs ds b.0 x e) ∙ g

-- blocks that lie in a module still do
abbrev pub Keeps : List (Option ModuleId) → List (Option ModuleId) → Type 0
Keeps cs ds = (b : BlockId) (c : ModuleId) → container_in cs (Some b) ≡ Some c → container_in ds (Some b) ≡ Some c

pub IsPlaced-append : (ps qs : List Place) (cs ds : List (Option ModuleId)) (i : ℕ) (p : Place) → Keeps cs ds → i ≤ length ps → IsPlaced ps cs i p → IsPlaced (ps ++ qs) ds i p
IsPlaced-append ps qs cs ds i p keeps le is = record {
  parent = λ q e. let h = is.parent q e in (h.0, map_id_in-append ps qs q (let l = h.0 in omega arith) ∙ h.1);
  block = λ b e. let h = is.block b e in record {
    container = h.container;
    is = keeps b h.container h.is;
    smaller = h.smaller;
    same_crate = ap (λ (id : MapId). id.krate) (map_id_in-append ps qs h.container (let l = h.smaller in omega arith)) ∙ h.same_crate;
  };
}

-- ---- Modules that are placed rightly make a tree.

module _ (ps : List Place) (cs : List (Option ModuleId)) (placed : (m : ModuleId) (p : Place) → slice_get ps m.0 ≡ Some p → IsPlaced ps cs m.0 p) where
  abbrev Around : ModuleId → ModuleId → Type 0
  Around m c = (c.0 < m.0) × (crate_of (tree_by ps cs) c ≡ crate_of (tree_by ps cs) m)

  outside-around : (m c : ModuleId) → IsKnown (tree_by ps cs) m → outside (tree_by ps cs) m ≡ Some c → Around m c
  outside-around m c known e =
      let there = get-within ps m.0 (ltb-true m.0 (length ps) known) in
      let own : map_id_in ps m ≡ there.0.map = ap (λ o. option_map_or (λ (p : Place). p.map) o no_map) there.1 in
      by there.0 own (placed m there.0 there.1) there.0.map.block refl (sym (ap (λ (id : MapId). option_and_then (λ b. container_in cs (Some b)) id.block) own) ∙ e)
    where
      by : (p : Place) → map_id_in ps m ≡ p.map → IsPlaced ps cs m.0 p → (o : Option BlockId) → p.map.block ≡ o → option_and_then (λ b. container_in cs (Some b)) p.map.block ≡ Some c → Around m c
      by p own is None b g = let n : None ≡ Some c = sym (ap (option_and_then (λ b. container_in cs (Some b))) b) ∙ g in cc
      by p own is (Some x) b g =
          let w = is.block x b in
          let same : w.container ≡ c = let n : Some w.container ≡ Some c = sym w.is ∙ sym (ap (option_and_then (λ b. container_in cs (Some b))) b) ∙ g in cc in
          subst (Around m) same (w.smaller, w.same_crate ∙ sym (ap (λ (id : MapId). id.krate) own))

  containing-around : (m c : ModuleId) → IsKnown (tree_by ps cs) m → containing (tree_by ps cs) m ≡ Some c → Around m c
  containing-around m c known e =
      let there = get-within ps m.0 (ltb-true m.0 (length ps) known) in
      let up : parent_in ps m ≡ there.0.parent = ap (option_and_then (λ (p : Place). p.parent)) there.1 in
      by there.0 (ap (λ o. option_map_or (λ (p : Place). p.map) o no_map) there.1) (placed m there.0 there.1) there.0.parent refl (sym (ap (λ o. option_or o (outside (tree_by ps cs) m)) up) ∙ e)
    where
      by : (p : Place) → map_id_in ps m ≡ p.map → IsPlaced ps cs m.0 p → (o : Option ModuleId) → p.parent ≡ o → option_or p.parent (outside (tree_by ps cs) m) ≡ Some c → Around m c
      by p own is None b g = outside-around m c known (sym (ap (λ o. option_or o (outside (tree_by ps cs) m)) b) ∙ g)
      by p own is (Some q) b g =
          let w = is.parent q b in
          let same : q ≡ c = let n : Some q ≡ Some c = sym (ap (λ o. option_or o (outside (tree_by ps cs) m)) b) ∙ g in cc in
          subst (Around m) same (w.0, ap (λ (id : MapId). id.krate) (w.1 ∙ sym own))

  outside-there : (m : ModuleId) → IsKnown (tree_by ps cs) m → is_some (outside (tree_by ps cs) m) ≡ in_block_map (tree_by ps cs) m
  outside-there m known =
      let there = get-within ps m.0 (ltb-true m.0 (length ps) known) in
      let own : map_id_in ps m ≡ there.0.map = ap (λ o. option_map_or (λ (p : Place). p.map) o no_map) there.1 in
      subst (λ (id : MapId). is_some (option_and_then (λ b. container_in cs (Some b)) id.block) ≡ is_some id.block) (sym own) (by there.0 (placed m there.0 there.1) there.0.map.block refl)
    where
      by : (p : Place) → IsPlaced ps cs m.0 p → (o : Option BlockId) → p.map.block ≡ o → is_some (option_and_then (λ b. container_in cs (Some b)) p.map.block) ≡ is_some p.map.block
      by p is None b = (λ i. is_some (option_and_then (λ x. container_in cs (Some x)) (b i))) ∙ sym (ap is_some b)
      by p is (Some x) b = (λ i. is_some (option_and_then (λ x. container_in cs (Some x)) (b i))) ∙ ap is_some (is.block x b).is ∙ sym (ap is_some b)

  parent-map : (m p : ModuleId) → IsKnown (tree_by ps cs) m → parent_in ps m ≡ Some p → map_id_in ps p ≡ map_id_in ps m
  parent-map m p known e =
      let there = get-within ps m.0 (ltb-true m.0 (length ps) known) in
      let up : there.0.parent ≡ Some p = sym (ap (option_and_then (λ (q : Place). q.parent)) there.1) ∙ e in
      ((placed m there.0 there.1).parent p up).1 ∙ sym (ap (λ o. option_map_or (λ (q : Place). q.map) o no_map) there.1)

  smaller-known : (m c : ModuleId) → IsKnown (tree_by ps cs) m → c.0 < m.0 → IsKnown (tree_by ps cs) c
  smaller-known m c known less = let within : m.0 < length ps = ltb-true m.0 (length ps) known in lt-ltb c.0 (length ps) (omega arith)

  pub IsTree-placed : IsTree (tree_by ps cs)
  IsTree-placed = record {
    parent_map = parent-map;
    containing_known = λ m c known e. smaller-known m c known (containing-around m c known e).0;
    containing_smaller = λ m c known e. (containing-around m c known e).0;
    containing_crate = λ m c known e. (containing-around m c known e).1;
    outside_known = λ m c known e. smaller-known m c known (outside-around m c known e).0;
    outside_smaller = λ m c known e. (outside-around m c known e).0;
    outside_crate = λ m c known e. (outside-around m c known e).1;
    outside_there = outside-there;
  }

-- ---- The maps, where places come after theirs, and where one has a module more.

pub IsMap-append : (ps qs : List Place) (o : Outline) → IsMap ps o → IsMap (ps ++ qs) o
IsMap-append ps qs o is = record {
  root = is.root;
  one_root = is.one_root;
  listed = λ i m q e. get-append ps qs m.0 (record { map = o.id; index = i; parent = q }) (is.listed i m q e);
  ascending = is.ascending;
}

pub AreMaps-append : (own : ℕ → MapId → Type 0) (ps qs : List Place) (os : List Outline) → AreMaps own ps os → AreMaps own (ps ++ qs) os
AreMaps-append own ps qs os are k o e = let h = are k o e in (h.0, IsMap-append ps qs o h.1)

-- the place of a new module with a parent in a map
abbrev pub place_below : Outline → ModuleId → Place
place_below o q = record { map = o.id; index = length o.modules; parent = Some q }

abbrev pub after : List Place → ModuleId
after ps = record { 0 = length ps }

pub IsMap-longer : (ps : List Place) (o : Outline) (q : ModuleId) → IsMap ps o → IsMap (ps ++ place_below o q ∷ []) (longer o (after ps) (Some q))
IsMap-longer ps o q is = record {
  root = get-append o.modules ((after ps, Some q) ∷ []) 0 (o.root, None) is.root;
  one_root = λ i m e. elim (get-push o.modules (after ps, Some q) i (m, None) e) [ inl g ↦ is.one_root i m g | inr g ↦ let n : Some q ≡ None = ap (λ (x : ModuleId × Option ModuleId). x.1) g.1 in cc ];
  listed = λ i m r e. elim (get-push o.modules (after ps, Some q) i (m, r) e) [
    | inl g ↦ get-append ps (place_below o q ∷ []) m.0 (record { map = o.id; index = i; parent = r }) (is.listed i m r g)
    | inr g ↦
        let number : length ps ≡ m.0 = ap (λ (x : ModuleId × Option ModuleId). x.0.0) g.1 in
        let up : Some q ≡ r = ap (λ (x : ModuleId × Option ModuleId). x.1) g.1 in
        (λ j. slice_get (ps ++ place_below o q ∷ []) (sym number j)) ∙ get-last ps (place_below o q) ∙ (λ j. Some (record { map = o.id; index = sym g.0 j; parent = up j }))
  ];
  ascending = ascending;
}
  where
    -- what the map had has smaller numbers than what comes after all places
    smaller : (i : ℕ) (a : ModuleId × Option ModuleId) → slice_get o.modules i ≡ Some a → a.0.0 < length ps
    smaller i a e = slice_get_within ps a.0.0 (record { map = o.id; index = i; parent = a.1 }) (is.listed i a.0 a.1 e)

    ascending : (i j : ℕ) (a b : ModuleId × Option ModuleId) → i < j → slice_get (o.modules ++ (after ps, Some q) ∷ []) i ≡ Some a → slice_get (o.modules ++ (after ps, Some q) ∷ []) j ≡ Some b → a.0.0 < b.0.0
    ascending i j a b less e g = elim (get-push o.modules (after ps, Some q) j b g) [
      | inl h ↦ elim (get-push o.modules (after ps, Some q) i a e) [
        | inl k ↦ is.ascending i j a b less k h
        | inr k ↦ let at = k.0 in let within = slice_get_within o.modules j b h in absurd (omega arith)
      ]
      | inr h ↦ elim (get-push o.modules (after ps, Some q) i a e) [
        | inl k ↦ let number : length ps ≡ b.0.0 = ap (λ (x : ModuleId × Option ModuleId). x.0.0) h.1 in let l = smaller i a k in omega arith
        | inr k ↦ let at = k.0 in let end = h.0 in absurd (omega arith)
      ]
    ]

pub AreMaps-longer : (own : ℕ → MapId → Type 0) (ps : List Place) (os : List Outline) (k : ℕ) (o : Outline) (q : ModuleId) → slice_get os k ≡ Some o → AreMaps own ps os → AreMaps own (ps ++ place_below o q ∷ []) (set os k (longer o (after ps) (Some q)))
AreMaps-longer own ps os k o q at are j x e = elim (at-set os k j o (longer o (after ps) (Some q)) at) [
  | inl g ↦ AreMaps-append own ps (place_below o q ∷ []) os are j x (sym g ∙ e)
  | inr g ↦
      let written : Some (longer o (after ps) (Some q)) ≡ Some x = sym g.2 ∙ e in
      let same : longer o (after ps) (Some q) ≡ x = cc in
      let h = are j o g.1 in
      subst (λ (y : Outline). own j y.id × IsMap (ps ++ place_below o q ∷ []) y) same (h.0, IsMap-longer ps o q h.1)
]

-- the maps, where the one at k may have a module more
abbrev pub Grows : List Outline → List Outline → Type 0
Grows os more = (k : ℕ) (o : Outline) → slice_get os k ≡ Some o → (n : Outline) × (slice_get more k ≡ Some n) × (n.id ≡ o.id) × ((i : ℕ) (x : ModuleId × Option ModuleId) → slice_get o.modules i ≡ Some x → slice_get n.modules i ≡ Some x)

pub Grows-same : (os : List Outline) → Grows os os
Grows-same os k o e = (o, e, refl, λ i x h. h)

pub Grows-append : (os : List Outline) (o : Outline) → Grows os (os ++ o ∷ [])
Grows-append os o k x e = (x, get-append os (o ∷ []) k x e, refl, λ i y h. h)

pub Grows-longer : (os : List Outline) (k : ℕ) (o : Outline) (m : ModuleId) (q : Option ModuleId) → slice_get os k ≡ Some o → Grows os (set os k (longer o m q))
Grows-longer os k o m q at j x e = elim (at-set os k j o (longer o m q) at) [
  | inl g ↦ (x, g ∙ e, refl, λ i y h. h)
  | inr g ↦
      let there : Some o ≡ Some x = sym g.1 ∙ e in
      let one : o ≡ x = cc in
      (longer o m q, g.2, ap (λ (y : Outline). y.id) one, λ i y h. get-append o.modules ((m, q) ∷ []) i y ((λ l. slice_get (one l).modules i) ∙ h))
]

pub numbered-grows : (cs bs ds es : List Outline) → Grows cs ds → Grows bs es → (id : MapId) (o : Outline) → numbered_outline cs bs id ≡ Some o → (n : Outline) × (numbered_outline ds es id ≡ Some n) × (n.id ≡ o.id) × ((i : ℕ) (x : ModuleId × Option ModuleId) → slice_get o.modules i ≡ Some x → slice_get n.modules i ≡ Some x)
numbered-grows cs bs ds es crates blocks id o e = at id.block e
  where
    Found : Option BlockId → Type 0
    Found block = (n : Outline) × (elim block [ None ↦ slice_get ds id.krate.0 | Some b ↦ slice_get es b.0 ] ≡ Some n) × (n.id ≡ o.id) × ((i : ℕ) (x : ModuleId × Option ModuleId) → slice_get o.modules i ≡ Some x → slice_get n.modules i ≡ Some x)

    look : Option BlockId → Option Outline
    look block = elim block [ None ↦ slice_get cs id.krate.0 | Some b ↦ slice_get bs b.0 ]

    at : (block : Option BlockId) → look block ≡ Some o → Found block
    at None g = crates id.krate.0 o g
    at (Some b) g = blocks b.0 o g

pub Stands-grows : (cs bs ds es : List Outline) (m : ModuleId) (p : Place) → Grows cs ds → Grows bs es → Stands cs bs m p → Stands ds es m p
Stands-grows cs bs ds es m p crates blocks is =
    let n = numbered-grows cs bs ds es crates blocks p.map is.there is.is_map in record {
      there = n.0;
      is_map = n.1;
      of_id = n.2 ∙ is.of_id;
      is_module = n.3 p.index (m, p.parent) is.is_module;
    }

-- ---- A place more.

-- What stands at the place p, which comes after all, stands rightly, in maps that are those of before, of which one may
-- have a module more, or with one more.
pub record IsNext (ps : List Place) (cs bs ds es : List Outline) (inside inner : List (Option ModuleId)) (locals : ℕ) (p : Place) : Type 0 where
  pub placed : IsPlaced (ps ++ p ∷ []) inner (length ps) p
  pub stands : Stands ds es (after ps) p
  pub in_crate : p.map.krate.0 < length ds
  pub keeps : Keeps inside inner
  pub crates : Grows cs ds
  pub blocks : Grows bs es
  pub crate_maps : AreMaps is_crate_id (ps ++ p ∷ []) ds
  pub block_maps : AreMaps is_block_id (ps ++ p ∷ []) es
  pub externs : locals ≡ length ds
  pub more_crates : length cs ≤ length ds
  pub crate_count : length ds ≤ length ps + 1
  pub block_count : length es ≤ length ps + 1

pub IsWorldOf-next : (ps : List Place) (cs bs ds es : List Outline) (inside inner : List (Option ModuleId)) (n k : ℕ) (p : Place) → length ps < 4294967295 → IsWorldOf ps cs bs inside n
    → IsNext ps cs bs ds es inside inner k p → IsWorldOf (ps ++ p ∷ []) ds es inner k
IsWorldOf-next ps cs bs ds es inside inner n k p room w new =
    let more : length (ps ++ p ∷ []) ≡ length ps + 1 = length-append ps (p ∷ []) in record {
      tree = IsTree-placed (ps ++ p ∷ []) inner placed;
      placed = placed;
      stands = stands;
      crates = new.crate_maps;
      blocks = new.block_maps;
      in_crates = in_crates;
      externs = new.externs;
      crate_count = let l = new.crate_count in omega arith;
      block_count = let l = new.block_count in omega arith;
      numbers = omega arith;
    }
  where
    placed : (m : ModuleId) (q : Place) → slice_get (ps ++ p ∷ []) m.0 ≡ Some q → IsPlaced (ps ++ p ∷ []) inner m.0 q
    placed m q e = elim (get-push ps p m.0 q e) [
      | inl g ↦
          let l : m.0 ≤ length ps = let h = slice_get_within ps m.0 q g in omega arith in
          IsPlaced-append ps (p ∷ []) inside inner m.0 q new.keeps l (w.placed m q g)
      | inr g ↦ subst (IsPlaced (ps ++ p ∷ []) inner m.0) g.1 (subst (λ i. IsPlaced (ps ++ p ∷ []) inner i p) (sym g.0) new.placed)
    ]

    stands : (m : ModuleId) (q : Place) → slice_get (ps ++ p ∷ []) m.0 ≡ Some q → Stands ds es m q
    stands m q e = elim (get-push ps p m.0 q e) [
      | inl g ↦ Stands-grows cs bs ds es m q new.crates new.blocks (w.stands m q g)
      | inr g ↦ subst (Stands ds es m) g.1 (subst (λ i. Stands ds es (record { 0 = i }) p) (sym g.0) new.stands)
    ]

    in_crates : (m : ModuleId) (q : Place) → slice_get (ps ++ p ∷ []) m.0 ≡ Some q → q.map.krate.0 < length ds
    in_crates m q e = elim (get-push ps p m.0 q e) [
      | inl g ↦ let l = w.in_crates m q g in let c = new.more_crates in omega arith
      | inr g ↦ subst (λ (x : Place). x.map.krate.0 < length ds) g.1 new.in_crate
    ]
