-- Invariants of every world still hold with a crate or a block more.
use Rattle.std.proofs.Common.{◌≡◌, ◌<◌, ◌+◌, ℕ, zero, suc, List, [], ◌∷◌, ◌++◌, Option, Some, None, length, slice_get, inl, inr, sym, ap, ◌∙◌, refl, subst, arith, length-append}
use Rattle.std.specs.Option.{option_and_then, option_map_or}
use Rattle.dm_maps.proofs.Ids.{Crate, MapId, ModuleId, Place}
use Rattle.dm_maps.specs.Trees.{no_map, Outline, IsMap, IsPlaced, IsWithin, IsWorldOf, AreMaps, is_crate_id, is_block_id, map_id_in}
use Rattle.dm_maps.proofs.EntryLemmas.{get-push, get-last}
use Rattle.dm_maps.proofs.GrowthLemmas.{after, get-within, map_id_in-append, container_in-append, AreMaps-append, Grows-same, Grows-append, IsWorldOf-next}

-- the outline and the place of a root alone in its map
abbrev pub root_outline : List Place → MapId → Outline
root_outline ps id = record { id = id; root = after ps; modules = (after ps, None) ∷ [] }

abbrev pub root_place : MapId → Place
root_place id = record { map = id; index = 0; parent = None }

abbrev pub crate_id : ℕ → MapId
crate_id k = record { krate = record { 0 = k }; block = None }

-- block b in crate k
abbrev pub id_in : Crate → ℕ → MapId
id_in k b = record { krate = k; block = Some (record { 0 = b }) }

IsMap-root : (ps : List Place) (id : MapId) → IsMap (ps ++ root_place id ∷ []) (root_outline ps id)
IsMap-root ps id = record { root = refl; one_root = one; listed = listed; ascending = ascending }
  where
    ascending : (i j : ℕ) (a b : ModuleId × Option ModuleId) → i < j → slice_get (root_outline ps id).modules i ≡ Some a → slice_get (root_outline ps id).modules j ≡ Some b → a.0.0 < b.0.0
    ascending i zero a b less e g = absurd (omega arith)
    ascending i (suc j) a b less e g = cc

    one : (i : ℕ) (m : ModuleId) → slice_get (root_outline ps id).modules i ≡ Some (m, None) → i ≡ 0
    one zero m e = refl
    one (suc i) m e = cc

    listed : (i : ℕ) (m : ModuleId) (q : Option ModuleId) → slice_get (root_outline ps id).modules i ≡ Some (m, q) → slice_get (ps ++ root_place id ∷ []) m.0 ≡ Some (record { map = id; index = i; parent = q })
    listed zero m q e =
        let same : (after ps, None) ≡ (m, q) = cc in
        let number : length ps ≡ m.0 = ap (λ (x : ModuleId × Option ModuleId). x.0.0) same in
        let up : None ≡ q = ap (λ (x : ModuleId × Option ModuleId). x.1) same in
        (λ j. slice_get (ps ++ root_place id ∷ []) (sym number j)) ∙ get-last ps (root_place id) ∙ (λ j. Some (record { map = id; index = 0; parent = up j }))
    listed (suc i) m q e = cc

AreMaps-root : (own : ℕ → MapId → Type 0) (ps : List Place) (os : List Outline) (id : MapId) → own (length os) id → AreMaps own ps os → AreMaps own (ps ++ root_place id ∷ []) (os ++ root_outline ps id ∷ [])
AreMaps-root own ps os id is are k o e = elim (get-push os (root_outline ps id) k o e) [
  | inl g ↦ AreMaps-append own ps (root_place id ∷ []) os are k o g
  | inr g ↦
      let P : ℕ → Outline → Type 0 = λ i x. own i x.id × IsMap (ps ++ root_place id ∷ []) x in
      subst (P k) g.1 (subst (λ i. P i (root_outline ps id)) (sym g.0) (is, IsMap-root ps id))
]

module _ (ps : List Place) (cs bs : List Outline) (inside : List (Option ModuleId)) (n : ℕ) (w : IsWorldOf ps cs bs inside n) (room : length ps < 4294967295) where
  pub IsWorldOf-crate : IsWorldOf (ps ++ root_place (crate_id (length cs)) ∷ []) (cs ++ root_outline ps (crate_id (length cs)) ∷ []) bs inside (n + 1)
  IsWorldOf-crate =
      let id = crate_id (length cs) in
      let own = root_outline ps id in
      let maps : length (cs ++ own ∷ []) ≡ length cs + 1 = length-append cs (own ∷ []) in
      let crates = w.crate_count in
      let blocks = w.block_count in
      IsWorldOf-next ps cs bs (cs ++ own ∷ []) bs inside inside n (n + 1) (root_place id) room w (record {
        placed = record { parent = λ q h. cc; block = λ b h. cc };
        stands = record { there = own; is_map = get-last cs own; of_id = refl; is_module = refl };
        in_crate = omega arith;
        keeps = λ b c h. h;
        crates = Grows-append cs own;
        blocks = Grows-same bs;
        crate_maps = AreMaps-root is_crate_id ps cs id refl w.crates;
        block_maps = AreMaps-append is_block_id ps (root_place id ∷ []) bs w.blocks;
        externs = let k = w.externs in omega arith;
        more_crates = omega arith;
        crate_count = omega arith;
        block_count = omega arith;
      })

  module _ (m : ModuleId) (known : m.0 < length ps) (k : Crate) (in_crate : (map_id_in ps m).krate ≡ k) (count : length inside ≡ length bs) where
    abbrev place : Place
    place = root_place (id_in k (length bs))

    abbrev inner : List (Option ModuleId)
    inner = inside ++ Some m ∷ []

    placed : IsPlaced (ps ++ place ∷ []) inner (length ps) place
    placed = record {
      parent = λ q h. cc;
      block = λ b e.
          let same : record { 0 = length bs } ≡ b = cc in
          let there : slice_get inner (length bs) ≡ Some (Some m) = subst (λ i. slice_get inner i ≡ Some (Some m)) count (get-last inside (Some m)) in
          subst (IsWithin (ps ++ place ∷ []) inner (length ps) place) same (record {
            container = m;
            is = ap (option_and_then (λ c. c)) there;
            smaller = known;
            same_crate = ap (λ (id : MapId). id.krate) (map_id_in-append ps (place ∷ []) m known) ∙ in_crate;
          });
    }

    pub IsWorldOf-block : IsWorldOf (ps ++ root_place (id_in k (length bs)) ∷ []) cs (bs ++ root_outline ps (id_in k (length bs)) ∷ []) (inside ++ Some m ∷ []) n
    IsWorldOf-block =
        let own = root_outline ps (id_in k (length bs)) in
        let maps : length (bs ++ own ∷ []) ≡ length bs + 1 = length-append bs (own ∷ []) in
        let crates = w.crate_count in
        let blocks = w.block_count in
        let at = get-within ps m.0 known in
        let its_crate : at.0.map.krate ≡ k = ap (λ o. (option_map_or (λ (x : Place). x.map) o no_map).krate) (sym at.1) ∙ in_crate in
        IsWorldOf-next ps cs bs cs (bs ++ own ∷ []) inside inner n n place room w (record {
          placed = placed;
          stands = record { there = own; is_map = get-last bs own; of_id = refl; is_module = refl };
          in_crate = subst (λ (x : Crate). x.0 < length cs) its_crate (w.in_crates m at.0 at.1);
          keeps = λ b c h. container_in-append inside (Some m ∷ []) b c h;
          crates = Grows-same cs;
          blocks = Grows-append bs own;
          crate_maps = AreMaps-append is_crate_id ps (place ∷ []) cs w.crates;
          block_maps = AreMaps-root is_block_id ps bs (id_in k (length bs)) refl w.blocks;
          externs = w.externs;
          more_crates = omega arith;
          crate_count = omega arith;
          block_count = omega arith;
        })
