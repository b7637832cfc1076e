-- Maps, of which one is written.
use Rattle.std.proofs.Common.{◌≡◌, ◌⊎◌, inl, inr, Option, None, Some, set, slice_get, refl, ap}
use Rattle.std.specs.Option.{option_map_or}
use Rattle.dm_maps.proofs.Ids.{BlockId, MapId}
use Rattle.dm_def_map.specs.Maps.{Map}
use Rattle.dm_maps.specs.Maps.{Maps, map_at, put_map, maps_with}
use Rattle.dm_maps.proofs.EntryLemmas.{set-own, get-set_same, at-set}

module _ (ms : Maps) (id : MapId) where
  -- what holds with a map of a crate written, and with one of a block, holds with the one of that id written
  pub put-cases : (x y : Map) (P : Maps → Type 0) → map_at ms id ≡ Some x
      → (id.block ≡ None → slice_get ms.crates id.krate.0 ≡ Some x → P (record ms { crates = set ms.crates id.krate.0 y }))
      → ((b : BlockId) → id.block ≡ Some b → slice_get ms.blocks b.0 ≡ Some x → P (record ms { blocks = set ms.blocks b.0 y }))
      → P (put_map ms id y)
  put-cases x y P there crate block = by id.block refl there
    where
      by : (o : Option BlockId) → id.block ≡ o → elim o [ None ↦ slice_get ms.crates id.krate.0 | Some b ↦ slice_get ms.blocks b.0 ] ≡ Some x
          → P (elim o [ None ↦ record ms { crates = set ms.crates id.krate.0 y } | Some b ↦ record ms { blocks = set ms.blocks b.0 y } ])
      by None at e = crate at e
      by (Some b) at e = block b at e

  -- what holds of the maps, and with f of the one of that id written, holds with f of it
  pub with-cases : (f : Map → Map) (P : Maps → Type 0) → P ms → ((x : Map) → map_at ms id ≡ Some x → P (put_map ms id (f x))) → P (maps_with ms id f)
  with-cases f P none some = by (map_at ms id) refl
    where
      by : (o : Option Map) → map_at ms id ≡ o → P (option_map_or (λ m. put_map ms id (f m)) o ms)
      by None e = none
      by (Some x) e = some x e

  -- with f of a map x that is there
  pub with-there : (f : Map → Map) (x : Map) → map_at ms id ≡ Some x → maps_with ms id f ≡ put_map ms id (f x)
  with-there f x e = ap (λ o. option_map_or (λ m. put_map ms id (f m)) o ms) e

  -- a map written again changes nothing
  pub put_own : (x : Map) → map_at ms id ≡ Some x → put_map ms id x ≡ ms
  put_own x e =
      put-cases x x (λ all. all ≡ ms) e
      (λ at g. ap (λ l. record ms { crates = l }) (set-own ms.crates id.krate.0 x g))
      (λ b at g. ap (λ l. record ms { blocks = l }) (set-own ms.blocks b.0 x g))

  -- ---- What is found after a write.

  abbrev at : Maps → MapId → Option BlockId → Option Map
  at all jd o = elim o [ None ↦ slice_get all.crates jd.krate.0 | Some b ↦ slice_get all.blocks b.0 ]

  abbrev put : Option BlockId → Map → Maps
  put o y = elim o [ None ↦ record ms { crates = set ms.crates id.krate.0 y } | Some b ↦ record ms { blocks = set ms.blocks b.0 y } ]

  -- what was written is there
  pub put-there : (x y : Map) → map_at ms id ≡ Some x → map_at (put_map ms id y) id ≡ Some y
  put-there x y e = by id.block e
    where
      by : (o : Option BlockId) → at ms id o ≡ Some x → at (put o y) id o ≡ Some y
      by None g = get-set_same ms.crates id.krate.0 x y g
      by (Some b) g = get-set_same ms.blocks b.0 x y g

  -- another id finds what it found, or it finds what was written
  pub put-other : (jd : MapId) (x y : Map) → map_at ms id ≡ Some x → (map_at (put_map ms id y) jd ≡ map_at ms jd) ⊎ ((map_at ms jd ≡ Some x) × (map_at (put_map ms id y) jd ≡ Some y))
  put-other jd x y e = by id.block jd.block e
    where
      by : (o p : Option BlockId) → at ms id o ≡ Some x → (at (put o y) jd p ≡ at ms jd p) ⊎ ((at ms jd p ≡ Some x) × (at (put o y) jd p ≡ Some y))
      by None None g = elim (at-set ms.crates id.krate.0 jd.krate.0 x y g) [ inl h ↦ inl h | inr h ↦ inr (h.1, h.2) ]
      by None (Some b) g = inl refl
      by (Some b) None g = inl refl
      by (Some b) (Some c) g = elim (at-set ms.blocks b.0 c.0 x y g) [ inl h ↦ inl h | inr h ↦ inr (h.1, h.2) ]
