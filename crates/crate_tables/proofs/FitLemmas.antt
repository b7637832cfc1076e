-- Worlds whose maps, extern preludes and tables hold nothing but ids of some kind: those that the world knows, in the end.
use Rattle.std.proofs.Common.{◌≡◌, ℕ, suc, zero, List, [], ◌∷◌, ◌++◌, ◌+◌, Option, None, Some, map, set, slice_get, refl}
use Rattle.std.specs.Prelude.{IsTrue}
use Rattle.std.specs.List.{AllByRecursion}
use Rattle.std.specs.Option.{option_and_then, option_map_or}
use Rattle.crate_tables.proofs.AllLemmas.{all-append, all-get, all-mapped, all-set, all-weaker, value-at}
use Rattle.dm_base.specs.declared.ids.BlockId.{BlockId}
use Rattle.dm_base.specs.declared.ids.MapId.{MapId}
use Rattle.dm_base.specs.declared.ids.ModuleId.{ModuleId}
use Rattle.dm_def_map.specs.Maps.{LocalMap, Map, Module, nth_module}
use Rattle.dm_maps.specs.First.{Held, IsChecked, block_holder, crate_holder, each_from, local_at, module_holder, tables_holder}
use Rattle.dm_maps.specs.Holding.{local_holds}
use Rattle.dm_maps.specs.Holds.{map_holds, module_holds}
use Rattle.dm_maps.specs.Known.{knows, KnowsAll}
use Rattle.dm_maps.specs.Maps.{Maps, map_at, maps_with, put_map}
use Rattle.dm_maps.specs.TablesHold.{data_holds, tables_hold}
use Rattle.dm_maps.specs.World.{World, maps_of, placed_module}
use Rattle.dm_maps.specs.declared.check.held.HeldId.{HeldId}
use Rattle.dm_maps.specs.declared.place.Place.{Place}

-- a map, and the modules that it lists
pub record IsFitMap (P : HeldId → Type 0) (m : Map) : Type 0 where
  pub holds : AllByRecursion P (map_holds m)
  pub shared : AllByRecursion P (data_holds m.shared)
  pub modules : AllByRecursion (λ e. AllByRecursion P (module_holds e.1)) m.modules

pub record AreFitMaps (P : HeldId → Type 0) (ms : Maps) : Type 0 where
  pub crates : AllByRecursion (IsFitMap P) ms.crates
  pub blocks : AllByRecursion (IsFitMap P) ms.blocks

abbrev pub IsFitLocal : (HeldId → Type 0) → LocalMap → Type 0
IsFitLocal P L = AllByRecursion P (local_holds L)

pub record Fits (P : HeldId → Type 0) (w : World) : Type 0 where
  pub maps : AreFitMaps P (maps_of w)
  pub locals : AllByRecursion (IsFitLocal P) w.local_maps
  pub tables : AllByRecursion P (tables_hold w.item_tables)

abbrev pub Known : World → HeldId → Type 0
Known w h = IsTrue (knows w h)

-- a world that knows all that it holds
abbrev pub IsFit : World → Type 0
IsFit w = Fits (Known w) w

-- ---- What holds of ids of one kind holds of those of a wider kind.

map-weaker : (P Q : HeldId → Type 0) → ((h : HeldId) → P h → Q h) → (m : Map) → IsFitMap P m → IsFitMap Q m
map-weaker P Q f m fit = record {
  holds = all-weaker P Q f (map_holds m) fit.holds;
  shared = all-weaker P Q f (data_holds m.shared) fit.shared;
  modules = all-weaker (λ e. AllByRecursion P (module_holds e.1)) (λ e. AllByRecursion Q (module_holds e.1)) (λ e. all-weaker P Q f (module_holds e.1)) m.modules fit.modules;
}

pub fits-weaker : (P Q : HeldId → Type 0) → ((h : HeldId) → P h → Q h) → (w : World) → Fits P w → Fits Q w
fits-weaker P Q f w fit = record {
  maps = record {
    crates = all-weaker (IsFitMap P) (IsFitMap Q) (map-weaker P Q f) w.crate_maps fit.maps.crates;
    blocks = all-weaker (IsFitMap P) (IsFitMap Q) (map-weaker P Q f) w.block_maps fit.maps.blocks;
  };
  locals = all-weaker (IsFitLocal P) (IsFitLocal Q) (λ L. all-weaker P Q f (local_holds L)) w.local_maps fit.locals;
  tables = all-weaker P Q f (tables_hold w.item_tables) fit.tables;
}

-- ---- Maps, of which one is written.

abbrev pub at : Maps → MapId → Option BlockId → Option Map
at ms id o = elim o [ None ↦ slice_get ms.crates id.krate.0 | Some b ↦ slice_get ms.blocks b.0 ]

abbrev pub put : Maps → MapId → Option BlockId → Map → Maps
put ms id o m = elim o [ None ↦ record ms { crates = set ms.crates id.krate.0 m } | Some b ↦ record ms { blocks = set ms.blocks b.0 m } ]

module _ (P : HeldId → Type 0) (ms : Maps) (id : MapId) (fit : AreFitMaps P ms) where
  pub map-fits : (x : Map) → map_at ms id ≡ Some x → IsFitMap P x
  map-fits x e = by id.block e
    where
      by : (o : Option BlockId) → at ms id o ≡ Some x → IsFitMap P x
      by None g = all-get (IsFitMap P) ms.crates id.krate.0 x fit.crates g
      by (Some b) g = all-get (IsFitMap P) ms.blocks b.0 x fit.blocks g

  put-fits : (y : Map) → IsFitMap P y → AreFitMaps P (put_map ms id y)
  put-fits y is = by id.block
    where
      by : (o : Option BlockId) → AreFitMaps P (put ms id o y)
      by None = record { crates = all-set (IsFitMap P) ms.crates id.krate.0 y fit.crates is; blocks = fit.blocks }
      by (Some b) = record { crates = fit.crates; blocks = all-set (IsFitMap P) ms.blocks b.0 y fit.blocks is }

  pub with-fits : (f : Map → Map) → ((m : Map) → IsFitMap P m → IsFitMap P (f m)) → AreFitMaps P (maps_with ms id f)
  with-fits f step = by (map_at ms id) refl
    where
      by : (o : Option Map) → map_at ms id ≡ o → AreFitMaps P (option_map_or (λ m. put_map ms id (f m)) o ms)
      by None e = fit
      by (Some x) e = put-fits (f x) (step x (map-fits x e))

-- ---- Such a world is checked.

module _ (P : HeldId → Type 0) (w : World) (fit : Fits P w) where
  abbrev Fine : Held → Type 0
  Fine h = AllByRecursion P h.1

  local-fits : (k : ℕ) → AllByRecursion P (local_holds (local_at w.local_maps k))
  local-fits k = by (slice_get w.local_maps k) refl
    where
      by : (o : Option LocalMap) → slice_get w.local_maps k ≡ o → AllByRecursion P (local_holds (option_map_or (λ L. L) o []))
      by None e = tt
      by (Some L) e = all-get (IsFitLocal P) w.local_maps k L fit.locals e

  crates-fit : (i : ℕ) (ms : List Map) → AllByRecursion (IsFitMap P) ms → AllByRecursion Fine (each_from (crate_holder w.local_maps) i ms)
  crates-fit i [] h = tt
  crates-fit i (m ∷ ms) h = (
    all-append P (map_holds m) (local_holds (local_at w.local_maps i) ++ data_holds m.shared) h.0.holds
        (all-append P (local_holds (local_at w.local_maps i)) (data_holds m.shared) (local-fits i) h.0.shared),
    crates-fit (i + 1) ms h.1,
  )

  module-fits : (p : Place) → AllByRecursion P (option_map_or module_holds (placed_module w p) [])
  module-fits p = by (map_at (maps_of w) p.map) refl
    where
      of : (x : Map) → IsFitMap P x → (o : Option Module) → nth_module x.modules p.index ≡ o → AllByRecursion P (option_map_or module_holds o [])
      of x is None e = tt
      of x is (Some d) e = value-at (λ (y : Module). AllByRecursion P (module_holds y)) x.modules p.index d is.modules e

      by : (o : Option Map) → map_at (maps_of w) p.map ≡ o → AllByRecursion P (option_map_or module_holds (option_and_then (λ (x : Map). nth_module x.modules p.index) o) [])
      by None e = tt
      by (Some x) e = of x (map-fits P (maps_of w) p.map fit.maps x e) (nth_module x.modules p.index) refl

  modules-fit : (i : ℕ) (ps : List Place) → AllByRecursion Fine (each_from (module_holder w) i ps)
  modules-fit i [] = tt
  modules-fit i (p ∷ ps) = (module-fits p, modules-fit (i + 1) ps)

  pub all-fit : AllByRecursion Fine
      (each_from (crate_holder w.local_maps) 0 w.crate_maps
      ++ (map block_holder w.block_maps ++ (each_from (module_holder w) 0 w.places ++ tables_holder w ∷ [])))
  all-fit =
      let modules = each_from (module_holder w) 0 w.places in
      let rest = tables_holder w ∷ [] in
      all-append Fine (each_from (crate_holder w.local_maps) 0 w.crate_maps) (map block_holder w.block_maps ++ (modules ++ rest)) (crates-fit 0 w.crate_maps fit.maps.crates)
      (all-append Fine (map block_holder w.block_maps) (modules ++ rest)
      (all-mapped Fine block_holder w.block_maps (all-weaker (IsFitMap P) (λ m. AllByRecursion P (map_holds m)) (λ m is. is.holds) w.block_maps fit.maps.blocks))
      (all-append Fine modules rest (modules-fit 0 w.places) (fit.tables, tt)))

pub fit-checked : (w : World) → IsFit w → IsChecked w
fit-checked w fit = all-fit (Known w) w fit
