-- Which holders a world has, in order; when it is checked; and what its first fault is.
use Rattle.std.specs.Prelude.{◌≡◌, ℕ, ◌+◌, ◌++◌, Option, Some, List, [], ◌∷◌, MatchOption, slice_get, take, map}
use Rattle.std.specs.List.{AllByRecursion}
use Rattle.std.specs.Option.{option_map_or}
use Rattle.dm_maps.specs.declared.check.fault.Holder.{Holder}
use Rattle.dm_maps.specs.declared.check.fault.Holder.TheVariants as holder
use Rattle.dm_maps.specs.declared.check.fault.WorldFault.{WorldFault}
use Rattle.dm_maps.specs.declared.check.held.HeldId.{HeldId}
use Rattle.dm_maps.specs.declared.check.held.HeldFault.{HeldFault}
use Rattle.dm_maps.specs.declared.place.Place.{Place}
use Rattle.dm_def_map.specs.Maps.{Map, LocalMap}
use Rattle.dm_maps.specs.World.{World, placed_module}
use Rattle.dm_maps.specs.Known.{knows, KnowsAll}
use Rattle.dm_maps.specs.Holding.{local_holds}
use Rattle.dm_maps.specs.Holds.{map_holds, module_holds}
use Rattle.dm_maps.specs.TablesHold.{data_holds, tables_hold}
use Rattle.dm_maps.specs.Held.{IsLeast}

-- a holder with the ids that it holds
abbrev pub Held : Type 0
Held = Holder × List HeldId

-- what f says of each of a list, by number from i
abbrev pub each_from : {X : Type 0} → (ℕ → X → Held) → ℕ → List X → List Held
each_from f i [] = []
each_from f i (x ∷ xs) = f i x ∷ each_from f (i + 1) xs

-- the extern prelude of a crate
abbrev pub local_at : List LocalMap → ℕ → LocalMap
local_at Ls k = option_map_or (λ L. L) (slice_get Ls k) []

-- a crate's map, with its extern prelude and its procedural macros
abbrev pub crate_holder : List LocalMap → ℕ → Map → Held
crate_holder Ls k m = (holder.Map m.id, map_holds m ++ (local_holds (local_at Ls k) ++ data_holds m.shared))

-- a block's map
abbrev pub block_holder : Map → Held
block_holder m = (holder.Map m.id, map_holds m)

-- a module, by number and place
abbrev pub module_holder : World → ℕ → Place → Held
module_holder w i p = (holder.Module (record { 0 = i }), option_map_or module_holds (placed_module w p) [])

-- the tables that belong to none of them
abbrev pub tables_holder : World → Held
tables_holder w = (holder.Tables, tables_hold w.item_tables)

-- all of them: the maps of crates, the maps of blocks, the modules, each by number, and the tables
abbrev pub holders : World → List Held
holders w =
    each_from (crate_holder w.local_maps) 0 w.crate_maps
    ++ (map block_holder w.block_maps ++ (each_from (module_holder w) 0 w.places ++ tables_holder w ∷ []))

-- A world is checked where each id that a holder holds is one of its own, with its kind.
abbrev pub IsChecked : World → Type 0
IsChecked w = AllByRecursion (λ h. KnowsAll w h.1) (holders w)

abbrev pub fault_of : Holder → HeldFault → WorldFault
fault_of h f = record { kind = f.kind; holder = h; id = f.id }

-- the rule: the least fault of a holder before which no holder has one
pub record IsFirstFault (w : World) (hs : List Held) (f : WorldFault) : Type 0 where
  pub place : ℕ
  pub holder : Holder
  pub ids : List HeldId
  pub fault : HeldFault
  pub there : slice_get hs place ≡ Some (holder, ids)
  pub before : AllByRecursion (λ h. KnowsAll w h.1) (take place hs)
  pub least : IsLeast (knows w) ids fault
  pub is : f ≡ fault_of holder fault

-- none where no holder has a fault, else the first
abbrev pub IsAnswer : World → List Held → Option WorldFault → Type 0
IsAnswer w hs r = MatchOption r (AllByRecursion (λ h. KnowsAll w h.1) hs) (IsFirstFault w hs)
