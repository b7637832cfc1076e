-- The maps of a world, those of crates and those of blocks.
use Rattle.std.specs.Prelude.{◌≡◌, ℕ, List, [], ◌∷◌, ◌++◌, Option, Some, None, IfSome, slice_get, slice_set}
use Rattle.std.specs.Option.{option_map_or, option_and_then}
use Rattle.dm_base.specs.declared.ids.MapId.{MapId}
use Rattle.dm_base.specs.declared.ids.ModuleId.{ModuleId}
use Rattle.dm_base.specs.Names.{Name}
use Rattle.dm_scope.specs.Scope.{Scope}
use Rattle.dm_def_map.specs.Maps.{Map, Module, module_at, nth_module, nth_scope, map_with_child, map_with_scope}

-- the map of each crate, and of each block, by number
pub record Maps : Type 0 where
  pub crates : List Map
  pub blocks : List Map

-- the map of that id, by its number: a block's is found by the block alone
abbrev pub map_at : Maps → MapId → Option Map
map_at ms id = elim id.block [ None ↦ slice_get ms.crates id.krate.0 | Some b ↦ slice_get ms.blocks b.0 ]

-- the maps with m in place of the one of that id
abbrev pub put_map : Maps → MapId → Map → Maps
put_map ms id m = elim id.block [
  | None ↦ record ms { crates = slice_set ms.crates id.krate.0 m }
  | Some b ↦ record ms { blocks = slice_set ms.blocks b.0 m }
]

-- the maps with f of the one of that id, where there is one
abbrev pub maps_with : Maps → MapId → (Map → Map) → Maps
maps_with ms id f = option_map_or (λ m. put_map ms id (f m)) (map_at ms id) ms

-- with s as the scope of the module at place i of that map
abbrev pub maps_with_scope : Maps → MapId → ℕ → Scope → Maps
maps_with_scope ms id i s = maps_with ms id (λ m. map_with_scope m i s)

-- the module at place i of that map
abbrev pub nth_module_in : Maps → MapId → ℕ → Option Module
nth_module_in ms id i = option_and_then (λ m. nth_module m.modules i) (map_at ms id)

-- the scope at place i of that map
abbrev pub nth_scope_in : Maps → MapId → ℕ → Option Scope
nth_scope_in ms id i = option_and_then (λ m. nth_scope m.modules i) (map_at ms id)

-- with a module more in that map, a child of the module at place i
abbrev pub maps_with_child : Maps → MapId → ℕ → Name → ModuleId → Module → Maps
maps_with_child ms id i n m d = maps_with ms id (λ map. map_with_child map i n m d)

-- no module of that map has that number
abbrev pub IsFree : Maps → MapId → ModuleId → Type 0
IsFree ms id m = IfSome (map_at ms id) (λ map. module_at map.modules m ≡ None)

-- with a map more, the last of the crates' or of the blocks'
abbrev pub maps_and : Maps → Map → Maps
maps_and ms m = elim m.id.block [
  | None ↦ record ms { crates = ms.crates ++ m ∷ [] }
  | Some b ↦ record ms { blocks = ms.blocks ++ m ∷ [] }
]
