-- From a map outwards: the map itself, the map of the module that contains its block, and so on; and calls of a
-- callback with them.
use Rattle.std.specs.Prelude.{◌≡◌, ℕ, zero, suc, List, [], ◌∷◌, IsSome, Option, Some, None, length}
use Rattle.std.specs.Borrow.{Bor}
use Rattle.std.specs.Option.{option_map, option_map_or, option_and_then}
use Rattle.dm_base.specs.declared.ids.ModuleId.{ModuleId}
use Rattle.dm_def_map.specs.Maps.{Map, module_at}
use Rattle.dm_maps.specs.MapFacts.{IsMapOf}
use Rattle.dm_maps.specs.World.{World, map_of, numbered_map}

-- the module that contains a map's block; a crate's map has none
abbrev pub container_of : Map → Option ModuleId
container_of M = elim M.id.block [ None ↦ None | Some b ↦ M.parent ]

-- the map that this module lies in, with the module
abbrev pub next_outwards : World → Map → Option (Map × ModuleId)
next_outwards w M = option_and_then (λ p. option_map (λ P. (P, p)) (map_of w p)) (container_of M)

-- a map with a module, and the next ones outwards, as far as n steps
abbrev pub outwards_within : ℕ → World → Map → ModuleId → List (Map × ModuleId)
outwards_within zero w M m = (M, m) ∷ []
outwards_within (suc n) w M m = (M, m) ∷ option_map_or (λ x. outwards_within n w x.0 x.1) (next_outwards w M) []

-- A map with a module, and the next ones outwards. There are fewer steps than modules, since each goes to a module of
-- smaller number.
abbrev pub maps_outwards : World → Map → ModuleId → List (Map × ModuleId)
maps_outwards w M m = outwards_within (length w.places) w M m

-- One call of a callback with a map and a module: a is its answer, and g its state after it.
abbrev pub AsksMap : {F T : Type 0} → (F → Bor Map → ModuleId → Option T → F → Type 0) → F → Map × ModuleId → Option T → F → Type 0
AsksMap step f x a g = (M : Bor Map) × (M.now ≡ x.0) × step f M x.1 a g

-- A callback is called with maps in order until it answers Some: r is that answer, or None where it never does.
abbrev pub AsksMaps : {F T : Type 0} → (F → Bor Map → ModuleId → Option T → F → Type 0) → List (Map × ModuleId) → F → Option T → F → Type 0
AsksMaps step [] f r g = (r ≡ None) × (g ≡ f)
AsksMaps {F} {T} step (x ∷ xs) f r g = (a : Option T) × (h : F) × AsksMap step f x a h × elim a [ None ↦ AsksMaps step xs h r g | Some y ↦ (r ≡ Some y) × (g ≡ h) ]

-- A map of the world, with a module that lies in it.
pub record IsHandedOut (w : World) (x : Map × ModuleId) : Type 0 where
  pub own : numbered_map w x.0.id ≡ Some x.0
  pub facts : IsMapOf w x.0
  pub lies : IsSome (module_at x.0.modules x.1)

-- A callback may be called with a map and a module: its precondition holds.
abbrev pub MayAskMap : {F : Type 0} → (F → Bor Map → ModuleId → Type 0) → F → Map × ModuleId → Type 0
MayAskMap may f x = (M : Bor Map) → M.now ≡ x.0 → may f M x.1

-- A callback may be called with maps in order until it answers Some, each time in the state that its answers left,
-- where each is the world's and has the module.
abbrev pub MayAskNext : {F T : Type 0} → World → (F → Bor Map → ModuleId → Type 0) → (F → Bor Map → ModuleId → Option T → F → Type 0) → List (Map × ModuleId) → F → Type 0
MayAskNext w may step [] f = Unit {0}
MayAskNext {F} {T} w may step (x ∷ xs) f = (IsHandedOut w x → MayAskMap may f x) × ((g : F) → AsksMap step f x None g → MayAskNext w may step xs g)

-- The same from a map outwards: the first may be any map with any module, and the callback may rely on each after it
-- being the world's and having the module.
abbrev pub MayAskMaps : {F T : Type 0} → World → (F → Bor Map → ModuleId → Type 0) → (F → Bor Map → ModuleId → Option T → F → Type 0) → List (Map × ModuleId) → F → Type 0
MayAskMaps w may step [] f = Unit {0}
MayAskMaps {F} {T} w may step (x ∷ xs) f = MayAskMap may f x × ((g : F) → AsksMap step f x None g → MayAskNext w may step xs g)
