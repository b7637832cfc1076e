-- The dump of a map: the trees of its modules, each with what its scope binds.
use Rattle.std.specs.Prelude.{ℕ, zero, suc, List, [], ◌∷◌, ◌++◌, Some, None, map, codes, length}
use Rattle.std.specs.Cmp.Lexicographic.{slice_cmp}
use Rattle.std.specs.List.{flat_map}
use Rattle.std.specs.Option.{option_map_or}
use Rattle.std.specs.Ordering.{nat_cmp}
use Rattle.std.specs.declared.cmp.Ordering.TheVariants.{Less, Equal, Greater}
use Rattle.dm_base.specs.declared.ids.ModuleId.{ModuleId}
use Rattle.dm_base.specs.Names.{Name, find_name}
use Rattle.dm_scope.specs.Dumps.{Text, name_text, lines}
use Rattle.dm_scope.specs.Scope.{Scope}
use Rattle.dm_scope.specs.Sorted.{names_of}
use Rattle.dm_scope.specs.Tables.{Tables}
use Rattle.dm_def_map.specs.Maps.{Map, Module, Modules, module_at}
use Rattle.dm_maps.specs.Outwards.{maps_outwards}
use Rattle.dm_maps.specs.ScopeTables.{scope_tables}
use Rattle.dm_maps.specs.World.{World}

-- a name at its place among names in order, where it is not there yet
abbrev pub placed : Name → List Name → List Name
placed n [] = n ∷ []
placed n (m ∷ ms) = elim (slice_cmp nat_cmp n m) [ Less ↦ n ∷ m ∷ ms | Equal ↦ m ∷ ms | Greater ↦ m ∷ placed n ms ]

-- names in order of their bytes, each once
abbrev pub in_order : List Name → List Name
in_order [] = []
in_order (n ∷ ns) = placed n (in_order ns)

-- the dump of a scope
abbrev pub scope_text : Tables → Scope → Text
scope_text t s = lines t s (in_order (names_of s)) (in_order (map (λ e. e.0) s.legacy_macros))

-- a path with a name behind it
abbrev pub path_and : Tables → Text → Name → Text
path_and t path n = path ++ codes "::" ++ name_text t n

-- a module: a line with its path, and the dump of its scope
abbrev pub module_text : Tables → Text → Module → Text
module_text t path d = path ++ codes "\n" ++ scope_text t d.scope

-- what f writes of each child of a module, in order of names
abbrev pub of_children : (Name → ModuleId → Text) → Module → Text
of_children f d = flat_map (λ n. option_map_or (f n) (find_name n d.children) []) (in_order (map (λ e. e.0) d.children))

-- The tree of a module under a path, as far as n levels of modules: the module, and then for each child, in order of
-- names, an empty line and the child's tree under its own path.
abbrev pub tree_within : ℕ → Tables → Modules → Text → ModuleId → Text
tree_within zero t ms path m = []
tree_within (suc n) t ms path m =
    option_map_or (λ d. module_text t path d ++ of_children (λ name c. codes "\n" ++ tree_within n t ms (path_and t path name) c) d) (module_at ms m) []

-- The tree of a module of a map. A child has a greater number than its parent, so there are no more levels than
-- modules.
abbrev pub tree : World → Map → Text → ModuleId → Text
tree w M path m = tree_within (length w.places) (scope_tables w) M.modules path m

-- what a dump has of one map: its root's tree, and for a block's map an empty line behind it
abbrev pub map_text : World → Map → Text
map_text w M = elim M.id.block [ None ↦ tree w M (codes "crate") M.root | Some b ↦ tree w M (codes "(block scope)") M.root ++ codes "\n" ]

-- The dump of a map: of the map itself, and then of each next one outwards.
abbrev pub map_dump : World → Map → Text
map_dump w M = flat_map (λ x. map_text w x.0) (maps_outwards w M M.root)
