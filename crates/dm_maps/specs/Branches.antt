-- What is left of a tree while it is written.
use Rattle.std.specs.Prelude.{List, [], ◌∷◌, ◌++◌, All, IsSome, codes, string_bytes}
use Rattle.std.specs.Option.{option_map_or}
use Rattle.dm_base.specs.Names.{Name, find_name}
use Rattle.dm_scope.specs.Dumps.{Text}
use Rattle.dm_def_map.specs.Maps.{Map, Module, module_at}
use Rattle.dm_maps.specs.MapDumps.{path_and, of_children, tree}
use Rattle.dm_maps.specs.ScopeTables.{scope_tables}
use Rattle.dm_maps.specs.World.{World}
use Rattle.dm_maps.specs.declared.world.map_dump.Branch.{Branch}

-- the tree of a module's child of that name, and of all its children
abbrev pub child_text : World → Map → Text → Module → Name → Text
child_text w M path d n = option_map_or (λ c. codes "\n" ++ tree w M (path_and (scope_tables w) path n) c) (find_name n d.children) []

abbrev pub children_text : World → Map → Text → Module → Text
children_text w M path d = of_children (λ n c. codes "\n" ++ tree w M (path_and (scope_tables w) path n) c) d

-- the tree of a branch
abbrev pub branch_text : World → Map → Branch → Text
branch_text w M b = codes "\n" ++ tree w M (string_bytes b.path) b.child

-- the trees of branches, the last one first
abbrev pub left_text : World → Map → List Branch → Text
left_text w M [] = []
left_text w M (b ∷ bs) = left_text w M bs ++ branch_text w M b

-- branches of modules of the map
abbrev pub AllLie : Map → List Branch → Type 0
AllLie M bs = All (λ b. IsSome (module_at M.modules b.child)) bs
