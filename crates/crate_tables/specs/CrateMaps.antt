-- The modules of a crate in a builder.
use Rattle.std.specs.Prelude.{Bool, false, List, [], ◌∷◌, Option, None, Some, drop, if◌then◌else◌}
use Rattle.std.specs.Option.{option_map_or}
use Rattle.crate_items.specs.DeclaredModules.{Module}
use Rattle.crate_tables.specs.CrateTables.{Table, left_out, no_table, with_id}
use Rattle.crate_tables.specs.NewModules.{CrateView, is_macro_root, new_module, origin_of}
use Rattle.crate_tables.specs.Numbers.{is_past}
use Rattle.crate_tables.specs.Visibilities.{id_at, visibility_of}
use Rattle.crate_tables.specs.declared.new_module.NewModule.{NewModule}
use Rattle.dm_base.specs.declared.visibility.Visibility.{Visibility}
use Rattle.dm_def_map.specs.declared.modules.module_origin.ModuleOrigin.{ModuleOrigin}
use Rattle.dm_base.specs.Names.{Name}
use Rattle.dm_base.specs.declared.ids.ModuleId.{ModuleId}
use Rattle.dm_base.specs.declared.edition.Edition.{Edition}
use Rattle.dm_maps.specs.Build.{next_module, with_module}
use Rattle.dm_maps.specs.Faults.{has_child}
use Rattle.dm_maps.specs.World.{World}

-- a builder, and what a crate has there so far
pub record Filled : Type 0 where
  pub world : World
  pub table : Table

-- a module is added below another, unless that has a child of its name; and its id then
abbrev pub child_world : World → ModuleId → Name → ModuleOrigin → Visibility → World
child_world w p n o v = if has_child w p n then w else with_module w p n o v

abbrev pub child_id : World → ModuleId → Name → Option ModuleId
child_id w p n = if has_child w p n then None else Some (next_module w)

-- with the module, seen by v, below the module p
abbrev pub with_child : Edition → Filled → NewModule → ModuleId → Visibility → Filled
with_child e s m p v = record {
  world = child_world s.world p m.name (origin_of e m) v;
  table = with_id s.table p m.name v (child_id s.world p m.name);
}

-- where the module was left out that it stands in, so is it
abbrev pub below : CrateView → Filled → NewModule → Option ModuleId → Filled
below v s m None = record s { table = left_out s.table }
below v s m (Some p) =
    with_child v.edition s m p (visibility_of (is_macro_root v m.parent) v.krate s.table.ids p m.written m.shown)

abbrev pub with_one : CrateView → Filled → Option NewModule → Filled
with_one v s None = record s { table = left_out s.table }
with_one v s (Some m) = below v s m (id_at s.table.ids m.parent)

-- Each module of a list that is no duplicate is added, in order, with its parent, name, origin and visibility.
abbrev pub with_modules : CrateView → Filled → List Module → Filled
with_modules v s [] = s
with_modules v s (m ∷ ms) = with_modules v (with_one v s (new_module v m)) ms

-- the table of a crate that has its root alone
abbrev pub root_alone : ModuleId → Table
root_alone root = record no_table { ids = Some root ∷ [] }

-- those of a crate, whose root is there
abbrev pub with_crate_modules : CrateView → World → ModuleId → Filled
with_crate_modules v w root =
    with_modules v (record { world = w; table = root_alone root }) (drop 1 v.list.modules)

-- the module to be added is declared by an item that has no number of 32 bits
abbrev pub is_far_new : Option NewModule → Bool
is_far_new m = option_map_or (λ (n : NewModule). is_past n.item) m false
