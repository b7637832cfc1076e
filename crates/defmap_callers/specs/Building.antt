-- What declarations make the modules of a world bind.
use Rattle.std.specs.Prelude.{◌≡◌, IsTrue, List, Option, None, Some, if◌then◌else◌}
use Rattle.std.specs.List.{filter_map}
use Rattle.dm_base.specs.Names.{Name}
use Rattle.dm_base.specs.declared.ids.ModuleId.{ModuleId}
use Rattle.dm_base.specs.declared.item_ids.ModuleDefId.{ModuleDefId}
use Rattle.dm_base.specs.PerNs.{type_alone}
use Rattle.dm_base.specs.Tree.{same_module}
use Rattle.dm_base.specs.declared.visibility.Visibility.TheVariants.{Public}
use Rattle.dm_scope.specs.Shows.{ScopePush, push_of}
use Rattle.dm_maps.specs.declared.check.held.HeldId.TheVariants as held
use Rattle.dm_maps.specs.Known.{knows}
use Rattle.dm_maps.specs.World.{World}
use Rattle.dm_maps.specs.Trees.{parent_in}

-- m is one of the modules of w, below the module q
pub record IsBelow (w : World) (q m : ModuleId) : Type 0 where
  pub known : IsTrue (knows w (held.Module m))
  pub parent : parent_in w.places m ≡ Some q

-- in a module, under a name, a public type
abbrev pub Declaration : Type 0
Declaration = ModuleId × Name × ModuleDefId

-- the push that it is, where it goes to module k
abbrev pub push_to : ModuleId → Declaration → Option ScopePush
push_to k d = if same_module d.0 k then Some (push_of d.1 (type_alone d.2 Public None) None) else None

-- the pushes of a list of them that go to module k
abbrev pub pushes_to : ModuleId → List Declaration → List ScopePush
pushes_to k ds = filter_map (push_to k) ds
