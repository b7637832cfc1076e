-- What declarations make the modules of a world bind.
use Rattle.std.specs.Prelude.{List, [], ◌∷◌, Option, None, Some, if◌then◌else◌}
use Rattle.std.specs.List.{filter_map}
use Rattle.crate_tables.specs.declared.declared_name.DeclaredName.{DeclaredName}
use Rattle.dm_base.specs.Tree.{same_module}
use Rattle.dm_base.specs.declared.per_ns.Item.{Item}
use Rattle.dm_base.specs.declared.per_ns.PerNs.{PerNs}
use Rattle.dm_base.specs.declared.imports.ImportOrExternCrate.{ImportOrExternCrate}
use Rattle.dm_base.specs.declared.imports.ImportOrExternCrate.TheVariants as wide
use Rattle.dm_base.specs.declared.item_ids.ModuleDefId.{ModuleDefId}
use Rattle.dm_base.specs.declared.ids.ModuleId.{ModuleId}
use Rattle.dm_scope.specs.Flags.{Globs}
use Rattle.dm_scope.specs.Push.{globs_after}
use Rattle.dm_scope.specs.Scope.{no_scope}
use Rattle.dm_scope.specs.Shows.{ScopePush, Shows, push_of}
use Rattle.dm_maps.specs.PushRes.{with_push}
use Rattle.dm_maps.specs.World.{World, scope_of}

-- an extern crate is declared by a push that has it as its import, anything else by a push without one
abbrev pub extern_crate_in : Option ImportOrExternCrate → Option ImportOrExternCrate
extern_crate_in None = None
extern_crate_in (Some (wide.ExternCrate k)) = Some (wide.ExternCrate k)
extern_crate_in (Some _) = None

abbrev pub extern_crate_by : Option (Item ModuleDefId ImportOrExternCrate) → Option ImportOrExternCrate
extern_crate_by None = None
extern_crate_by (Some i) = extern_crate_in i.import

abbrev pub extern_crate_of : PerNs → Option ImportOrExternCrate
extern_crate_of x = extern_crate_by x.types

abbrev pub declared_push : DeclaredName → ScopePush
declared_push d = push_of d.name d.items (extern_crate_of d.items)

-- a world and its glob table
pub record WithGlobs : Type 0 where
  pub world : World
  pub globs : Globs

-- with a name declared in its module, by its push
abbrev pub with_declared : WithGlobs → DeclaredName → WithGlobs
with_declared s d = record {
  world = with_push s.world s.globs d.home d.name d.items (extern_crate_of d.items);
  globs = globs_after (scope_of s.world d.home) s.globs d.home d.name d.items (extern_crate_of d.items);
}

-- Names, declared one after another; nothing else of the world changes.
abbrev pub with_all_declared : WithGlobs → List DeclaredName → WithGlobs
with_all_declared s [] = s
with_all_declared s (d ∷ ds) = with_all_declared (with_declared s d) ds

-- the push of a name, where its module is k
abbrev pub push_to : ModuleId → DeclaredName → Option ScopePush
push_to k d = if same_module d.home k then Some (declared_push d) else None

-- the pushes of some names that go to module k, in order
abbrev pub pushes_to : ModuleId → List DeclaredName → List ScopePush
pushes_to k ds = filter_map (push_to k) ds

-- each module shows what these names say that go to it
abbrev pub AreShown : World → Globs → List DeclaredName → Type 0
AreShown w g ds = (m : ModuleId) → Shows (scope_of w m) g m (pushes_to m ds)

-- no module binds anything yet: each shows what a fresh scope does
abbrev pub BindNothing : World → Type 0
BindNothing w = (g : Globs) (m : ModuleId) → Shows no_scope g m [] → Shows (scope_of w m) g m []
