-- What names that are declared mean in the end.
use Rattle.std.specs.Prelude.{◌≡◌, Bool, true, false, List, Option, Some, None}
use Rattle.std.specs.List.{AllByRecursion}
use Rattle.std.specs.Option.{ForSome}
use Rattle.crate_tables.specs.DeclaredWorlds.{pushes_to}
use Rattle.crate_tables.specs.declared.declared_name.DeclaredName.{DeclaredName}
use Rattle.dm_base.specs.declared.ids.ModuleId.{ModuleId}
use Rattle.dm_base.specs.declared.imports.ImportOrExternCrate.{ImportOrExternCrate}
use Rattle.dm_base.specs.declared.imports.ImportOrExternCrate.TheVariants as wide
use Rattle.dm_base.specs.Names.{Name, find_name}
use Rattle.dm_maps.specs.World.{World, scope_of}
use Rattle.dm_scope.specs.Push.{macros_reading, types_reading, values_reading}
use Rattle.dm_scope.specs.Pushes.{binding}
use Rattle.dm_scope.specs.Scope.{Scope}
use Rattle.dm_scope.specs.Shows.{ScopePush, pushes_in}

-- a declaration comes by no import, or by the extern crate that it is
abbrev pub is_declaring : Option ImportOrExternCrate → Bool
is_declaring None = true
is_declaring (Some (wide.ExternCrate k)) = true
is_declaring (Some _) = false

abbrev pub is_importing : Option ImportOrExternCrate → Bool
is_importing None = true
is_importing (Some (wide.ExternCrate k)) = false
is_importing (Some _) = true

abbrev pub AreDeclaring : List ScopePush → Type 0
AreDeclaring ps = AllByRecursion (λ p. is_declaring p.by ≡ true) ps

abbrev pub AreImporting : List ScopePush → Type 0
AreImporting ps = AllByRecursion (λ p. is_importing p.by ≡ true) ps

-- what a list of pushes binds to a name in a namespace, a scope binds
pub record KeepsIn (s : Scope) (ps : List ScopePush) (n : Name) : Type 0 where
  pub types : ForSome (binding types_reading (pushes_in types_reading (λ x. x.types) ps) n) (λ x. find_name n s.types.items ≡ Some x)
  pub values : ForSome (binding values_reading (pushes_in values_reading (λ x. x.values) ps) n) (λ x. find_name n s.values.items ≡ Some x)
  pub macros : ForSome (binding macros_reading (pushes_in macros_reading (λ x. x.macros) ps) n) (λ x. find_name n s.macros.items ≡ Some x)

-- what declarations bind to a name of a module, the module binds: no import and no glob takes its place
abbrev pub KeepDeclared : World → List DeclaredName → Type 0
KeepDeclared w ds = (m : ModuleId) (n : Name) → KeepsIn (scope_of w m) (pushes_to m ds) n
