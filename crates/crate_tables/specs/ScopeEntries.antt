-- What comes into the lists of a scope.
use Rattle.std.specs.Prelude.{◌++◌, [], ◌∷◌, Option, None, Some}
use Rattle.crate_tables.specs.declared.scope_entry.ScopeEntry.{ScopeEntry}
use Rattle.crate_tables.specs.declared.scope_entry.ScopeEntry.TheVariants as entry
use Rattle.dm_base.specs.declared.ids.ModuleId.{ModuleId}
use Rattle.dm_maps.specs.World.{World, scope_if_known, with_scope}
use Rattle.dm_scope.specs.Scope.{Scope}

-- it is the last in its list; an `impl` is listed with whether it is one of a trait
abbrev pub entered : Scope → ScopeEntry → Scope
entered s (entry.Declaration d) = record s { declarations = s.declarations ++ d ∷ [] }
entered s (entry.UnnamedConst k) = record s { unnamed_consts = s.unnamed_consts ++ k ∷ [] }
entered s (entry.ExternCrate k) = record s { extern_crate_decls = s.extern_crate_decls ++ k ∷ [] }
entered s (entry.Impl i of_trait) = record s { impls = s.impls ++ (i, of_trait) ∷ [] }
entered s (entry.ExternBlock b) = record s { extern_blocks = s.extern_blocks ++ b ∷ [] }

abbrev pub with_entry_in : World → ModuleId → ScopeEntry → Option Scope → World
with_entry_in w m e None = w
with_entry_in w m e (Some s) = with_scope w m (entered s e)

-- in the scope of a module
abbrev pub with_entry : World → ModuleId → ScopeEntry → World
with_entry w m e = with_entry_in w m e (scope_if_known w m)
