-- What one push does to a scope and to the glob table.
use Rattle.std.specs.Prelude.{◌&&◌, ◌||◌, Bool, not, List, Option, Some, if◌then◌else◌}
use Rattle.std.specs.List.{list_any}
use Rattle.indexmap.specs.IndexSet.{insert_key}
use Rattle.dm_base.specs.Names.{Name, same_name}
use Rattle.dm_base.specs.PerNs.{is_empty}
use Rattle.dm_base.specs.Imports.{is_glob, is_glob_or_import, narrowed, widened}
use Rattle.dm_base.specs.Definitions.{widened_macro}
use Rattle.dm_base.specs.declared.ids.ModuleId.{ModuleId}
use Rattle.dm_base.specs.declared.per_ns.PerNs.{PerNs}
use Rattle.dm_base.specs.declared.imports.ImportOrExternCrate.{ImportOrExternCrate}
use Rattle.dm_base.specs.declared.imports.ImportOrGlob.{ImportOrGlob}
use Rattle.dm_base.specs.declared.item_ids.ModuleDefId.{ModuleDefId}
use Rattle.dm_base.specs.declared.item_ids.MacroId.{MacroId}
use Rattle.dm_scope.specs.Shadowing.{Reading, reading}
use Rattle.dm_scope.specs.Bindings.{is_effective_at, bound_after, flags_after}
use Rattle.dm_scope.specs.Flags.{Globs}
use Rattle.dm_base.specs.Sameness.{same_import, same_value_import, same_def, same_macro}
use Rattle.dm_scope.specs.Scope.{Scope}

-- types: any import brings one
abbrev pub types_reading : Reading ModuleDefId ImportOrExternCrate
types_reading = reading same_import same_def is_glob (λ i. Some i) (λ i. i) (λ d. d)

-- values: an extern crate brings none, so it is neither stored nor recorded
abbrev pub values_reading : Reading ModuleDefId ImportOrGlob
values_reading = reading same_value_import same_def is_glob_or_import narrowed widened (λ d. d)

-- macros: any import brings one
abbrev pub macros_reading : Reading MacroId ImportOrExternCrate
macros_reading = reading same_import same_macro is_glob (λ i. Some i) (λ i. i) widened_macro

-- an empty push puts its name among the unresolved ones, which keep their order
abbrev pub unresolved_after : List Name → Name → PerNs → List Name
unresolved_after ns n x = if is_empty x then insert_key same_name ns n else ns

-- whether it is new there
abbrev pub is_new_unresolved : List Name → Name → PerNs → Bool
is_new_unresolved ns n x = is_empty x && not (list_any (same_name n) ns)

-- The scope after a push of a name: each namespace in which the push has an item after a push into it, and the
-- unresolved names. Everything else stays.
abbrev pub scope_after : Scope → Globs → ModuleId → Name → PerNs → Option ImportOrExternCrate → Scope
scope_after s g m n x by = record s {
  types = bound_after types_reading s.types g.types m n x.types by;
  values = bound_after values_reading s.values g.values m n x.values by;
  macros = bound_after macros_reading s.macros g.macros m n x.macros by;
  unresolved = unresolved_after s.unresolved n x;
}

-- the glob table after it
abbrev pub globs_after : Scope → Globs → ModuleId → Name → PerNs → Option ImportOrExternCrate → Globs
globs_after s g m n x by = record {
  types = flags_after types_reading s.types g.types m n x.types by;
  values = flags_after values_reading s.values g.values m n x.values by;
  macros = flags_after macros_reading s.macros g.macros m n x.macros by;
}

-- its answer: whether a namespace was written, or the unresolved names grew
abbrev pub push_answer : Scope → Globs → ModuleId → Name → PerNs → Option ImportOrExternCrate → Bool
push_answer s g m n x by =
    is_effective_at types_reading s.types g.types m n x.types by
    || (is_effective_at values_reading s.values g.values m n x.values by
    || (is_effective_at macros_reading s.macros g.macros m n x.macros by
    || is_new_unresolved s.unresolved n x))
