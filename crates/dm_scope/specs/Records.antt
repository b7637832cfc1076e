-- Import records of a scope: what each import that brought a binding resolved to.
use Rattle.std.specs.Prelude.{List, map}
use Rattle.dm_base.specs.declared.imports.ImportOrDef.{ImportOrDef}
use Rattle.dm_base.specs.declared.imports.ImportOrExternCrate.{ImportOrExternCrate}
use Rattle.dm_base.specs.declared.per_ns.Namespace.{Namespace}
use Rattle.dm_base.specs.declared.per_ns.Namespace.TheVariants.{Types, Values, Macros}
use Rattle.dm_base.specs.Imports.{widened}
use Rattle.dm_scope.specs.Scope.{Scope}

-- the records of a namespace, an import of values seen as any import
abbrev pub records_in : Namespace → Scope → List (ImportOrExternCrate × ImportOrDef)
records_in Types s = s.types.records
records_in Values s = map (λ e. (widened e.0, e.1)) s.values.records
records_in Macros s = s.macros.records
