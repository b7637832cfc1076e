-- What is told of globs that lead nowhere.
use Rattle.std.specs.Prelude.{Bool, List, Option, None, true, false, not, if◌then◌else◌}
use Rattle.std.specs.Option.{option_map_or}
use Rattle.crate_tables.specs.declared.item_place.UsePlace.{UsePlace}
use Rattle.def_diagnostics.specs.UnresolvedImports.{told_of}
use Rattle.def_diagnostics.specs.declared.diagnostic.Diagnostic.{Diagnostic}
use Rattle.def_diagnostics.specs.declared.diagnostic.DiagnosticKind.TheVariants as kind
use Rattle.dm_base.specs.declared.item_ids.AdtId.TheVariants as adt
use Rattle.dm_base.specs.declared.item_ids.ModuleDefId.{ModuleDefId}
use Rattle.dm_base.specs.declared.item_ids.ModuleDefId.TheVariants as def
use Rattle.dm_base.specs.declared.per_ns.Namespace.TheVariants.{Types}
use Rattle.dm_imports.specs.declared.glob_import.GlobImport.{GlobImport}
use Rattle.dm_imports.specs.declared.meaning.Meaning.{Meaning}
use Rattle.dm_imports.specs.Asked.{meaning_in}
use Rattle.dm_imports.specs.Paths.{DefMaps}

-- a module or an enum: what a glob can be of
abbrev pub is_source : ModuleDefId → Bool
is_source (def.ModuleId m) = true
is_source (def.AdtId (adt.EnumId e)) = true
is_source _ = false

-- the path of a glob means neither, by the rules of imports
abbrev pub leads_nowhere : DefMaps → GlobImport → Bool
leads_nowhere d g = option_map_or (λ (x : Meaning). not (is_source x.def)) (meaning_in d g.into None g.path Types) true

-- it is told of where it is written, if its use is one of these
abbrev pub unresolved_glob : DefMaps → List UsePlace → GlobImport → Option Diagnostic
unresolved_glob d uses g = if leads_nowhere d g then told_of kind.UnresolvedImport uses g.import.use_ g.import.idx else None
