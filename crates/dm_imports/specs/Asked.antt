-- What is asked of def maps: what each import means, and what a path means for a module.
use Rattle.std.specs.Prelude.{Option, None, if◌then◌else◌}
use Rattle.dm_base.specs.declared.ids.ModuleId.{ModuleId}
use Rattle.dm_base.specs.declared.item_ids.MacroId.{MacroId}
use Rattle.dm_base.specs.declared.per_ns.Namespace.{Namespace}
use Rattle.dm_base.specs.declared.per_ns.Namespace.TheVariants.{Types, Values, Macros}
use Rattle.dm_base.specs.Path.{Path}
use Rattle.dm_maps.specs.Trees.{tree_of}
use Rattle.dm_imports.specs.declared.container.Container.{Container}
use Rattle.dm_imports.specs.declared.glob_import.GlobImport.{GlobImport}
use Rattle.dm_imports.specs.declared.meaning.Meaning.{Meaning}
use Rattle.dm_imports.specs.declared.named_import.NamedImport.{NamedImport}
use Rattle.dm_imports.specs.declared.rules.meanings.ImportMeanings.{ImportMeanings}
use Rattle.dm_imports.specs.Paths.{Asking, DefMaps, path_meaning}
use Rattle.dm_imports.specs.Rules.{import_brings, source_of}

-- what an import brings in each namespace
abbrev pub meanings_of : DefMaps → NamedImport → ImportMeanings
meanings_of d i = record { types = import_brings d i Types; values = import_brings d i Values; macros = import_brings d i Macros }

-- a module that asks, and no import: no binding is its own
abbrev pub module_asks : ModuleId → Asking
module_asks m = record { home = m; import = None; below = λ k n s. None }

-- what a path means for a module of the world's
abbrev pub meaning_in : DefMaps → ModuleId → Option MacroId → Path → Namespace → Option Meaning
meaning_in d m t p s = if (tree_of d.world).has m then path_meaning d (module_asks m) t p s else None

-- the source of a glob in a module of the world's
abbrev pub source_in : DefMaps → GlobImport → Option Container
source_in d g = if (tree_of d.world).has g.into then source_of d g else None
