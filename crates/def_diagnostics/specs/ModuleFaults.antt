-- Modules that are declared and not there.
use Rattle.std.specs.Prelude.{List, Option, None, Some}
use Rattle.def_diagnostics.specs.CandidatePaths.{paths_of}
use Rattle.def_diagnostics.specs.Diagnostics.{at_item}
use Rattle.def_diagnostics.specs.declared.diagnostic.Diagnostic.{Diagnostic}
use Rattle.def_diagnostics.specs.declared.diagnostic.DiagnosticKind.{DiagnosticKind}
use Rattle.def_diagnostics.specs.declared.diagnostic.DiagnosticKind.TheVariants as kind
use Rattle.crate_items.specs.DeclaredModules.{Fault}
use Rattle.crate_items.specs.ModDirs.{File}
use Rattle.dm_base.specs.declared.ids.FileId.{FileId}

-- a module has no file among the candidates, or one that its declaration stands in
abbrev pub kind_of : List File → Option FileId → DiagnosticKind
kind_of cs None = kind.UnresolvedModule (paths_of cs)
kind_of cs (Some f) = kind.ModuleInItself

-- it is told of at its declaration
abbrev pub unresolved_module : Fault → Diagnostic
unresolved_module f = at_item f.declaration.file f.declaration.item (kind_of f.candidates f.within)
