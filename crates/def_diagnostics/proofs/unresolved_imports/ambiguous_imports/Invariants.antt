use Rattle.std.proofs.Common.{◌≡◌, ◌++◌}
use Rattle.def_diagnostics.specs.UnresolvedImports.{ambiguous_imports}
use Rattle.def_diagnostics.proofs.unresolved_imports.ambiguous_imports.Given as goal

-- what is told yet, with what is left to tell, is all
abbrev pub invariant-loop-meant : goal.invariant-loop-meant
invariant-loop-meant l =
    l.found.items ++ ambiguous_imports l.fn.uses l.meant-iterator.a.rest.now l.meant-iterator.b.rest.now
    ≡ ambiguous_imports l.fn.uses l.fn.meanings l.fn.imports
