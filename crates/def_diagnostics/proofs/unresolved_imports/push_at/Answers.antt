use Rattle.std.proofs.Common.{◌≡◌, ◌∙◌, ◌++◌, [], Option, Some, ap, subst, sym}
use Rattle.std.proofs.lemmas.List.{append-nil}
use Rattle.std.proofs.lemmas.Option.{slice_get-get_or, slice_get_past}
use Rattle.std.specs.List.{cons_option}
use Rattle.std.specs.Option.{option_and_then}
use Rattle.std.specs.Prelude.{OnOk}
use Rattle.def_diagnostics.specs.UnresolvedImports.{told_of}
use Rattle.def_diagnostics.specs.declared.diagnostic.Diagnostic.{Diagnostic}
use Rattle.def_diagnostics.specs.declared.diagnostic.DiagnosticKind.TheVariants as kind
use Rattle.dm_imports.specs.declared.named_import.NamedImport.{NamedImport}
use Rattle.def_diagnostics.proofs.unresolved_imports.push_at.Goals as goal

pub returns-in-None : goal.returns-in-None
returns-in-None c =
    let had = c.args.found.now.items in
    sym (append-nil had)
    ∙ ap (λ (o : Option NamedImport). had ++ cons_option (option_and_then (λ (i : NamedImport). told_of kind.UnresolvedImport c.args.uses.now i.import.use_ i.import.idx) o) [])
    (sym (slice_get_past c.args.imports.now c.args.place c.in-None.ensures.lookup.3))

pub returns-in-Some : goal.returns-in-Some
returns-in-Some c =
    let had = c.args.found.now.items in
    subst (λ (o : Option NamedImport). OnOk c.push_told.result (c.push_told.new.found.items ≡ had ++ cons_option (option_and_then (λ (i : NamedImport). told_of kind.UnresolvedImport c.args.uses.now i.import.use_ i.import.idx) o) []))
    (sym (slice_get-get_or c.args.imports.now c.args.place c.in-Some.import.now c.in-Some.ensures.lookup.3.0 ∙ ap (λ (i : NamedImport). Some i) (sym c.in-Some.ensures.lookup.1)))
    (subst (λ (o : Option Diagnostic). OnOk c.push_told.result (c.push_told.new.found.items ≡ had ++ cons_option o [])) c.told_of-told.ensures c.push_told.ensures)
