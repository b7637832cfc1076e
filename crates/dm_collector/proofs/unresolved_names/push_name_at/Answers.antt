use Rattle.std.proofs.Common.{◌≡◌, ◌∙◌, ◌++◌, Option, Some, ap, subst, sym}
use Rattle.std.proofs.lemmas.List.{append-nil}
use Rattle.std.proofs.lemmas.Option.{slice_get-get_or, slice_get_past}
use Rattle.std.specs.Option.{option_map_or}
use Rattle.std.specs.Prelude.{OnOk, []}
use Rattle.dm_collector.specs.UnresolvedNames.{name_of}
use Rattle.dm_imports.specs.declared.named_import.NamedImport.{NamedImport}
use Rattle.dm_collector.proofs.unresolved_names.push_name_at.Goals as goal

pub returns-in-None : goal.returns-in-None
returns-in-None c =
    let had = c.args.names.now.items in
    sym (append-nil had)
    ∙ ap (λ (i : Option NamedImport). had ++ option_map_or name_of i []) (sym (slice_get_past c.args.imports.now c.args.place c.in-None.ensures.lookup.3))

pub returns-in-Some : goal.returns-in-Some
returns-in-Some c =
    let had = c.args.names.now.items in
    subst (λ (i : Option NamedImport). OnOk c.push_name.result (c.push_name.new.names.items ≡ had ++ option_map_or name_of i []))
    (sym (slice_get-get_or c.args.imports.now c.args.place c.in-Some.import.now c.in-Some.ensures.lookup.3.0 ∙ ap (λ (i : NamedImport). Some i) (sym c.in-Some.ensures.lookup.1))) c.push_name.ensures
