use Rattle.std.proofs.Common.{◌∙◌, ap, Option, None}
use Rattle.std.specs.Option.{option_or}
use Rattle.std.specs.Prelude.{fold}
use Rattle.dm_imports.specs.declared.meaning.Meaning.{Meaning}
use Rattle.dm_imports.specs.declared.named_import.NamedImport.{NamedImport}
use Rattle.dm_imports.specs.Rules.{import_to}
use Rattle.dm_imports.specs.Slots.{Slots, slot_at}
use Rattle.dm_imports.specs.Tables.{MapTables, of_tables}
use Rattle.dm_imports.proofs.SlotLemmas.{nothing-at}
use Rattle.dm_imports.proofs.rules.all_imports.all_imports.Goals as goal

pub returns-clause-slots : goal.returns-clause-slots
returns-clause-slots c k x t =
    let d = of_tables c.args.maps.now in
    let f : Option Meaning → NamedImport → Option Meaning = λ y i. option_or y (import_to d k x t i) in
    c.in_ok-add_imports.ensures.slots k x t
    ∙ ap (λ y. fold f y c.maps.inside.imports.now) (ap (λ (s : Slots Meaning). slot_at s k x t) c.new.ensures ∙ nothing-at k x t)
    ∙ ap (λ (m : MapTables). fold f None m.imports) c.maps.view_is
