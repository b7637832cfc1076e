use Rattle.std.proofs.Common.{◌∙◌, ◌+◌, ◌++◌, [], ◌∷◌, ap, drop, map, sym, List, Option, subst}
use Rattle.std.proofs.lemmas.List.{append-nil, append_assoc, drop_all}
use Rattle.std.proofs.lemmas.List.Elements.{All-get_or}
use Rattle.std.specs.Option.{option_or}
use Rattle.std.specs.Prelude.{fold}
use Rattle.dm_imports.specs.declared.meaning.Meaning.{Meaning}
use Rattle.dm_imports.specs.declared.named_import.NamedImport.{NamedImport}
use Rattle.dm_imports.specs.declared.rules.meanings.ImportMeanings.{ImportMeanings}
use Rattle.dm_imports.specs.Asked.{meanings_of}
use Rattle.dm_imports.specs.Rules.{IsImportKnown, import_to}
use Rattle.dm_imports.specs.Slots.{slot_at}
use Rattle.dm_imports.specs.Tables.{of_tables}
use Rattle.dm_imports.proofs.AskLemmas.{module-known}
use Rattle.dm_imports.proofs.ListLemmas.{next-of}
use Rattle.dm_imports.proofs.rules.all_imports.add_imports.Goals as goal

pub add_import-requires-clause-home : goal.add_import-requires-clause-home
add_import-requires-clause-home c =
    let d = of_tables c.args.maps.now in
    let known = subst (IsImportKnown d) (sym c.import-item.is) (All-get_or (IsImportKnown d) c.args.imports.now c.loop-import.import-index c.import-item.result c.loop-import-test.true c.requires.imports) in
    module-known d.world c.import-item.result.home known.0.0

pub add_import-requires-clause-vis : goal.add_import-requires-clause-vis
add_import-requires-clause-vis c =
    let d = of_tables c.args.maps.now in
    (subst (IsImportKnown d) (sym c.import-item.is) (All-get_or (IsImportKnown d) c.args.imports.now c.loop-import.import-index c.import-item.result c.loop-import-test.true c.requires.imports)).1

pub loop-import-preserved : goal.loop-import-preserved
loop-import-preserved c =
    let d = of_tables c.args.maps.now in
    let i = c.loop-import.import-index in
    let is = c.args.imports.now in
    let item = c.import-item.result in
    let next = next-of is i item c.loop-import-test.true c.import-item.is in
    record {
      slots = λ k x t.
          let f : Option Meaning → NamedImport → Option Meaning = λ y i. option_or y (import_to d k x t i) in
          ap (λ y. fold f y (drop (i + 1) is)) (c.in_ok-add_import.ensures.slots k x t)
          ∙ ap (fold f (slot_at c.loop-import.all.slots k x t)) (sym next)
          ∙ c.loop-import.invariant.slots k x t;
      each =
          let old = c.loop-import.all.each.items in
          let rest = map (meanings_of d) (drop (i + 1) is) in
          ap (λ (xs : List ImportMeanings). xs ++ rest) c.in_ok-add_import.ensures.each ∙ append_assoc old (meanings_of d item ∷ []) rest
          ∙ ap (λ (xs : List NamedImport). old ++ map (meanings_of d) xs) (sym next) ∙ c.loop-import.invariant.each;
    }

pub returns-clause-slots : goal.returns-clause-slots
returns-clause-slots c k x t =
    let d = of_tables c.args.maps.now in
    let f : Option Meaning → NamedImport → Option Meaning = λ y i. option_or y (import_to d k x t i) in
    ap (fold f (slot_at c.loop-import.all.slots k x t)) (sym (drop_all c.loop-import.import-index c.args.imports.now c.loop-import-test.false))
    ∙ c.loop-import.invariant.slots k x t

pub returns-clause-each : goal.returns-clause-each
returns-clause-each c =
    let d = of_tables c.args.maps.now in
    let old = c.loop-import.all.each.items in
    sym (append-nil old)
    ∙ ap (λ (xs : List NamedImport). old ++ map (meanings_of d) xs) (sym (drop_all c.loop-import.import-index c.args.imports.now c.loop-import-test.false))
    ∙ c.loop-import.invariant.each
