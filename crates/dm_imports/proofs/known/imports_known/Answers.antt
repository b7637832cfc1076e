use Rattle.std.proofs.Common.{◌∙◌, refl, subst, sym, true≢false}
use Rattle.std.proofs.lemmas.List.{take_all}
use Rattle.std.proofs.lemmas.List.Elements.{All-get_or, All-more}
use Rattle.std.specs.List.{All}
use Rattle.dm_imports.specs.declared.named_import.NamedImport.{NamedImport}
use Rattle.dm_imports.specs.Rules.{IsImportKnown}
use Rattle.dm_imports.specs.Tables.{of_tables}
use Rattle.dm_imports.proofs.known.imports_known.Goals as goal

pub returns-then-not-is_import_known : goal.returns-then-not-is_import_known
returns-then-not-is_import_known c =
    let P : NamedImport → Type 0 = IsImportKnown (of_tables c.args.maps.now) in (
      λ yes. absurd (true≢false (sym yes)),
      λ all. sym (c.if-not-is_import_known.true) ∙ c.is_import_known.ensures.1 (subst P (sym c.import-item.is) (All-get_or P c.args.imports.now c.loop-import.import-index c.import-item.result c.loop-import-test.true all)),
    )

pub loop-import-preserved : goal.loop-import-preserved
loop-import-preserved c =
    let P : NamedImport → Type 0 = IsImportKnown (of_tables c.args.maps.now) in
    All-more P c.args.imports.now c.loop-import.import-index c.import-item.result c.loop-import-test.true c.loop-import.invariant (subst P c.import-item.is (c.is_import_known.ensures.0 c.if-not-is_import_known.false))

pub returns : goal.returns
returns c =
    let P : NamedImport → Type 0 = IsImportKnown (of_tables c.args.maps.now) in (
      λ yes. subst (All P) (take_all c.loop-import.import-index c.args.imports.now c.loop-import-test.false) c.loop-import.invariant,
      λ all. refl,
    )
