use Rattle.std.proofs.Common.{Some, subst, sym, take}
use Rattle.std.proofs.lemmas.List.{take_all}
use Rattle.std.proofs.lemmas.List.Elements.{All-get_or, All-more, All-weaker}
use Rattle.std.specs.List.{All, Contains}
use Rattle.dm_imports.specs.declared.named_import.NamedImport.{NamedImport}
use Rattle.dm_imports.specs.Grounding.{IsImportSettled, slots_of}
use Rattle.dm_imports.specs.Rules.{IsImportKnown}
use Rattle.dm_imports.specs.Tables.{of_tables}
use Rattle.dm_imports.proofs.ListedLemmas.{all-settled-more, import-ways, more-then}
use Rattle.dm_imports.proofs.rules.grounded.ways.add_imports.Goals as goal

pub add_name-requires : goal.add_name-requires
add_name-requires c =
    let d = of_tables c.args.maps.now in
    let i = c.import-item.result in
    let is = c.args.imports.now in
    let has = subst (Contains d.imports) (sym c.import-item.is) (All-get_or (Contains d.imports) is c.loop-import.import-index i c.loop-import-test.true c.requires.listed) in
    let known = subst (IsImportKnown d) (sym c.import-item.is) (All-get_or (IsImportKnown d) is c.loop-import.import-index i c.loop-import-test.true c.requires.known) in
    import-ways d i has known

pub loop-import-preserved : goal.loop-import-preserved
loop-import-preserved c =
    let d = of_tables c.args.maps.now in
    let i = c.import-item.result in
    let is = c.args.imports.now in
    let k = c.loop-import.known in
    let l = c.add_name.new.known in
    let vs = c.loop-import.ways.items in
    let ws = c.add_name.new.ways.items in
    let more = c.in_ok-add_name.ensures.more in
    let P : NamedImport → Type 0 = IsImportSettled d (slots_of l) ws in
    let before = All-weaker (IsImportSettled d (slots_of k) vs) P (λ j. all-settled-more d k l vs ws more j.home j.name (Some j)) (take c.loop-import.import-index is) c.loop-import.invariant.settled in
    record {
      more = more-then d c.args.known.now k l c.args.ways.now.items vs ws c.loop-import.invariant.more more;
      settled = All-more P is c.loop-import.import-index i c.loop-import-test.true before (subst P c.import-item.is c.in_ok-add_name.ensures.settled);
    }

pub returns-clause-settled : goal.returns-clause-settled
returns-clause-settled c =
    let d = of_tables c.args.maps.now in
    subst (All (IsImportSettled d (slots_of c.loop-import.known) c.loop-import.ways.items)) (take_all c.loop-import.import-index c.args.imports.now c.loop-import-test.false) c.loop-import.invariant.settled
