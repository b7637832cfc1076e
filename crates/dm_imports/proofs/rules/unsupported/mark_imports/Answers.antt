use Rattle.std.proofs.Common.{subst, take}
use Rattle.std.proofs.lemmas.List.{take_all}
use Rattle.std.proofs.lemmas.List.Elements.{All-more, All-weaker}
use Rattle.std.specs.List.{All}
use Rattle.dm_imports.specs.declared.named_import.NamedImport.{NamedImport}
use Rattle.dm_imports.specs.Grounding.{slots_of}
use Rattle.dm_imports.specs.Marking.{AreJudged}
use Rattle.dm_imports.specs.Tables.{of_tables}
use Rattle.dm_imports.proofs.MarkLemmas.{all-judged-more, judged-more, marks-then}
use Rattle.dm_imports.proofs.rules.unsupported.mark_imports.Goals as goal

pub loop-import-preserved : goal.loop-import-preserved
loop-import-preserved c =
    let d = of_tables c.args.maps.now in
    let is = c.args.imports.now in
    let k = c.loop-import.found in
    let l = c.mark_name.new.found in
    let marks = c.in_ok-mark_name.ensures.marks in
    let P : NamedImport → Type 0 = λ i. AreJudged d (slots_of l.unsupported) i.home i.name in
    let before = All-weaker (λ (i : NamedImport). AreJudged d (slots_of k.unsupported) i.home i.name) P (λ i. judged-more d (slots_of k.unsupported) (slots_of l.unsupported) marks.more i.home i.name) (take c.loop-import.import-index is) c.loop-import.invariant.judged in
    record {
      marks = marks-then d c.args.found.now k l c.loop-import.invariant.marks marks;
      judged = All-more P is c.loop-import.import-index c.import-item.result c.loop-import-test.true before (subst P c.import-item.is c.in_ok-mark_name.ensures.judged);
    }

pub returns-clause-judged : goal.returns-clause-judged
returns-clause-judged c =
    let d = of_tables c.args.maps.now in
    subst (All (λ (i : NamedImport). AreJudged d (slots_of c.loop-import.found.unsupported) i.home i.name)) (take_all c.loop-import.import-index c.args.imports.now c.loop-import-test.false) c.loop-import.invariant.judged

pub mark_name-requires-clause-bound : goal.mark_name-requires-clause-bound
mark_name-requires-clause-bound c = λ yes.
    all-judged-more (of_tables c.args.maps.now) (slots_of c.args.found.now.unsupported) (slots_of c.loop-import.found.unsupported) c.loop-import.invariant.marks.more c.requires.bound
