use Rattle.std.proofs.Common.{Bor, subst, take}
use Rattle.std.proofs.lemmas.List.{take_all}
use Rattle.std.proofs.lemmas.List.Elements.{All-more, All-weaker}
use Rattle.std.specs.List.{All}
use Rattle.dm_base.specs.Names.{Name}
use Rattle.dm_imports.specs.Grounding.{slots_of}
use Rattle.dm_imports.specs.Marking.{AreJudged}
use Rattle.dm_imports.specs.Tables.{of_tables}
use Rattle.dm_imports.proofs.MarkLemmas.{all-judged-more, judged-more, marks-then}
use Rattle.dm_imports.proofs.rules.unsupported.mark_names.Goals as goal

pub loop-name-preserved : goal.loop-name-preserved
loop-name-preserved c =
    let d = of_tables c.args.maps.now in
    let ns = c.args.names.now in
    let m = c.args.m in
    let k = c.loop-name.found in
    let l = c.mark_name.new.found in
    let marks = c.in_ok-mark_name.ensures.marks in
    let P : Bor Name → Type 0 = λ n. AreJudged d (slots_of l.unsupported) m n.now in
    let before = All-weaker (λ (n : Bor Name). AreJudged d (slots_of k.unsupported) m n.now) P (λ n. judged-more d (slots_of k.unsupported) (slots_of l.unsupported) marks.more m n.now) (take c.loop-name.name-index ns) c.loop-name.invariant.judged in
    record {
      marks = marks-then d c.args.found.now k l c.loop-name.invariant.marks marks;
      judged = All-more P ns c.loop-name.name-index c.name-item.result c.loop-name-test.true before (subst P c.name-item.is c.in_ok-mark_name.ensures.judged);
    }

pub returns-clause-judged : goal.returns-clause-judged
returns-clause-judged c =
    let d = of_tables c.args.maps.now in
    subst (All (λ (n : Bor Name). AreJudged d (slots_of c.loop-name.found.unsupported) c.args.m n.now)) (take_all c.loop-name.name-index c.args.names.now c.loop-name-test.false) c.loop-name.invariant.judged

pub mark_name-requires-clause-bound : goal.mark_name-requires-clause-bound
mark_name-requires-clause-bound c = λ yes.
    all-judged-more (of_tables c.args.maps.now) (slots_of c.args.found.now.unsupported) (slots_of c.loop-name.found.unsupported) c.loop-name.invariant.marks.more (c.requires.bound yes)
