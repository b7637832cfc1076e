use Rattle.std.proofs.Common.{subst, take}
use Rattle.std.proofs.lemmas.List.{take_all}
use Rattle.std.proofs.lemmas.List.Elements.{All-more, All-weaker}
use Rattle.std.specs.List.{All}
use Rattle.dm_imports.specs.declared.glob_import.GlobImport.{GlobImport}
use Rattle.dm_imports.specs.Grounding.{slots_of}
use Rattle.dm_imports.specs.Marking.{IsGlobJudged}
use Rattle.dm_imports.specs.Tables.{of_tables}
use Rattle.dm_imports.proofs.MarkLemmas.{all-judged-more, judged-more, marks-then}
use Rattle.dm_imports.proofs.rules.unsupported.mark_globs.Goals as goal

pub loop-glob-preserved : goal.loop-glob-preserved
loop-glob-preserved c =
    let d = of_tables c.args.maps.now in
    let gs = c.args.globs.now in
    let k = c.loop-glob.found in
    let l = c.mark_glob.new.found in
    let marks = c.in_ok-mark_glob.ensures.marks in
    let P : GlobImport → Type 0 = IsGlobJudged d (slots_of l.unsupported) in
    let before = All-weaker (IsGlobJudged d (slots_of k.unsupported)) P (λ g all n has. judged-more d (slots_of k.unsupported) (slots_of l.unsupported) marks.more g.into n (all n has)) (take c.loop-glob.glob-index gs) c.loop-glob.invariant.judged in
    record {
      marks = marks-then d c.args.found.now k l c.loop-glob.invariant.marks marks;
      judged = All-more P gs c.loop-glob.glob-index c.glob-item.result c.loop-glob-test.true before (subst P c.glob-item.is c.in_ok-mark_glob.ensures.judged);
    }

pub returns-clause-judged : goal.returns-clause-judged
returns-clause-judged c =
    let d = of_tables c.args.maps.now in
    subst (All (IsGlobJudged d (slots_of c.loop-glob.found.unsupported))) (take_all c.loop-glob.glob-index c.args.globs.now c.loop-glob-test.false) c.loop-glob.invariant.judged

pub mark_glob-requires-clause-bound : goal.mark_glob-requires-clause-bound
mark_glob-requires-clause-bound c =
    all-judged-more (of_tables c.args.maps.now) (slots_of c.args.found.now.unsupported) (slots_of c.loop-glob.found.unsupported) c.loop-glob.invariant.marks.more c.requires.bound
