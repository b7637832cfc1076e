use Rattle.std.proofs.Common.{Bor, List, subst, sym, true≢false}
use Rattle.std.specs.List.{Contains}
use Rattle.dm_base.specs.Names.{Name}
use Rattle.dm_scope.specs.Sorted.{seen}
use Rattle.dm_imports.specs.Grounding.{slots_of}
use Rattle.dm_imports.specs.Marking.{AreJudged}
use Rattle.dm_imports.specs.Tables.{of_tables}
use Rattle.dm_imports.proofs.ListLemmas.{seen-all}
use Rattle.dm_imports.proofs.rules.unsupported.mark_module.Goals as goal

pub returns-clause-judged : goal.returns-clause-judged
returns-clause-judged c = λ n has.
    let d = of_tables c.args.maps.now in
    let listed = c.requires.listing c.args.m c.names_in.ensures.fits n has in
    let there = subst (λ (l : List Name). Contains l n) (sym c.in_ok-names.ensures.names) listed in
    seen-all (AreJudged d (slots_of c.mark_names.new.found.unsupported) c.args.m) c.as_slice.result.now n c.in_ok-mark_names.ensures.judged
    (subst (λ (l : List (Bor Name)). Contains (seen l) n) (sym c.as_slice.ensures.value) there)

pub mark_names-requires-clause-bound : goal.mark_names-requires-clause-bound
mark_names-requires-clause-bound c = λ e. absurd (true≢false (sym e))
