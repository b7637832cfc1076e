use Rattle.std.proofs.Common.{ap, refl, subst, true}
use Rattle.std.specs.List.{All}
use Rattle.dm_imports.specs.declared.named_import.NamedImport.{NamedImport}
use Rattle.dm_imports.specs.Grounding.{slots_of}
use Rattle.dm_imports.specs.Marking.{AreJudged, IsGlobJudged}
use Rattle.dm_imports.specs.Tables.{MapTables, of_tables}
use Rattle.dm_imports.proofs.MarkLemmas.{all-judged, all-judged-more, judged-supported, none-just}
use Rattle.dm_imports.proofs.rules.unsupported.judge.Goals as goal

pub mark_globs-requires-clause-bound : goal.mark_globs-requires-clause-bound
mark_globs-requires-clause-bound c =
    all-judged-more (of_tables c.args.maps.now) (slots_of c.mark_modules.new.found.unsupported) (slots_of c.mark_imports.new.found.unsupported) c.in_ok-mark_imports.ensures.marks.more
    c.in_ok-mark_modules.ensures.judged

pub returns-clause-all : goal.returns-clause-all
returns-clause-all c =
    let d = of_tables c.args.maps.now in
    let j = slots_of c.mark_modules.new.found.unsupported in
    let k = slots_of c.mark_imports.new.found.unsupported in
    let l = slots_of c.mark_globs.new.found.unsupported in
    let imports = subst (All (λ (i : NamedImport). AreJudged d k i.home i.name)) (ap (λ (t : MapTables). t.imports) c.maps.view_is) c.in_ok-mark_imports.ensures.judged in
    let globs = subst (All (IsGlobJudged d l)) (ap (λ (t : MapTables). t.globs) c.maps.view_is) c.in_ok-mark_globs.ensures.judged in
    all-judged d j k l c.in_ok-mark_imports.ensures.marks.more c.in_ok-mark_globs.ensures.marks.more c.in_ok-mark_modules.ensures.judged imports globs

pub returns-clause-just : goal.returns-clause-just
returns-clause-just c =
    let d = of_tables c.args.maps.now in
    c.in_ok-mark_globs.ensures.marks.just (c.in_ok-mark_imports.ensures.marks.just (c.in_ok-mark_modules.ensures.marks.just
    (none-just d (record { unsupported = c.new-unsupported.result; is_supported = true }) c.new-unsupported.ensures refl)))

pub returns-clause-supported : goal.returns-clause-supported
returns-clause-supported c =
    let d = of_tables c.args.maps.now in
    let j = slots_of c.mark_modules.new.found.unsupported in
    let k = slots_of c.mark_imports.new.found.unsupported in
    let l = slots_of c.mark_globs.new.found.unsupported in
    let imports = subst (All (λ (i : NamedImport). AreJudged d k i.home i.name)) (ap (λ (t : MapTables). t.imports) c.maps.view_is) c.in_ok-mark_imports.ensures.judged in
    let globs = subst (All (IsGlobJudged d l)) (ap (λ (t : MapTables). t.globs) c.maps.view_is) c.in_ok-mark_globs.ensures.judged in
    let all = all-judged d j k l c.in_ok-mark_imports.ensures.marks.more c.in_ok-mark_globs.ensures.marks.more c.in_ok-mark_modules.ensures.judged imports globs in
    let before = none-just d (record { unsupported = c.new-unsupported.result; is_supported = true }) c.new-unsupported.ensures refl in
    let just = c.in_ok-mark_globs.ensures.marks.just (c.in_ok-mark_imports.ensures.marks.just (c.in_ok-mark_modules.ensures.marks.just before)) in
    (λ yes. judged-supported d c.mark_globs.new.found just all yes, λ supported. just.noted supported)
