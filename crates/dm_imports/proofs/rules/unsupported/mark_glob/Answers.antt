use Rattle.std.proofs.Common.{◌≡◌, ◌∙◌, Bor, List, [], Option, ap, subst, sym}
use Rattle.std.specs.List.{Contains}
use Rattle.std.specs.Option.{option_map_or}
use Rattle.dm_base.specs.Names.{Name}
use Rattle.dm_maps.specs.World.{World}
use Rattle.dm_scope.specs.Sorted.{seen}
use Rattle.dm_imports.specs.declared.container.Container.{Container}
use Rattle.dm_imports.specs.Grounding.{slots_of}
use Rattle.dm_imports.specs.Marking.{AreJudged}
use Rattle.dm_imports.specs.Supporting.{source_names}
use Rattle.dm_imports.specs.Tables.{MapTables, of_tables}
use Rattle.dm_imports.proofs.AskLemmas.{module-known}
use Rattle.dm_imports.proofs.ListLemmas.{seen-all}
use Rattle.dm_imports.proofs.rules.unsupported.mark_glob.Goals as goal

pub source_of-requires-clause-into : goal.source_of-requires-clause-into
source_of-requires-clause-into c = module-known c.args.maps.now.world c.args.glob.now.into c.requires.into.0

pub returns-in_ok-mark_names-in-Some-clause-judged : goal.returns-in_ok-mark_names-in-Some-clause-judged
returns-in_ok-mark_names-in-Some-clause-judged c = λ n has.
    let d = of_tables c.args.maps.now in
    let source = c.in-Some.source in
    let same : c.maps.inside.world.now ≡ d.world = ap (λ (t : MapTables). t.world) c.maps.view_is in
    let own = subst (λ (o : Option Container). Contains (option_map_or (source_names d.world) o []) n) (sym c.source_of.ensures ∙ c.in-Some.is) has in
    let there = c.in_ok-names-in-Some.ensures n (subst (λ (w : World). Contains (source_names w source) n) (sym same) own) in
    seen-all (AreJudged d (slots_of c.mark_names.new.found.unsupported) c.args.glob.now.into) c.as_slice.result.now n c.in_ok-mark_names-in-Some.ensures.judged
    (subst (λ (l : List (Bor Name)). Contains (seen l) n) (sym c.as_slice.ensures.value) there)

pub mark_names-requires-clause-bound : goal.mark_names-requires-clause-bound
mark_names-requires-clause-bound c = λ yes. c.requires.bound
