use Rattle.std.proofs.Common.{Bor, List, None, subst, sym}
use Rattle.std.specs.List.{Contains}
use Rattle.dm_base.specs.Names.{Name}
use Rattle.dm_scope.specs.Sorted.{seen}
use Rattle.dm_imports.specs.Grounding.{AreSettled, slots_of}
use Rattle.dm_imports.specs.Tables.{of_tables}
use Rattle.dm_imports.proofs.ListLemmas.{seen-all}
use Rattle.dm_imports.proofs.rules.grounded.ways.add_module.Goals as goal

pub returns-clause-settled : goal.returns-clause-settled
returns-clause-settled c = λ n has.
    let d = of_tables c.args.maps.now in
    let listed = c.requires.listing c.args.m c.names_in.ensures.fits n has in
    let there = subst (λ (l : List Name). Contains l n) (sym c.in_ok-names.ensures.names) listed in
    seen-all (λ (x : Name). AreSettled d (slots_of c.add_names.new.known) c.add_names.new.ways.items c.args.m x None) c.as_slice.result.now n c.in_ok-add_names.ensures.settled
    (subst (λ (l : List (Bor Name)). Contains (seen l) n) (sym c.as_slice.ensures.value) there)
