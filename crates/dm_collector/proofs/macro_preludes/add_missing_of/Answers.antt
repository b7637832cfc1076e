use Rattle.std.proofs.Common.{◌≡◌, Bor, List, None, subst}
use Rattle.std.specs.List.{All}
use Rattle.dm_base.specs.Names.{Name}
use Rattle.dm_collector.proofs.MacroLemmas.{all-among}
use Rattle.dm_collector.specs.MacroPreludes.{missing_macro, used_names}
use Rattle.dm_scope.specs.Sorted.{seen}
use Rattle.dm_collector.proofs.macro_preludes.add_missing_of.Goals as goal

pub returns-clause-used : goal.returns-clause-used
returns-clause-used c = λ none.
    let w = c.args.world.now in
    let P : Name → Type 0 = λ n. missing_macro w c.args.uses.now n ≡ None in
    let listed = subst (λ (ns : List (Bor Name)). All P (seen ns)) c.as_slice.ensures.value (c.in_ok-add_missing.ensures.none none) in
    all-among P (used_names w c.args.source.now) (seen c.in_ok-listed.listed.items) c.in_ok-listed.ensures listed
