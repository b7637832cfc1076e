use Rattle.std.proofs.Common.{◌≡◌, ◌∙◌, rules, subst, true}
use Rattle.std.specs.List.{Contains}
use Rattle.std.proofs.lemmas.Iterator.Adapters.{YieldsList-from_vec}
use Rattle.std.proofs.lemmas.Map.Views.{Contains-from_any}
use Rattle.dm_base.specs.contracts.imports.ImportIdPartialEq.TheImpl as import_eq
use Rattle.dm_base.specs.declared.imports.ImportId.{ImportId}
use Rattle.dm_scope.specs.Sorted.{imports_of}
use Rattle.dm_scope.proofs.SortLemmas.{run_is}
use Rattle.dm_scope.proofs.item_scope.ItemScope.imports.Goals as goal

exact : (x y : ImportId) → import_eq.ghosts.eq x y ≡ true → x ≡ y
exact = search rules

pub returns : goal.returns
returns c =
    let run = c.in_ok-sorted.ensures in
    let once = c.in_ok-sorted.sorted.items in
    let all : run.0.items ≡ imports_of c.args.self.now =
    run_is run.0 c.into_iter.result run.1 run.2 (YieldsList-from_vec c.in_ok-imports.imports.items c.into_iter.ensures.rest (search rules)) ∙ c.in_ok-imports.ensures in
    record {
      sorted = run.3.sorted;
      same = λ x. subst (λ l. (Contains once x → Contains l x) × (Contains l x → Contains once x)) all (run.3.of_all x, λ h. Contains-from_any exact x once (run.3.has_each x h));
    }
