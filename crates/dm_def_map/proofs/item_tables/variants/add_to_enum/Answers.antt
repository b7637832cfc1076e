use Rattle.std.proofs.Common.{◌≡◌, ◌∙◌, ◌++◌, ◌∷◌, [], None, sym, ap}
use Rattle.std.specs.Map.{lookup}
use Rattle.std.proofs.lemmas.Result.{on_ok_weaker}
use Rattle.dm_def_map.specs.Variants.{same_enum}
use Rattle.dm_def_map.proofs.TableLemmas.{listed-at, listed-last, none-by}
use Rattle.dm_def_map.proofs.item_tables.variants.add_to_enum.Goals as goal

pub returns-in_ok-push-in-None-clause-ok : goal.returns-in_ok-push-in-None-clause-ok
returns-in_ok-push-in-None-clause-ok c =
    let es = c.args.enums.now.entries in
    let none : lookup (same_enum c.args.e) es ≡ None = none-by (lookup (same_enum c.args.e) es) (sym c.in-None.ensures.found) in
    on_ok_weaker c.put_last.result
    (λ made. made ∙ ap (λ vs. es ++ (c.args.e, vs) ∷ []) (c.in_ok-push-in-None.ensures.ok ∙ ap (λ vs. vs ++ (c.args.name, c.args.variant) ∷ []) c.new-variants.ensures) ∙ sym (listed-last same_enum es c.args.e (c.args.name, c.args.variant) none)) c.put_last.ensures.ok

pub returns-in-Some-clause-ok : goal.returns-in-Some-clause-ok
returns-in-Some-clause-ok c =
    let es = c.args.enums.now.entries in
    on_ok_weaker c.add_to_nth.result
    (λ made. made ∙ listed-at same_enum es c.args.e (c.args.name, c.args.variant) c.in-Some.i (sym c.in-Some.ensures.index) c.in-Some.ensures.value) c.add_to_nth.ensures.ok
