use Rattle.std.proofs.Common.{◌≡◌, ◌∙◌, ◌++◌, ◌∷◌, [], None, sym, ap}
use Rattle.std.specs.Map.{lookup}
use Rattle.std.proofs.lemmas.Result.{on_ok_weaker}
use Rattle.indexmap.specs.IndexMap.{insert_entry}
use Rattle.dm_base.specs.Sameness.{same_ast}
use Rattle.indexmap.proofs.MapLemmas.{Missing-position}
use Rattle.dm_def_map.proofs.TableLemmas.{listed-at, listed-new}
use Rattle.dm_def_map.proofs.item_tables.derive_helpers.add_helper.Goals as goal

pub returns-in_ok-push-in-None-clause-ok : goal.returns-in_ok-push-in-None-clause-ok
returns-in_ok-push-in-None-clause-ok c =
    let es = c.args.table.now.entries in
    let none : lookup (same_ast c.args.ast) es ≡ None = (Missing-position (same_ast c.args.ast) es (sym c.in-None.ensures.index)).value in
    on_ok_weaker c.put_helpers.result
    (λ made. made ∙ ap (λ hs. insert_entry same_ast es c.args.ast hs) (c.in_ok-push-in-None.ensures.ok ∙ ap (λ hs. hs ++ c.args.helper ∷ []) c.new-helpers.ensures) ∙ sym (listed-new same_ast es c.args.ast c.args.helper none)) c.put_helpers.ensures.ok

pub returns-in-Some-clause-ok : goal.returns-in-Some-clause-ok
returns-in-Some-clause-ok c =
    let es = c.args.table.now.entries in
    on_ok_weaker c.add_helper_at.result
    (λ made. made ∙ listed-at same_ast es c.args.ast c.args.helper c.in-Some.i (sym c.in-Some.ensures.index) c.in-Some.ensures.value) c.add_helper_at.ensures.ok
