use Rattle.std.proofs.Common.{◌∙◌, ap, sym}
use Rattle.std.proofs.lemmas.Result.{on_err_weaker}
use Rattle.indexmap.specs.IndexMap.{set_value_at}
use Rattle.dm_def_map.specs.TableLaws.{set_value_at-own}
use Rattle.dm_def_map.proofs.item_tables.derive_helpers.add_helper_at.Goals as goal

pub returns-clause-err : goal.returns-clause-err
returns-clause-err c =
    let es = c.args.table.now.entries in
    on_err_weaker c.push.result
    (λ same. ap (set_value_at es c.args.i) same ∙ set_value_at-own es c.args.i c.in-Some.helpers.now (sym c.in-Some.ensures.value)) c.push.ensures.err
