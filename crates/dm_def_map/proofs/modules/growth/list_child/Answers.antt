use Rattle.std.proofs.Common.{◌∙◌, ap, sym}
use Rattle.indexmap.specs.IndexMap.{set_value_at}
use Rattle.dm_def_map.specs.TableLaws.{set_value_at-own}
use Rattle.std.proofs.lemmas.Result.{on_err_weaker}
use Rattle.dm_def_map.proofs.modules.growth.list_child.Goals as goal

pub returns-clause-err : goal.returns-clause-err
returns-clause-err c =
    let es = c.args.modules.now.entries in
    on_err_weaker c.add_child.result
    (λ same. ap (set_value_at es c.args.i) same ∙ set_value_at-own es c.args.i c.in-Some.data.now (sym c.in-Some.ensures.value)) c.add_child.ensures.err
