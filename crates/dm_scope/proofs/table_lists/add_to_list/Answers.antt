use Rattle.std.proofs.Common.{◌∙◌, sym, ap}
use Rattle.dm_scope.specs.TableLists.{lists_of}
use Rattle.dm_scope.specs.Outcomes.{on-err}
use Rattle.dm_scope.proofs.TableListLemmas.{add_to_list-present, lists_of-unchanged}
use Rattle.dm_scope.proofs.table_lists.add_to_list.Goals as goal

pub returns-in_err-push_last-in-Some-clause-err : goal.returns-in_err-push_last-in-Some-clause-err
returns-in_err-push_last-in-Some-clause-err g c =
    on-err _ (ap lists_of (c.get_mut.follows.holds c.push_last.new.list).0
    ∙ lists_of-unchanged g.K.PartialEq.eq c.args.key c.args.table.now.entries c.in-Some.list.now c.push_last.new.list (sym c.in-Some.ensures.value) c.in_err-push_last-in-Some.ensures.err)

pub returns-in_ok-push_last-in-Some-clause-ok : goal.returns-in_ok-push_last-in-Some-clause-ok
returns-in_ok-push_last-in-Some-clause-ok g c =
    ap lists_of (c.get_mut.follows.holds c.push_last.new.list).0
    ∙ add_to_list-present g.K.PartialEq.eq c.args.key c.args.x c.args.table.now.entries c.in-Some.list.now c.push_last.new.list (sym c.in-Some.ensures.value) c.in_ok-push_last-in-Some.ensures.ok
