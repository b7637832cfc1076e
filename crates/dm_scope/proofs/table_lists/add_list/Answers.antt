use Rattle.std.proofs.Common.{◌∙◌, ◌++◌, ◌∷◌, [], ap, sym}
use Rattle.std.proofs.lemmas.List.{map-append}
use Rattle.indexmap.proofs.CallerLemmas.{insert_entry-new}
use Rattle.dm_scope.specs.TableLists.{lists_of}
use Rattle.dm_scope.proofs.TableListLemmas.{add_to_list-absent}
use Rattle.dm_scope.proofs.table_lists.add_list.Goals as goal

pub returns-clause-ok : goal.returns-clause-ok
returns-clause-ok g c =
    ap lists_of (c.in_ok-insert.ensures.entries ∙ insert_entry-new g.K.PartialEq.eq c.args.table.now c.args.key c.push.new.self c.requires)
    ∙ map-append (λ e. (e.0, e.1.items)) c.args.table.now.entries ((c.args.key, c.push.new.self) ∷ [])
    ∙ ap (λ l. lists_of c.args.table.now.entries ++ (c.args.key, l) ∷ []) (c.in_ok-push.ensures.ok ∙ ap (λ l. l ++ c.args.x ∷ []) c.new-list.ensures.items)
    ∙ sym (add_to_list-absent g.K.PartialEq.eq c.args.key c.args.x c.args.table.now.entries c.requires)
