use Rattle.std.proofs.Common.{◌∙◌, sym, ap, not}
use Rattle.indexmap.proofs.MapLemmas.{insert_entry-absent, absent_from_lookup}
use Rattle.dm_scope.proofs.EntryLemmas.{add_entry-new, add_entry-present, absent}
use Rattle.dm_scope.proofs.bindings.lazy_map.LazyMap.add_key.Goals as goal

pub returns-then-contains_key-clause-entries : goal.returns-then-contains_key-clause-entries
returns-then-contains_key-clause-entries g c =
    sym (add_entry-present g.K.PartialEq.eq c.args.key c.args.value c.args.self.now (ap not (sym c.if-contains_key.ensures)))

pub returns-clause-entries : goal.returns-clause-entries
returns-clause-entries g c =
    let e = sym c.if-contains_key.ensures in
    c.in_ok-insert.ensures.ok
    ∙ insert_entry-absent g.K.PartialEq.eq c.args.key c.args.value c.args.self.now (absent_from_lookup (g.K.PartialEq.eq c.args.key) c.args.self.now (absent _ e))
    ∙ sym (add_entry-new g.K.PartialEq.eq c.args.key c.args.value c.args.self.now (ap not e))
