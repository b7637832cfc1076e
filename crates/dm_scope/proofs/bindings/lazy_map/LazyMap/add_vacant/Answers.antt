use Rattle.std.proofs.Common.{◌∙◌, ap, true}
use Rattle.indexmap.proofs.MapLemmas.{insert_entry-absent, absent_from_lookup}
use Rattle.dm_scope.specs.Entries.{without_new}
use Rattle.dm_scope.proofs.EntryLemmas.{take-last}
use Rattle.dm_scope.proofs.bindings.lazy_map.LazyMap.add_vacant.Goals as goal

pub returns-clause-undo : goal.returns-clause-undo
returns-clause-undo g c =
    ap (without_new true) (c.in_ok-insert.ensures.ok ∙ insert_entry-absent g.K.PartialEq.eq c.args.key c.args.value c.args.self.now (absent_from_lookup (g.K.PartialEq.eq c.args.key) c.args.self.now c.requires))
    ∙ take-last c.args.self.now (c.args.key, c.args.value)
