use Rattle.std.proofs.Common.{◌∙◌, ◌++◌, ap, string_bytes, rules}
use Rattle.dm_scope.specs.Dumps.{legacy_line}
use Rattle.dm_scope.proofs.DumpLemmas.{line_more}
use Rattle.dm_scope.proofs.item_scope.ItemScope.write_legacy.Goals as goal

pub loop-name-preserved : goal.loop-name-preserved
loop-name-preserved g c =
    line_more (legacy_line (g.T.ScopeTables.tables c.args.tables.now) c.args.self.now) c.args.names.now c.loop-name.name-index c.name-item.result
    (string_bytes c.loop-name.text) (string_bytes c.write_legacy_line.new.text) _ (search rules) (c.in_ok-write_legacy_line.ensures ∙ ap (λ n. string_bytes c.loop-name.text ++ legacy_line (g.T.ScopeTables.tables c.args.tables.now) c.args.self.now n.now) c.name-item.is) c.loop-name.invariant
