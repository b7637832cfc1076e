use Rattle.std.proofs.Common.{◌<◌, ◌+◌, ◌++◌, ◌∙◌, ap, append_assoc, drop, length, rules, sym}
use Rattle.std.proofs.lemmas.List.{at_drop_more}
use Rattle.dm_collector.specs.MacroUses.{of_rows}
use Rattle.dm_collector.proofs.macro_uses.push_rows.Goals as goal

pub loop-number-preserved : goal.loop-number-preserved
loop-number-preserved c =
    let of = of_rows c.args.files.now c.args.list.now c.args.krate in
    let n = c.loop-number.number in
    let found = c.loop-number.sources.items in
    let within : n < length c.args.rows.now = search rules in
    ap (λ items. items ++ of (n + 1) (drop (n + 1) c.args.rows.now)) c.in_ok-push_row.ensures
    ∙ append_assoc found _ _
    ∙ ap (λ items. found ++ items) (sym (at_drop_more (of n) c.args.rows.now n _ within))
    ∙ c.loop-number.invariant
