use Rattle.std.proofs.Common.{◌<◌, ◌+◌, ◌++◌, ◌∙◌, ap, append_assoc, drop, length, rules, sym}
use Rattle.std.proofs.lemmas.List.{at_drop_more}
use Rattle.crate_items.specs.FileItems.{homed_from}
use Rattle.crate_items.proofs.items.file_items.items_in_tree.Goals as goal

pub loop-number-preserved : goal.loop-number-preserved
loop-number-preserved c =
    let source = c.args.source.now in
    let n = c.loop-number.number in
    let found = c.loop-number.found.items in
    let within : n < length c.args.items.now = search rules in
    ap (λ items. items ++ homed_from source (n + 1) (drop (n + 1) c.args.items.now)) c.in_ok-push_item.ensures
    ∙ append_assoc found _ _
    ∙ ap (λ items. found ++ items) (sym (at_drop_more (homed_from source n) c.args.items.now n _ within))
    ∙ c.loop-number.invariant
