use Rattle.std.proofs.Common.{◌≡◌, ◌+◌, ◌++◌, ◌∙◌, [], ◌∷◌, List, ap, append_assoc, drop, sym}
use Rattle.crate_items.specs.CrateGraphs.{Data}
use Rattle.crate_tables.specs.Steps.{next-in}
use Rattle.dm_base.specs.declared.ids.Crate.{Crate}
use Rattle.dm_collector.specs.MacroUses.{macro_uses, uses_of}
use Rattle.dm_collector.proofs.macro_uses.macro_uses.Goals as goal

pub loop-number-preserved : goal.loop-number-preserved
loop-number-preserved c =
    let files = c.args.files.now in
    let ls = c.args.lists.now in
    let rows = c.args.rows.now in
    let n = c.loop-number.number in
    let d = c.described-item.result in
    let found = c.loop-number.uses.items in
    let one : c.crate_at-krate.result ≡ record { 0 = n } = λ i. record { 0 = c.crate_at-krate.ensures i } in
    ap (λ items. items ++ macro_uses files ls rows (n + 1) (drop (n + 1) c.args.graph.now)) (c.in_ok-push_crate.ensures ∙ ap (λ (k : Crate). found ++ uses_of files ls rows k d ∷ []) one)
    ∙ append_assoc found _ _
    ∙ ap (λ items. found ++ items) (sym (ap (λ (ds : List Data). macro_uses files ls rows n ds) (next-in c.args.graph.now c.crates-described-items.result.now n d c.crates-described-items.ensures.all c.loop-number-test.true c.described-item.is)))
    ∙ c.loop-number.invariant
