use Rattle.std.proofs.Common.{◌≡◌, ◌+◌, ◌++◌, ◌∙◌, List, ap, append_assoc, drop, sym}
use Rattle.std.specs.Prelude.{slice_get}
use Rattle.crate_items.specs.CrateGraphs.{Data}
use Rattle.crate_tables.specs.Steps.{next-in}
use Rattle.dm_base.specs.declared.ids.Crate.{Crate}
use Rattle.dm_collector.specs.Constructors.{constructors, of_crate, places_in}
use Rattle.dm_collector.proofs.constructors.constructors.Goals as goal

pub loop-number-preserved : goal.loop-number-preserved
loop-number-preserved c =
    let w = c.args.world.now in
    let files = c.args.files.now in
    let ls = c.args.lists.now in
    let ts = c.args.tables.now in
    let n = c.loop-number.number in
    let d = c.described-item.result in
    let found = c.loop-number.found.items in
    let one : c.crate_at-krate.result ≡ record { 0 = n } = λ i. record { 0 = c.crate_at-krate.ensures i } in
    ap (λ items. items ++ constructors w files ls ts (n + 1) (drop (n + 1) c.args.graph.now))
    (c.in_ok-push_tabled.ensures ∙ ap (λ (k : Crate). found ++ of_crate w files k d (places_in (slice_get ts k.0)) (slice_get ls k.0)) one)
    ∙ append_assoc found _ _
    ∙ ap (λ items. found ++ items) (sym (ap (λ (ds : List Data). constructors w files ls ts n ds) (next-in c.args.graph.now c.crates-described-items.result.now n d c.crates-described-items.ensures.all c.loop-number-test.true c.described-item.is)))
    ∙ c.loop-number.invariant
