use Rattle.std.proofs.Common.{ap, sym, ◌∙◌}
use Rattle.std.proofs.lemmas.List.{drop-map, take_rest}
use Rattle.dm_base.specs.declared.ids.Crate.{Crate}
use Rattle.crate_items.specs.CrateGraphs.{numbers}
use Rattle.crate_items.proofs.files.order_search.copied_from.Goals as goal

pub returns : goal.returns
returns c =
    ap numbers (c.in_ok-copy.ensures.items ∙ take_rest c.args.crates.now c.args.place)
    ∙ sym (drop-map (λ (id : Crate). id.0) c.args.place c.args.crates.now)
