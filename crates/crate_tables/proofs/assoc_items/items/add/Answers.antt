use Rattle.crate_tables.proofs.ShortLemmas.{item-short, passed}
use Rattle.dm_maps.specs.Build.{with_item}
use Rattle.crate_tables.proofs.AssocLemmas.{more-placed_item}
use Rattle.crate_tables.proofs.MoreSteps.{many-short}
use Rattle.crate_tables.proofs.assoc_items.items.add.Goals as goal

pub returns-in_err-def-clause-fault : goal.returns-in_err-def-clause-fault
returns-in_err-def-clause-fault c =
    passed c.from_residual.result c.in_err-def.field-0.0 _ c.from_residual.ensures.1
    (many-short (with_item c.args.builder.now c.args.kind c.args.container.home) _
    (more-placed_item c.args.files.now c.args.list.now (record { world = c.args.builder.now; places = c.args.places.now.items }) c.args.container c.args.row c.args.kind) _
    (item-short _ c.args.builder.now c.args.kind c.args.container.home _ c.requires c.in_err-def.ensures.fault))
