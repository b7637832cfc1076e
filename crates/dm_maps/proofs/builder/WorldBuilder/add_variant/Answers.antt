use Rattle.std.proofs.Common.{sym}
use Rattle.dm_maps.proofs.AddedItems.{added-variant}
use Rattle.dm_maps.proofs.VariantLemmas.{variant_fault-none}
use Rattle.dm_maps.proofs.builder.WorldBuilder.add_variant.Goals as goal

pub next_variant-id-requires : goal.next_variant-id-requires
next_variant-id-requires c = (variant_fault-none c.args.self.now c.args.e c.args.name (sym c.in-None.ensures)).1

pub push_variant-requires-clause-free : goal.push_variant-requires-clause-free
push_variant-requires-clause-free c = (variant_fault-none c.args.self.now c.args.e c.args.name (sym c.in-None.ensures)).0

pub push_variant-requires-clause-known : goal.push_variant-requires-clause-known
push_variant-requires-clause-known c = (variant_fault-none c.args.self.now c.args.e c.args.name (sym c.in-None.ensures)).2

pub returns-in_ok-push_variant-in-None-clause-added : goal.returns-in_ok-push_variant-in-None-clause-added
returns-in_ok-push_variant-in-None-clause-added c = added-variant c.args.self.now c.push_variant.new.self c.args.e c.args.name c.args.shape c.next_variant-id.result c.in_ok-push_variant-in-None.ensures.ok c.next_variant-id.ensures
