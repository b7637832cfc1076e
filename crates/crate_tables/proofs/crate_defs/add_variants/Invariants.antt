use Rattle.std.proofs.Common.{◌≡◌, ◌++◌}
use Rattle.std.specs.Prelude.{IsTrue}
use Rattle.crate_tables.specs.CrateDefs.{with_variants}
use Rattle.dm_maps.specs.declared.check.held.HeldId.TheVariants as held
use Rattle.dm_base.specs.declared.item_ids.ItemKind.TheVariants as kinds
use Rattle.dm_maps.specs.Added.{IsGrown}
use Rattle.dm_maps.specs.Known.{knows}
use Rattle.crate_tables.proofs.crate_defs.add_variants.Given as goal

abbrev pub invariant-loop-variant : goal.invariant-loop-variant
invariant-loop-variant l = record {
  world : l.builder ≡ with_variants l.fn.builder l.e l.yielded;
  known : IsTrue (knows l.builder (held.Item kinds.Enum l.e.0));
  rest : l.yielded ++ l.variant-iterator.rest.items ≡ l.fn.variants.items;
  grown : IsGrown l.fn.builder l.builder;
}
