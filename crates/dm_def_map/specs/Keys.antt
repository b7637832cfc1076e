-- When two keys of tables by item are the same: as their `==` says.
use Rattle.std.specs.Prelude.{Bool}
use Rattle.dm_base.specs.declared.ids.TraitId.{TraitId}
use Rattle.dm_base.specs.declared.item_ids.AssocItemId.{AssocItemId}
use Rattle.dm_base.specs.declared.item_ids.VariantId.{VariantId}
use Rattle.dm_base.specs.contracts.ids.TraitIdPartialEq.TheImpl as trait_eq
use Rattle.dm_base.specs.contracts.item_ids.AssocItemIdPartialEq.TheImpl as assoc_eq
use Rattle.dm_base.specs.contracts.item_ids.VariantIdPartialEq.TheImpl as variant_eq

abbrev pub same_variant : VariantId → VariantId → Bool
same_variant = variant_eq.ghosts.eq

abbrev pub same_assoc : AssocItemId → AssocItemId → Bool
same_assoc = assoc_eq.ghosts.eq

abbrev pub same_trait : TraitId → TraitId → Bool
same_trait = trait_eq.ghosts.eq
