-- The tests of ids hold of the same id, and of it alone.
use Rattle.std.proofs.Common.{◌≡◌, true, Option, None, Some, refl, sym, ap, true≢false, eq-eqb}
use Rattle.std.proofs.lemmas.Bool.{and_parts, and_from}
use Rattle.dm_base.specs.declared.ids.ModuleId.{ModuleId}
use Rattle.dm_base.specs.declared.ids.BlockId.{BlockId}
use Rattle.dm_base.specs.declared.ids.Crate.{Crate}
use Rattle.dm_base.specs.declared.ids.MapId.{MapId}
use Rattle.dm_base.specs.contracts.value_eq.BlockIdValueEq.TheImpl.Laws as block_value
use Rattle.dm_base.specs.contracts.value_eq.CrateValueEq.TheImpl.Laws as crate_value
use Rattle.dm_base.specs.contracts.value_eq.ModuleIdValueEq.TheImpl.Laws as module_value
use Rattle.dm_base.specs.Tree.{same_module, same_crate, same_block, same_map}

pub same_module-true : (a b : ModuleId) → same_module a b ≡ true → a ≡ b
same_module-true = module_value.same-law

pub same_module-refl : (a : ModuleId) → same_module a a ≡ true
same_module-refl a = eq-eqb a.0 a.0 refl

pub same_crate-true : (a b : Crate) → same_crate a b ≡ true → a ≡ b
same_crate-true = crate_value.same-law

pub same_block-true : (a b : Option BlockId) → same_block a b ≡ true → a ≡ b
same_block-true None None e = refl
same_block-true None (Some b) e = absurd (true≢false (sym e))
same_block-true (Some a) None e = absurd (true≢false (sym e))
same_block-true (Some a) (Some b) e = ap Some (block_value.same-law a b e)

pub same_map-true : (i j : MapId) → same_map i j ≡ true → i ≡ j
same_map-true i j e =
    let both = and_parts (same_crate i.krate j.krate) (same_block i.block j.block) e in
    let krate = same_crate-true i.krate j.krate both.0 in
    let block = same_block-true i.block j.block both.1 in
    λ k. record { krate = krate k; block = block k }

pub same_block-refl : (a : Option BlockId) → same_block a a ≡ true
same_block-refl None = refl
same_block-refl (Some a) = eq-eqb a.0 a.0 refl

pub same_map-refl : (i : MapId) → same_map i i ≡ true
same_map-refl i = and_from _ _ (eq-eqb i.krate.0 i.krate.0 refl) (same_block-refl i.block)
