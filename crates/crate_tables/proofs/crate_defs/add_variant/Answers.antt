use Rattle.std.proofs.Common.{◌≡◌, ◌∙◌, List, ap, cond, refl, subst, sym, true≢false}
use Rattle.std.specs.Prelude.{Err}
use Rattle.crate_tables.proofs.GrownLemmas.{grown-further}
use Rattle.crate_tables.proofs.VariantLemmas.{variant-free, variant-short, variant-taken}
use Rattle.crate_tables.specs.CrateDefs.{with_new_variant}
use Rattle.dm_base.specs.declared.visibility.RawVisibility.{RawVisibility}
use Rattle.dm_maps.specs.declared.check.held.HeldId.TheVariants as held
use Rattle.dm_base.specs.declared.ids.EnumVariantId.{EnumVariantId}
use Rattle.dm_base.specs.declared.item_ids.ItemKind.TheVariants as kinds
use Rattle.dm_base.specs.declared.item_ids.VariantId.TheVariants as variant
use Rattle.dm_maps.specs.BuildItems.{with_variant}
use Rattle.dm_maps.specs.BuildTables.{with_fields}
use Rattle.dm_maps.specs.Faults.{Answers}
use Rattle.dm_maps.specs.ItemFaults.{variant_fault}
use Rattle.dm_maps.specs.World.{World}
use Rattle.dm_maps.specs.declared.build_fault.BuildFault.TheVariants.{TakenVariant}
use Rattle.crate_tables.proofs.crate_defs.add_variant.Goals as goal

pub returns-in-Ok-clause-world : goal.returns-in-Ok-clause-world
returns-in-Ok-clause-world c =
    let w = c.args.builder.now in
    let v = c.args.variant in
    let free = variant-free w c.args.e v.name c.in-Ok.id c.in-Ok.ensures.fault in
    c.in_ok-set_fields-in-Ok.ensures.world
    ∙ ap (λ (fields : List RawVisibility). with_fields c.add_variant.new.self (variant.EnumVariantId c.in-Ok.id) fields) c.into_vec.ensures
    ∙ ap (λ (x : World). with_fields x (variant.EnumVariantId c.in-Ok.id) v.fields) c.in-Ok.ensures.ok
    ∙ ap (λ (id : EnumVariantId). with_fields (with_variant w c.args.e v.name v.shape) (variant.EnumVariantId id) v.fields) c.in-Ok.ensures.number
    ∙ ap (λ b. cond b w (with_new_variant w c.args.e v)) (sym free)

pub returns-in-Ok-clause-kept : goal.returns-in-Ok-clause-kept
returns-in-Ok-clause-kept c =
    c.in_ok-set_fields-in-Ok.ensures.grown.known (held.Item kinds.Enum c.args.e.0) (c.in-Ok.ensures.added.grown.known (held.Item kinds.Enum c.args.e.0) c.requires)

pub returns-in-Ok-clause-grown : goal.returns-in-Ok-clause-grown
returns-in-Ok-clause-grown c = grown-further _ _ _ c.in-Ok.ensures.added.grown c.in_ok-set_fields-in-Ok.ensures.grown

pub returns-in_err-set_fields-in-Ok-clause-kept : goal.returns-in_err-set_fields-in-Ok-clause-kept
returns-in_err-set_fields-in-Ok-clause-kept c =
    c.in_err-set_fields-in-Ok.ensures.grown.known (held.Item kinds.Enum c.args.e.0) (c.in-Ok.ensures.added.grown.known (held.Item kinds.Enum c.args.e.0) c.requires)

pub returns-in_err-set_fields-in-Ok-clause-grown : goal.returns-in_err-set_fields-in-Ok-clause-grown
returns-in_err-set_fields-in-Ok-clause-grown c = grown-further _ _ _ c.in-Ok.ensures.added.grown c.in_err-set_fields-in-Ok.ensures.grown

pub returns-then-is_taken-clause-world : goal.returns-then-is_taken-clause-world
returns-then-is_taken-clause-world c =
    let same : c.in-Err.fault ≡ TakenVariant = c.if-is_taken.ensures.0 refl in
    let taken = variant-taken _ c.args.builder.now c.args.e c.args.variant.name (subst (λ f. Answers {A = EnumVariantId} (variant_fault c.args.builder.now c.args.e c.args.variant.name) (Err f)) same c.in-Err.ensures.fault) in
    c.in-Err.ensures.err
    ∙ ap (λ b. cond b c.args.builder.now (with_new_variant c.args.builder.now c.args.e c.args.variant)) (sym taken)

pub returns-clause-fault : goal.returns-clause-fault
returns-clause-fault c =
    variant-short _ c.args.builder.now c.args.e c.args.variant c.in-Err.fault c.requires c.in-Err.ensures.fault
    (λ same. true≢false (sym (c.if-is_taken.ensures.1 same)))
