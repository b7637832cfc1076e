use Rattle.std.proofs.Common.{◌∙◌, ap, subst, sym}
use Rattle.dm_base.specs.RunLaws.{shows_in_order}
use Rattle.dm_maps.specs.GoesOn.{AreKnown, AreVariantsOf, deref_variant}
use Rattle.dm_maps.specs.Readings.{variants_of}
use Rattle.dm_maps.proofs.EnumLists.{variants-known, variants-own}
use Rattle.dm_maps.proofs.world.World.variants.Goals as goal

pub returns-then-not-knows-clause-runs : goal.returns-then-not-knows-clause-runs
returns-then-not-knows-clause-runs c = shows_in_order deref_variant

pub returns-clause-known : goal.returns-clause-known
returns-clause-known c =
    let w = c.args.self.now in
    let e = c.args.e in
    subst (AreKnown w) (sym (c.new.ensures.rest ∙ c.variants_of.ensures ∙ ap (λ x. variants_of x e) c.tables-tables.ensures.value))
    (variants-known w c.tables-tables.ensures.world.listed e)

pub returns-clause-own : goal.returns-clause-own
returns-clause-own c =
    let w = c.args.self.now in
    let e = c.args.e in
    subst (AreVariantsOf w e) (sym (c.new.ensures.rest ∙ c.variants_of.ensures ∙ ap (λ x. variants_of x e) c.tables-tables.ensures.value))
    (variants-own w c.tables-tables.ensures.world.listed e)
