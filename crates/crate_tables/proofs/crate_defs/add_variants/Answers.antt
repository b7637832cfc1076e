use Rattle.crate_tables.proofs.ShortLemmas.{one-taken, passed, variants-short}
use Rattle.std.proofs.Common.{◌∙◌, ap, sym}
use Rattle.crate_tables.proofs.DefLemmas.{variants-more}
use Rattle.crate_tables.proofs.GrownLemmas.{grown-further}
use Rattle.crate_tables.specs.CrateDefs.{with_variant_of}
use Rattle.crate_tables.proofs.crate_defs.add_variants.Goals as goal

pub loop-variant-preserved : goal.loop-variant-preserved
loop-variant-preserved c = record {
  world =
      c.in_ok-add_variant.ensures.world
      ∙ ap (λ w. with_variant_of w c.args.e c.in-Some.variant) c.loop-variant.invariant.world
      ∙ sym (variants-more c.args.builder.now c.args.e c.loop-variant.yielded c.in-Some.variant);
  known = c.in_ok-add_variant.ensures.kept;
  rest = one-taken c.loop-variant.yielded c.loop-variant.variant-iterator.rest.items c.next.new.self.rest.items c.args.variants.items c.in-Some.variant c.loop-variant.invariant.rest c.in-Some.ensures.steps.0;
  grown = grown-further _ _ _ c.loop-variant.invariant.grown c.in_ok-add_variant.ensures.grown;
}

pub returns-in_err-add_variant-clause-grown : goal.returns-in_err-add_variant-clause-grown
returns-in_err-add_variant-clause-grown c = grown-further _ _ _ c.loop-variant.invariant.grown c.in_err-add_variant.ensures.grown

pub returns-in_err-add_variant-clause-fault : goal.returns-in_err-add_variant-clause-fault
returns-in_err-add_variant-clause-fault c =
    passed c.from_residual.result c.in_err-add_variant.field-0.0 _ c.from_residual.ensures.1
    (variants-short c.args.e c.args.builder.now c.loop-variant.builder c.loop-variant.yielded c.loop-variant.variant-iterator.rest.items c.next.new.self.rest.items c.args.variants.items c.in-Some.variant _
    c.loop-variant.invariant.world c.loop-variant.invariant.rest c.in-Some.ensures.steps.0 c.in_err-add_variant.ensures.fault)
