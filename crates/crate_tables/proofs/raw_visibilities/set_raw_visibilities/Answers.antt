use Rattle.std.proofs.Common.{◌∙◌, ◌+◌, ap, drop, sym}
use Rattle.crate_tables.proofs.GrownLemmas.{grown-further}
use Rattle.crate_tables.specs.Steps.{next-copied}
use Rattle.crate_tables.specs.RawVisibilities.{with_raw_visibilities}
use Rattle.dm_base.specs.declared.item_ids.ModuleDefId.TheVariants as def
use Rattle.crate_tables.proofs.raw_visibilities.set_raw_visibilities.Goals as goal

pub returns-in_err-set_at-clause-grown : goal.returns-in_err-set_at-clause-grown
returns-in_err-set_at-clause-grown c = grown-further _ _ _ c.loop-place.invariant.grown c.in_err-set_at.ensures.grown

pub loop-place-preserved : goal.loop-place-preserved
loop-place-preserved c =
    let n = c.loop-place.place-index in
    let view = c.args.view.now in
    let places = c.args.places.now in
    record {
      world =
          ap (λ w. with_raw_visibilities view w (drop (n + 1) places)) c.in_ok-set_at.ensures.world
          ∙ sym (ap (with_raw_visibilities view c.loop-place.builder) (next-copied places n (record { def = def.ModuleId (record { 0 = 0 }); home = record { 0 = 0 }; file = record { 0 = 0 }; item = 0 }) c.loop-place-test.true))
          ∙ c.loop-place.invariant.world;
      grown = grown-further _ _ _ c.loop-place.invariant.grown c.in_ok-set_at.ensures.grown;
    }
