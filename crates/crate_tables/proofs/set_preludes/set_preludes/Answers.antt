use Rattle.crate_tables.proofs.MapLemmas.{maps-prelude}
use Rattle.std.proofs.Common.{◌≡◌, ◌<◌, ◌∙◌, ◌+◌, ap, arith, drop, length, subst, sym, List}
use Rattle.crate_items.specs.CrateGraphs.{Data}
use Rattle.crate_tables.proofs.GrownLemmas.{grown-further}
use Rattle.crate_tables.specs.Steps.{next-in}
use Rattle.crate_tables.specs.CrateFillings.{with_prelude_of, with_preludes_from}
use Rattle.dm_base.specs.declared.ids.Crate.{Crate}
use Rattle.crate_tables.proofs.set_preludes.set_preludes.Goals as goal

pub loop-number-preserved : goal.loop-number-preserved
loop-number-preserved c =
    let files = c.args.files.now in
    let ls = c.args.lists.now in
    let ts = c.args.tables.now in
    let n = c.loop-number.number in
    let d = c.described-item.result in
    let w = c.loop-number.builder in
    let one : c.crate_at-krate.result ≡ record { 0 = n } = λ i. record { 0 = c.crate_at-krate.ensures i } in
    record {
      world =
          ap (with_preludes_from files ls ts (n + 1) (drop (n + 1) c.args.graph.now)) (c.in_ok-set_next.ensures.world ∙ ap (λ (k : Crate). with_prelude_of files ls ts k d w) one)
          ∙ sym (ap (λ (ds : List Data). with_preludes_from files ls ts n ds w) (next-in c.args.graph.now c.crates-described-items.result.now n d c.crates-described-items.ensures.all c.loop-number-test.true c.described-item.is))
          ∙ c.loop-number.invariant.world;
      maps = maps-prelude w (length c.args.graph.now) c.crate_at-krate.result _ c.set_next.new.builder c.in_ok-set_next.ensures.world c.loop-number.invariant.maps;
      grown = grown-further _ _ _ c.loop-number.invariant.grown c.in_ok-set_next.ensures.grown;
    }

pub returns-in_err-set_next-clause-grown : goal.returns-in_err-set_next-clause-grown
returns-in_err-set_next-clause-grown c = grown-further _ _ _ c.loop-number.invariant.grown c.in_err-set_next.ensures.grown

pub set_next-requires : goal.set_next-requires
set_next-requires c =
    let less = subst (λ (ds : List Data). c.loop-number.number < length ds) c.crates-described-items.ensures.all c.loop-number-test.true in
    c.loop-number.invariant.maps c.crate_at-krate.result (omega (arith, c.crate_at-krate.ensures, less))
