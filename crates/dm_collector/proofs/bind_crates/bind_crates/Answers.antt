use Rattle.std.proofs.Common.{List, refl, subst, sym}
use Rattle.std.proofs.lemmas.List.{drop_all}
use Rattle.crate_tables.specs.Steps.{next-copied}
use Rattle.dm_base.specs.declared.ids.Crate.{Crate}
use Rattle.dm_imports.specs.Bound.{Maps}
use Rattle.dm_collector.specs.Binding.{AreCratesBound}
use Rattle.dm_collector.proofs.bind_crates.bind_crates.Goals as goal

pub loop-krate-preserved : goal.loop-krate-preserved
loop-krate-preserved c = λ x is gs us t rest.
    let s : Maps = record { world = c.loop-krate.world; flags = c.loop-krate.flags } in
    let next = next-copied c.args.order.now c.loop-krate.krate-index (record { 0 = 0 }) c.loop-krate-test.true in
    c.loop-krate.invariant x is gs us t
    (subst (λ (ks : List Crate). AreCratesBound x ks s t) (sym next) (_, c.in_ok-bind_one.ensures x is gs us, rest))

pub returns : goal.returns
returns c = λ x is gs us.
    let s : Maps = record { world = c.loop-krate.world; flags = c.loop-krate.flags } in
    c.loop-krate.invariant x is gs us s
    (subst (λ (ks : List Crate). AreCratesBound x ks s s) (sym (drop_all c.loop-krate.krate-index c.args.order.now c.loop-krate-test.false)) refl)
