use Rattle.std.proofs.Common.{◌≡◌, drop}
use Rattle.dm_imports.specs.Bound.{Maps}
use Rattle.dm_collector.specs.Binding.{AreCratesBound}
use Rattle.dm_collector.specs.Steps.{Given}
use Rattle.dm_collector.proofs.bind_crates.bind_crates.Given as goal

-- where the crates that are left lead, all of them lead
abbrev pub invariant-loop-krate : goal.invariant-loop-krate
invariant-loop-krate l =
    (x : Given) → x.imports ≡ l.given.imports.now → x.globs ≡ l.given.globs.now → x.uses ≡ l.uses →
    (t : Maps) → AreCratesBound x (drop l.krate-index l.order) (record { world = l.world; flags = l.flags }) t
    → AreCratesBound x l.order (record { world = l.fn.world; flags = l.fn.flags }) t
