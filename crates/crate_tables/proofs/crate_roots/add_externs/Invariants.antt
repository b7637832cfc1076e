use Rattle.std.proofs.Common.{◌≡◌, drop}
use Rattle.std.specs.Prelude.{IsTrue}
use Rattle.crate_tables.specs.CrateRoots.{with_externs, with_externs_from}
use Rattle.dm_maps.specs.declared.check.held.HeldId.TheVariants as held
use Rattle.dm_maps.specs.Added.{IsGrown}
use Rattle.dm_maps.specs.Known.{knows}
use Rattle.crate_tables.proofs.crate_roots.add_externs.Given as goal

abbrev pub invariant-loop-place : goal.invariant-loop-place
invariant-loop-place l = record {
  world : with_externs_from l.builder l.krate l.attributes l.dependencies l.place (drop l.place l.dependencies) ≡ with_externs l.fn.builder l.krate l.attributes l.dependencies;
  known : IsTrue (knows l.builder (held.Crate l.krate));
  grown : IsGrown l.fn.builder l.builder;
}
