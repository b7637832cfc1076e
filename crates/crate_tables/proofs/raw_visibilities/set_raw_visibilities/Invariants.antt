use Rattle.std.proofs.Common.{◌≡◌, drop}
use Rattle.crate_tables.specs.RawVisibilities.{with_raw_visibilities}
use Rattle.dm_maps.specs.Added.{IsGrown}
use Rattle.crate_tables.proofs.raw_visibilities.set_raw_visibilities.Given as goal

abbrev pub invariant-loop-place : goal.invariant-loop-place
invariant-loop-place l = record {
  world : with_raw_visibilities l.view l.builder (drop l.place-index l.places) ≡ with_raw_visibilities l.view l.fn.builder l.places;
  grown : IsGrown l.fn.builder l.builder;
}
