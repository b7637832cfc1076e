use Rattle.std.proofs.Common.{◌≡◌, None, drop}
use Rattle.crate_tables.specs.PreludeImports.{named_among}
use Rattle.crate_tables.proofs.prelude_imports.named_prelude.Given as goal

abbrev pub invariant-loop-place : goal.invariant-loop-place
invariant-loop-place l = named_among l.crates l.importer l.list l.table.leaves l.named (drop l.place-index l.table.uses) ≡ named_among l.crates l.importer l.list l.table.leaves None l.table.uses
