use Rattle.std.proofs.Common.{◌≡◌, drop}
use Rattle.std.specs.Prelude.{fold}
use Rattle.def_diagnostics.specs.OpenModules.{with_module}
use Rattle.def_diagnostics.proofs.open_modules.add_all.Given as goal

abbrev pub invariant-loop-home : goal.invariant-loop-home
invariant-loop-home l = fold with_module l.modules.keys (drop l.home-index l.homes) ≡ fold with_module l.fn.modules.keys l.homes
