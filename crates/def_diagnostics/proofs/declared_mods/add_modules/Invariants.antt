use Rattle.std.proofs.Common.{◌≡◌, drop}
use Rattle.std.specs.Prelude.{fold}
use Rattle.def_diagnostics.specs.DeclaredMods.{with_module}
use Rattle.def_diagnostics.proofs.declared_mods.add_modules.Given as goal

abbrev pub invariant-loop-outer : goal.invariant-loop-outer
invariant-loop-outer l = fold with_module l.items.keys (drop l.outer-index l.modules) ≡ fold with_module l.fn.items.keys l.modules
