use Rattle.def_diagnostics.specs.OpenModules.{AllOpen, Keeps}
use Rattle.def_diagnostics.proofs.open_modules.close.Given as goal

abbrev pub invariant-loop : goal.invariant-loop
invariant-loop l = record {
  kept : Keeps l.fn.modules.keys l.modules.keys;
  sound : AllOpen l.fn.modules.keys l.edges l.modules.keys;
}
