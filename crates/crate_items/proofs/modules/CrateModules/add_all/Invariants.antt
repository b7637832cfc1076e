use Rattle.crate_items.specs.Modules.{Adds, IsListing, faults_of, modules_of}
use Rattle.crate_items.proofs.modules.CrateModules.add_all.Given as goal

abbrev pub invariant-loop-found : goal.invariant-loop-found
invariant-loop-found l =
    IsListing l.edition l.options l.files l.self × Adds l.fn.self l.self (λ table. modules_of table l.yielded) (faults_of l.yielded)
