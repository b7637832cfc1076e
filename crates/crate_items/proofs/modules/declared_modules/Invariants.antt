use Rattle.crate_items.specs.Modules.{IsListedTo}
use Rattle.crate_items.proofs.modules.declared_modules.Given as goal

abbrev pub invariant-loop-number : goal.invariant-loop-number
invariant-loop-number l = IsListedTo l.edition l.options l.files l.krate.root_file_id l.number l.list
