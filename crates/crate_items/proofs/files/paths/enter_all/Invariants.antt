use Rattle.std.proofs.Common.{◌≡◌, length}
use Rattle.crate_items.specs.Paths.{entered_all}
use Rattle.crate_items.proofs.files.paths.enter_all.Given as goal

abbrev pub invariant-components : goal.invariant-components
invariant-components l = entered_all l.folder.items l.rest ≡ entered_all l.fn.folder.items l.path

abbrev pub decreases-components : goal.decreases-components
decreases-components l = length l.rest
