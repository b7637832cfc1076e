use Rattle.std.proofs.Common.{◌≡◌, drop}
use Rattle.crate_items.specs.ModuleVisibilities.{reached}
use Rattle.crate_items.specs.declared.modules.module_visibility.Reach.TheVariants.{Start}
use Rattle.crate_items.proofs.modules.module_visibility.Standpoint.reached.Given as goal

abbrev pub invariant-loop-lexeme : goal.invariant-loop-lexeme
invariant-loop-lexeme l = reached l.self l.reach (drop l.lexeme-index l.path) ≡ reached l.self Start l.path
