use Rattle.std.proofs.Common.{◌≡◌}
use Rattle.std.specs.Prelude.{map}
use Rattle.crate_tables.specs.StandardPreludes.{setting_of}
use Rattle.crate_tables.proofs.standard_prelude.settings_of.Given as goal

abbrev pub invariant-loop-attribute : goal.invariant-loop-attribute
invariant-loop-attribute l = l.settings.items ≡ map setting_of l.yielded
