use Rattle.std.proofs.Common.{◌≡◌, drop}
use Rattle.std.specs.List.{list_any}
use Rattle.std.specs.Prelude.{◌||◌}
use Rattle.dm_base.specs.Tree.{same_module}
use Rattle.dm_base.specs.declared.ids.ModuleId.{ModuleId}
use Rattle.dm_collector.specs.BareModules.{is_among}
use Rattle.dm_collector.proofs.bare_modules.set_of.Given as goal

abbrev pub invariant-loop-m : goal.invariant-loop-m
invariant-loop-m l =
    (x : ModuleId) → list_any (same_module x) l.set.keys || is_among (drop l.m-index l.modules) x ≡ is_among l.modules x
