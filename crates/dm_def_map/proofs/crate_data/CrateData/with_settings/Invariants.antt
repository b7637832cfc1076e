use Rattle.std.proofs.Common.{◌≡◌}
use Rattle.dm_def_map.specs.CrateData.{with_settings}
use Rattle.dm_def_map.proofs.crate_data.CrateData.with_settings.Given as goal

-- the data has the attributes set so far
abbrev pub invariant-loop-setting : goal.invariant-loop-setting
invariant-loop-setting l = l.self ≡ with_settings l.fn.self l.yielded
