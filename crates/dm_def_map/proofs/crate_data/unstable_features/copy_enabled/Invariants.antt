use Rattle.std.proofs.Common.{◌≡◌, [], take}
use Rattle.indexmap.specs.IndexSet.{insert_all}
use Rattle.dm_base.specs.Names.{same_name}
use Rattle.dm_def_map.proofs.crate_data.unstable_features.copy_enabled.Given as goal

-- the features so far were added in turn
abbrev pub invariant-loop-feature : goal.invariant-loop-feature
invariant-loop-feature l = l.copies.keys ≡ insert_all same_name [] (take l.feature-index l.features)
