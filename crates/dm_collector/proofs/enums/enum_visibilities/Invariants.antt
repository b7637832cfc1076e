use Rattle.std.proofs.Common.{◌≡◌, drop}
use Rattle.std.specs.List.{fold}
use Rattle.std.specs.Map.{lookup}
use Rattle.std.specs.Option.{option_or}
use Rattle.dm_base.specs.declared.ids.EnumId.{EnumId}
use Rattle.dm_def_map.specs.Variants.{same_enum}
use Rattle.dm_collector.specs.Enums.{enum_vis, seen_by}
use Rattle.dm_collector.proofs.enums.enum_visibilities.Given as goal

abbrev pub invariant-loop-name : goal.invariant-loop-name
invariant-loop-name l = (e : EnumId) → fold (λ o n. option_or (seen_by n e) o) (lookup (same_enum e) l.enums.entries) (drop l.name-index l.names) ≡ enum_vis l.names e
