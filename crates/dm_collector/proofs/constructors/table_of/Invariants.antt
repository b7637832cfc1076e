use Rattle.std.proofs.Common.{◌≡◌, drop}
use Rattle.std.specs.List.{fold}
use Rattle.std.specs.Map.{lookup}
use Rattle.std.specs.Option.{option_or}
use Rattle.dm_base.specs.declared.ids.EnumVariantId.{EnumVariantId}
use Rattle.dm_imports.specs.Declarations.{same_variant}
use Rattle.dm_collector.specs.Constructors.{constructor_vis, if_same}
use Rattle.dm_collector.proofs.constructors.table_of.Given as goal

abbrev pub invariant-loop-constructor : goal.invariant-loop-constructor
invariant-loop-constructor l =
    (v : EnumVariantId) → fold (λ o c. option_or (if_same v c) o) (lookup (same_variant v) l.table.entries) (drop l.constructor-index l.constructors)
    ≡ constructor_vis l.constructors v
