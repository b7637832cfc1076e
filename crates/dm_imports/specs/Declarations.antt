-- What of declarations paths go by, and no table of a world has.
use Rattle.std.specs.Prelude.{Bool, List, nat_eq}
use Rattle.std.specs.Map.{lookup}
use Rattle.std.specs.Option.{option_map_or}
use Rattle.dm_base.specs.declared.ids.EnumId.{EnumId}
use Rattle.dm_base.specs.declared.ids.EnumVariantId.{EnumVariantId}
use Rattle.dm_base.specs.declared.ids.ModuleId.{ModuleId}
use Rattle.dm_base.specs.declared.visibility.Visibility.{Visibility}
use Rattle.dm_base.specs.declared.visibility.Visibility.TheVariants.{Public}
use Rattle.dm_def_map.specs.Variants.{same_enum}

-- Who sees each enum; who sees the constructors of variants of enums that all see, where not all do; and the modules that
-- have no preludes.
pub record Declarations : Type 0 where
  pub enums : List (EnumId × Visibility)
  pub constructors : List (EnumVariantId × Visibility)
  pub bare_modules : List ModuleId

-- an enum of which nothing is said is seen by all
abbrev pub vis_in : List (EnumId × Visibility) → EnumId → Visibility
vis_in es e = option_map_or (λ v. v) (lookup (same_enum e) es) Public

abbrev pub same_variant : EnumVariantId → EnumVariantId → Bool
same_variant a b = nat_eq a.0 b.0
