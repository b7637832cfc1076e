-- Records of values, as those of any import.
use Rattle.std.proofs.Common.{◌≡◌, List, [], ◌∷◌, map, Some, refl, ap, ◌∙◌, cond}
use Rattle.std.specs.Map.{lookup}
use Rattle.dm_base.specs.Imports.{widened}
use Rattle.dm_base.specs.Sameness.{same_import, same_value_import}
use Rattle.dm_base.specs.declared.imports.ImportId.{ImportId}
use Rattle.dm_base.specs.declared.imports.ImportOrDef.{ImportOrDef}
use Rattle.dm_base.specs.declared.imports.ImportOrExternCrate.TheVariants as wide
use Rattle.dm_base.specs.declared.imports.ImportOrGlob.{ImportOrGlob}
use Rattle.dm_base.specs.declared.imports.ImportOrGlob.TheVariants as narrow

-- an import of values is looked up as it is seen among all imports
same_widened : (i : ImportId) (x : ImportOrGlob) → same_value_import (narrow.Import i) x ≡ same_import (wide.Import i) (widened x)
same_widened i (narrow.Glob g) = refl
same_widened i (narrow.Import j) = refl

pub lookup_widened : (i : ImportId) (es : List (ImportOrGlob × ImportOrDef))
    → lookup (same_value_import (narrow.Import i)) es ≡ lookup (same_import (wide.Import i)) (map (λ e. (widened e.0, e.1)) es)
lookup_widened i [] = refl
lookup_widened i (e ∷ es) = ap (λ b. cond b (Some e.1) (lookup (same_value_import (narrow.Import i)) es)) (same_widened i e.0) ∙ ap (cond (same_import (wide.Import i) (widened e.0)) (Some e.1)) (lookup_widened i es)
