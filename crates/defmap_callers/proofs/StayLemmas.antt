-- A crate has the extern prelude that it had, where all extern preludes are the same.
use Rattle.std.proofs.Common.{◌≡◌, ◌∙◌, ℕ, List, Some, ap, slice_get, sym}
use Rattle.dm_def_map.specs.Maps.{LocalMap}

one : (L K : LocalMap) → Some L ≡ Some K → L ≡ K
one L K same = cc

pub same-local : (k : ℕ) (ls ms : List LocalMap) (L K : LocalMap) → slice_get ls k ≡ Some L → slice_get ms k ≡ Some K → ms ≡ ls → L ≡ K
same-local k ls ms L K old new same = one L K (sym old ∙ ap (λ l. slice_get l k) (sym same) ∙ new)
