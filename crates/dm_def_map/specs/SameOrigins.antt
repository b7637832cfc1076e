-- Equality of module origins is structural.
use Rattle.std.specs.Prelude.{◌≡◌, true}
use Rattle.std.proofs.Common.{rules}
use Rattle.std.specs.Cmp.{booleans_Decides}
use Rattle.std.proofs.lemmas.Bool.{and_parts}
use Rattle.dm_base.specs.contracts.value_eq.EditionedFileIdValueEq.TheImpl.Laws as file_value
use Rattle.dm_base.specs.contracts.value_eq.FileAstIdValueEq.TheImpl.Laws as ast_value
use Rattle.dm_base.specs.contracts.value_eq.TreeIdValueEq.TheImpl.Laws as tree_value
use Rattle.dm_def_map.specs.contracts.modules.module_origin.ModuleOriginPartialEq.TheImpl as origin_eq
use Rattle.dm_def_map.specs.declared.modules.module_origin.ModuleOrigin.{ModuleOrigin}
use Rattle.dm_def_map.specs.declared.modules.module_origin.ModuleOrigin.TheVariants.{File}

pub origins_same : (x y : ModuleOrigin) → origin_eq.ghosts.eq x y ≡ true → x ≡ y
origins_same (File m a t f) (File n b u g) e =
    let first = and_parts _ _ e in
    let second = and_parts _ _ first.1 in
    let third = and_parts _ _ second.1 in
    λ i. File ((booleans_Decides m n).0 first.0 i) (ast_value.same-law a b second.0 i) (tree_value.same-law t u third.0 i) (file_value.same-law f g third.1 i)
origins_same x y e = Prim.search rules
