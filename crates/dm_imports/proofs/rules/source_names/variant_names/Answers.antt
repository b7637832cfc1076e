use Rattle.std.proofs.Common.{◌∙◌, ◌++◌, [], List, Option, ap, map, subst, sym}
use Rattle.std.specs.List.{Contains}
use Rattle.std.specs.Option.{option_map_or}
use Rattle.dm_def_map.specs.Variants.{Variants}
use Rattle.dm_base.specs.Names.{Name}
use Rattle.dm_scope.specs.Sorted.{seen}
use Rattle.dm_imports.proofs.rules.source_names.variant_names.Goals as goal

pub returns : goal.returns
returns c = λ n has.
    let there = ap (λ (o : Option Variants). option_map_or (map (λ v. v.0)) o []) (sym c.variants.ensures.value ∙ c.in-Some.is) in
    let listed = subst (λ (l : List Name). Contains l n) there has in
    let same = c.in_ok-add_variants.ensures ∙ (λ i. seen (c.new-names.ensures.items i) ++ map (λ v. v.0) c.in-Some.variants) in
    subst (λ (l : List Name). Contains l n) (sym same) listed
