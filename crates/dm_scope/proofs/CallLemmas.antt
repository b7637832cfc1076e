-- The macro calls of a scope.
use Rattle.std.proofs.Common.{◌≡◌, ◌∙◌, ◌++◌, List, [], ◌∷◌, map, refl, ap}
use Rattle.std.specs.List.{filter_map, flat_map}
use Rattle.smallvec.specs.SmallVec.{SmallVec}
use Rattle.dm_base.specs.declared.source.AstId.{AstId}
use Rattle.dm_scope.specs.Derives.{derive_of, derives_of}
use Rattle.dm_scope.specs.MacroCalls.{call_in, calls_in, attribute_calls, item_calls}
use Rattle.dm_scope.specs.declared.derives.DeriveMacroInvocation.{DeriveMacroInvocation}

attribute_calls-is : (ds : List DeriveMacroInvocation) → attribute_calls ds ≡ calls_in (map derive_of ds)
attribute_calls-is [] = refl
attribute_calls-is (d ∷ ds) = ap (λ l. filter_map call_in d.derive_call_ids.items ++ l) (attribute_calls-is ds)

-- the calls of the lists of a table are those of the attributes that it has
pub item_calls_is : (es : List (AstId × SmallVec DeriveMacroInvocation)) → item_calls (map (λ e. e.1) es) ≡ flat_map (λ e. calls_in e.1) (derives_of es)
item_calls_is [] = refl
item_calls_is (e ∷ es) =
    ap (λ l. l ++ item_calls (map (λ f. f.1) es)) (attribute_calls-is e.1.items)
    ∙ ap (λ l. calls_in (map derive_of e.1.items) ++ l) (item_calls_is es)
