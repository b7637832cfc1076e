-- The variants of each enum, by name, in order of number.
use Rattle.std.specs.Prelude.{◌≡◌, nat_eq, Bool, ℕ, List, [], ◌∷◌, ◌++◌, None, IfSome, map, slice_get}
use Rattle.std.specs.Option.{option_map_or}
use Rattle.std.specs.Map.{lookup}
use Rattle.indexmap.specs.IndexMap.{insert_entry, set_value_at}
use Rattle.dm_base.specs.declared.ids.EnumId.{EnumId}
use Rattle.dm_base.specs.declared.ids.EnumVariantId.{EnumVariantId}
use Rattle.dm_base.specs.declared.fields_shape.FieldsShape.{FieldsShape}
use Rattle.dm_base.specs.Names.{Name, find_name}

abbrev pub same_enum : EnumId → EnumId → Bool
same_enum a b = nat_eq a.0 b.0

-- the variants of each enum that has one, by name
abbrev pub Variants : Type 0
Variants = List (Name × (EnumVariantId × FieldsShape))

abbrev pub Enums : Type 0
Enums = List (EnumId × Variants)

abbrev pub variants_in : Enums → EnumId → Variants
variants_in es e = option_map_or (λ vs. vs) (lookup (same_enum e) es) []

-- with one more, the last of its enum's; an enum that had none comes last
abbrev pub enums_with_variant : Enums → EnumId → Name → EnumVariantId × FieldsShape → Enums
enums_with_variant es e n v = insert_entry same_enum es e (variants_in es e ++ (n, v) ∷ [])

-- the variants of the enum at index i have none of that name
abbrev pub IsFreeAt : Enums → ℕ → Name → Type 0
IsFreeAt es i n = IfSome (slice_get (map (λ e. e.1) es) i) (λ vs. find_name n vs ≡ None)

-- with one more, the last of the enum at index i
abbrev pub enums_with_variant_at : Enums → ℕ → Name → EnumVariantId × FieldsShape → Enums
enums_with_variant_at es i n v = option_map_or (λ vs. set_value_at es i (vs ++ (n, v) ∷ [])) (slice_get (map (λ e. e.1) es) i) es
