-- Derive helpers of items, with one more on an item.
use Rattle.std.specs.Prelude.{ℕ, List, [], ◌∷◌, ◌++◌, map, slice_get}
use Rattle.std.specs.Option.{option_map_or}
use Rattle.std.specs.Map.{lookup}
use Rattle.indexmap.specs.IndexMap.{insert_entry, set_value_at}
use Rattle.dm_base.specs.declared.source.AstId.{AstId}
use Rattle.dm_base.specs.Sameness.{same_ast}
use Rattle.dm_def_map.specs.Helpers.{Helper, Helpers}

-- those of one item
abbrev pub helpers_at : Helpers → AstId → List Helper
helpers_at es a = option_map_or (λ hs. hs) (lookup (same_ast a) es) []

-- with one more, the last of its item; an item that had none comes last
abbrev pub helpers_with : Helpers → AstId → Helper → Helpers
helpers_with es a h = insert_entry same_ast es a (helpers_at es a ++ h ∷ [])

-- with one more, the last of the item at index i
abbrev pub helpers_with_at : Helpers → ℕ → Helper → Helpers
helpers_with_at es i h = option_map_or (λ hs. set_value_at es i (hs ++ h ∷ [])) (slice_get (map (λ e. e.1) es) i) es
