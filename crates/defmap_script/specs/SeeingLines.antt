-- Grammar of the lines that ask about visibility: the words after the first of each.
use Rattle.std.specs.Prelude.{List, [], ◌∷◌, Option, None}
use Rattle.std.specs.Option.{option_map, option_and_then}
use Rattle.dm_base.specs.Names.{Name}
use Rattle.dm_base.specs.declared.visibility.Visibility.{Visibility}
use Rattle.defmap_script.specs.declared.build_words.MapName.{MapName}
use Rattle.defmap_script.specs.declared.seeing_lines.Sight.{Sight}
use Rattle.defmap_script.specs.declared.seeing_lines.Sight.TheVariants.{Sees, Max, Min}
use Rattle.defmap_script.specs.BuildWords.{map_name}
use Rattle.defmap_script.specs.Words.{number, visibility}

abbrev pub sees_line : List Name → Option Sight
sees_line (v ∷ m ∷ []) = option_and_then (λ vis. option_map (λ n. Sees vis (record { 0 = n })) (number m)) (visibility v)
sees_line _ = None

-- two visibilities
abbrev pub two : List Name → Option (Visibility × Visibility)
two (v ∷ w ∷ []) = option_and_then (λ one. option_map (λ other. (one, other)) (visibility w)) (visibility v)
two _ = None

-- a map and two visibilities
abbrev pub two_in_map : List Name → Option (MapName × Visibility × Visibility)
two_in_map [] = None
two_in_map (m ∷ ws) = option_and_then (λ map. option_map (λ p. (map, p.0, p.1)) (two ws)) (map_name m)

abbrev pub max_line : List Name → Option Sight
max_line ws = option_map (λ p. Max p.0 p.1 p.2) (two_in_map ws)

abbrev pub min_line : List Name → Option Sight
min_line ws = option_map (λ p. Min p.0 p.1 p.2) (two_in_map ws)
