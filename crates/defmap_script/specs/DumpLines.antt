-- Grammar of the lines that ask for dumps: the words after the first of each.
use Rattle.std.specs.Prelude.{List, [], ◌∷◌, Option, None}
use Rattle.std.specs.Option.{option_map}
use Rattle.dm_base.specs.Names.{Name}
use Rattle.defmap_script.specs.declared.dump_lines.Dumping.{Dumping}
use Rattle.defmap_script.specs.declared.dump_lines.Dumping.TheVariants.{Scope, Map}
use Rattle.defmap_script.specs.BuildWords.{map_name}
use Rattle.defmap_script.specs.Words.{number}

abbrev pub dump_line : List Name → Option Dumping
dump_line (m ∷ []) = option_map (λ n. Scope (record { 0 = n })) (number m)
dump_line _ = None

abbrev pub dumpmap_line : List Name → Option Dumping
dumpmap_line (m ∷ []) = option_map (λ map. Map map) (map_name m)
dumpmap_line _ = None
