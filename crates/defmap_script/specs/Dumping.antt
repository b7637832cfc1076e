-- Answers of the lines that ask for dumps.
use Rattle.std.specs.Prelude.{◌≡◌, if◌then◌else◌, Option, Result, Ok, Err, MatchResult, slice_get}
use Rattle.std.specs.Option.{option_map_or}
use Rattle.dm_maps.specs.declared.check.held.HeldId.TheVariants as held
use Rattle.dm_def_map.specs.Maps.{Map}
use Rattle.dm_maps.specs.Known.{knows}
use Rattle.dm_maps.specs.MapDumps.{scope_text, map_dump}
use Rattle.dm_maps.specs.ScopeTables.{scope_tables}
use Rattle.dm_maps.specs.World.{World, crate_map, scope_of}
use Rattle.defmap_script.specs.declared.build_words.MapName.{MapName}
use Rattle.defmap_script.specs.declared.build_words.MapName.TheVariants as named
use Rattle.defmap_script.specs.declared.dump_lines.Dumping.{Dumping}
use Rattle.defmap_script.specs.declared.dump_lines.Dumping.TheVariants as asked
use Rattle.defmap_script.specs.declared.engine.Reply.{Reply}
use Rattle.defmap_script.specs.declared.engine.Reply.TheVariants.{Dumped}
use Rattle.defmap_script.specs.declared.fault.Fault.{Fault}
use Rattle.defmap_script.specs.declared.fault.Fault.TheVariants.{Unknown}
use Rattle.defmap_script.specs.Faults.{IsRefused}

-- the map of a name, where the world has it
abbrev pub named_map : World → MapName → Option Map
named_map w (named.Crate k) = crate_map w k
named_map w (named.Block b) = slice_get w.block_maps b.0

-- a question that names what the world has not is refused
abbrev pub dumped : World → Dumping → Result Reply Fault
dumped w (asked.Scope m) = if knows w (held.Module m) then Ok (Dumped (scope_text (scope_tables w) (scope_of w m))) else Err Unknown
dumped w (asked.Map name) = option_map_or (λ map. Ok (Dumped (map_dump w map))) (named_map w name) (Err Unknown)

-- a call that answers a question, or is refused
abbrev pub Dumps : World → Dumping → Result Reply Fault → Type 0
Dumps w d r = MatchResult r (λ reply. dumped w d ≡ Ok reply) (IsRefused (λ s. dumped w d ≡ s))
