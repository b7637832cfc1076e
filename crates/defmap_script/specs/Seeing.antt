-- Answers of the queries on visibility.
use Rattle.std.specs.Prelude.{◌&&◌, if◌then◌else◌, Bool, true, Option, Some, None, Result, Ok, Err, slice_get}
use Rattle.std.specs.Option.{option_map, option_map_or}
use Rattle.dm_base.specs.declared.ids.MapId.{MapId}
use Rattle.dm_base.specs.declared.visibility.Visibility.{Visibility}
use Rattle.dm_base.specs.declared.visibility.Visibility.TheVariants as vis
use Rattle.dm_base.specs.Tree.{sees}
use Rattle.dm_base.specs.Visibility.{max_of, min_of}
use Rattle.dm_maps.specs.declared.check.held.HeldId.TheVariants as held
use Rattle.dm_maps.specs.Known.{knows}
use Rattle.dm_maps.specs.Trees.{tree_of}
use Rattle.dm_maps.specs.World.{World}
use Rattle.defmap_script.specs.declared.build_words.MapName.{MapName}
use Rattle.defmap_script.specs.declared.build_words.MapName.TheVariants as named
use Rattle.defmap_script.specs.declared.engine.Reply.{Reply}
use Rattle.defmap_script.specs.declared.engine.Reply.TheVariants as reply
use Rattle.defmap_script.specs.declared.fault.Fault.{Fault}
use Rattle.defmap_script.specs.declared.fault.Fault.TheVariants.{Unknown}
use Rattle.defmap_script.specs.declared.seeing_lines.Sight.{Sight}
use Rattle.defmap_script.specs.declared.seeing_lines.Sight.TheVariants.{Sees, Max, Min}

-- whether all that a visibility names is the world's
abbrev pub knows_visibility : World → Visibility → Bool
knows_visibility w (vis.Module m e) = knows w (held.Module m)
knows_visibility w (vis.PubCrate k) = knows w (held.Crate k)
knows_visibility w vis.Public = true

-- the map of a name, where the world has it
abbrev pub map_of_name : World → MapName → Option MapId
map_of_name w (named.Crate k) = if knows w (held.Crate k) then Some (record { krate = k; block = None }) else None
map_of_name w (named.Block b) = option_map (λ m. m.id) (slice_get w.block_maps b.0)

-- the map in which two visibilities are compared, where it and all that they name are the world's
abbrev pub compares : World → MapName → Visibility → Visibility → Option MapId
compares w map one two = if knows_visibility w one && knows_visibility w two then map_of_name w map else None

-- a question that names what the world has not is refused
abbrev pub sight : World → Sight → Result Reply Fault
sight w (Sees v m) = if knows_visibility w v && knows w (held.Module m) then Ok (reply.Sees (sees (tree_of w) v m)) else Err Unknown
sight w (Max map one two) = option_map_or (λ id. Ok (reply.Compared (max_of (tree_of w) id one two))) (compares w map one two) (Err Unknown)
sight w (Min map one two) = option_map_or (λ id. Ok (reply.Compared (min_of (tree_of w) id one two))) (compares w map one two) (Err Unknown)
