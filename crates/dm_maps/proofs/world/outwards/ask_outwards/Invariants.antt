use Rattle.std.proofs.Common.{Option, length}
use Rattle.dm_maps.specs.Outwards.{maps_outwards, AsksMaps, MayAskMaps}
use Rattle.dm_maps.proofs.world.outwards.ask_outwards.Given as goal

-- the callback may be called with the maps that are left, and what it answers for them, it answers for all
abbrev pub invariant-maps : goal.invariant-maps
invariant-maps g l =
    MayAskMaps l.world (goal.F-pre g) (goal.F-step g) (maps_outwards l.world l.map l.at) l.f
    × ((r : Option _) (last : _) → AsksMaps (goal.F-step g) (maps_outwards l.world l.map l.at) l.f r last → AsksMaps (goal.F-step g) (maps_outwards l.world l.fn.first l.fn.m) l.fn.f r last)

abbrev pub decreases-maps : goal.decreases-maps
decreases-maps g l = length (maps_outwards l.world l.map l.at)
