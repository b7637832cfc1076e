use Rattle.std.proofs.Common.{◌≡◌, ◌∙◌, Some, IsSome, ap}
use Rattle.std.specs.Option.{option_copied}
use Rattle.dm_def_map.specs.Maps.{Map, module_at}
use Rattle.dm_maps.specs.World.{World, numbered_map, map_of}
use Rattle.dm_maps.proofs.MapLemmas.{map-own, map-lists, map-there, of_found, is_found}
use Rattle.dm_maps.specs.MapFacts.{IsMapOf}
use Rattle.dm_maps.proofs.MapFacts.{IsMapOf-checked}
use Rattle.dm_maps.proofs.world.World.map_of.Goals as goal
use Rattle.dm_maps.proofs.world.World.map_of.Goals.{After-map_of}

there : (c : After-map_of) → option_copied c.map_of.result ≡ map_of c.args.self.now c.args.m
there c = c.map_of.ensures ∙ ap (λ (w : World). map_of w c.args.m) c.tables.ensures.value

pub returns-clause-own : goal.returns-clause-own
returns-clause-own c =
    let w = c.args.self.now in
    of_found c.map_of.result (map_of w c.args.m) (λ (x : Map). numbered_map w x.id ≡ Some x) (there c) (map-own w c.tables.ensures.world.lawful c.args.m)

pub returns-clause-lies : goal.returns-clause-lies
returns-clause-lies c =
    let w = c.args.self.now in
    of_found c.map_of.result (map_of w c.args.m) (λ (x : Map). IsSome (module_at x.modules c.args.m)) (there c) (map-lists w c.tables.ensures.world.lawful c.args.m)

pub returns-clause-there : goal.returns-clause-there
returns-clause-there c = λ known. is_found c.map_of.result (map_of c.args.self.now c.args.m) (there c) (map-there c.args.self.now c.tables.ensures.world.lawful c.args.m known)

pub returns-clause-facts : goal.returns-clause-facts
returns-clause-facts c =
    let w = c.args.self.now in
    of_found c.map_of.result (map_of w c.args.m) (IsMapOf w) (there c) (λ x e. IsMapOf-checked w c.tables.ensures.world x (map-own w c.tables.ensures.world.lawful c.args.m x e))
