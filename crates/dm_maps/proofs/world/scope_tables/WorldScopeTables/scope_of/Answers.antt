use Rattle.std.proofs.Common.{◌≡◌, ◌∙◌, ap, is_some}
use Rattle.std.specs.Option.{option_copied}
use Rattle.dm_maps.specs.ScopeTables.{scope_tables}
use Rattle.dm_maps.specs.World.{World, scope_if_known}
use Rattle.dm_maps.proofs.RecordLemmas.{scope-numbered, scope-within, some-copied}
use Rattle.dm_maps.proofs.world.scope_tables.WorldScopeTables.scope_of.Goals as goal
use Rattle.dm_maps.proofs.world.scope_tables.WorldScopeTables.scope_of.Goals.{After-scope_of}

found : (c : After-scope_of) → option_copied c.scope_of.result ≡ scope_if_known c.args.self.now c.args.m
found c = c.scope_of.ensures ∙ ap (λ (w : World). scope_if_known w c.args.m) c.tables.ensures.value

pub returns-clause-value : goal.returns-clause-value
unfolding scope_tables
returns-clause-value c = found c ∙ scope-numbered c.args.self.now c.tables.ensures.world.lawful c.args.m

pub returns-clause-there : goal.returns-clause-there
returns-clause-there c = some-copied c.scope_of.result ∙ ap is_some (found c) ∙ scope-within c.args.self.now c.tables.ensures.world.lawful c.args.m
