use Rattle.std.proofs.Common.{[], ap, subst, sym}
use Rattle.dm_maps.specs.World.{World, scope_of}
use Rattle.dm_scope.specs.Shows.{Shows}
use Rattle.crate_tables.proofs.declared_world.declared_world.Goals as goal

pub declare_all-requires-clause-empty : goal.declare_all-requires-clause-empty
declare_all-requires-clause-empty c = λ m.
    subst (λ s. Shows s c.new-globs.result m []) (sym (ap (λ (w : World). scope_of w m) c.world_of-world.ensures))
    (c.requires.empty c.new-globs.result m (c.new-globs.ensures.shown m))
