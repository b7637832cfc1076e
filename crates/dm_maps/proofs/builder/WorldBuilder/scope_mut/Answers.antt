use Rattle.dm_maps.specs.Tables.{tables_of}
use Rattle.dm_maps.proofs.BuilderGrowth.{IsKept-scoped}
use Rattle.dm_maps.proofs.builder.WorldBuilder.scope_mut.Goals as goal

pub invariant_of-self-lent : goal.invariant_of-self-lent
invariant_of-self-lent c = λ r.
    let place = c.in_ok-place.place in
    (λ s. IsKept-scoped (tables_of c.self.inside) c.self.inside.ladders c.self.inside.block_lists.items c.self.invariant place.map place.index s, c.self.invariant)
