use Rattle.defmap_callers.proofs.program.world.Goals as goal

pub push_res-requires : goal.push_res-requires
push_res-requires c = record { known = c.knows_res.ensures.0 c.if-not-knows_res.false }
