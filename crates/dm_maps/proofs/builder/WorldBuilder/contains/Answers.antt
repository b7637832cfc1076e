use Rattle.std.proofs.Common.{◌∙◌, sym, subst}
use Rattle.dm_maps.specs.Trees.{IsWorld}
use Rattle.dm_maps.specs.World.{World}
use Rattle.dm_maps.proofs.LadderLemmas.{among-unknown}
use Rattle.dm_maps.proofs.builder.WorldBuilder.contains.Goals as goal

pub returns-then-not-has : goal.returns-then-not-has
returns-then-not-has c =
    let w : World = c.args.self.now in
    sym (among-unknown w (subst IsWorld c.self.view_is c.self.invariant.0.0) c.args.a c.args.m c.requires (sym c.has.ensures ∙ c.if-not-has.true))
