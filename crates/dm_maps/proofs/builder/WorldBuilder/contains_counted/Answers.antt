use Rattle.std.proofs.Common.{◌<◌, ◌∙◌, length, sym, subst, ap}
use Rattle.dm_base.specs.Tree.{chain, is_among}
use Rattle.dm_maps.specs.Ancestry.{moves}
use Rattle.dm_maps.specs.Trees.{tree_of}
use Rattle.dm_maps.specs.World.{World}
use Rattle.dm_maps.proofs.LadderLemmas.{chain-listed, moves-listed}
use Rattle.dm_maps.specs.Tables.{tables_of}
use Rattle.dm_maps.proofs.builder.WorldBuilder.contains_counted.Goals as goal

pub returns-clause-answer : goal.returns-clause-answer
returns-clause-answer c =
    let w : World = tables_of c.self.inside in
    let known = subst (λ (x : World). c.args.m.0 < length x.places) (sym c.self.view_is) c.requires.known in
    c.contains_counted.ensures.answer
    ∙ chain-listed w c.self.invariant.0.0 c.self.inside.ladders c.self.invariant.1.ladders c.args.a c.args.m known
    ∙ ap (λ (x : World). is_among c.args.a (chain (tree_of x) c.args.m)) c.self.view_is

pub returns-clause-moves : goal.returns-clause-moves
returns-clause-moves c =
    let w : World = tables_of c.self.inside in
    let known = subst (λ (x : World). c.args.m.0 < length x.places) (sym c.self.view_is) c.requires.known in
    let ancestor = subst (λ (x : World). c.args.a.0 < length x.places) (sym c.self.view_is) c.requires.ancestor in
    c.contains_counted.ensures.moves
    ∙ moves-listed w c.self.invariant.0.0 c.self.inside.ladders c.self.invariant.1.ladders c.args.a c.args.m ancestor known
    ∙ ap (λ (x : World). moves (tree_of x) c.args.a c.args.m) c.self.view_is
