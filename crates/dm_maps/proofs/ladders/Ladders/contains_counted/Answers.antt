use Rattle.std.proofs.Common.{◌-◌, ap, ◌∙◌}
use Rattle.dm_base.specs.Tree.{chain, is_among}
use Rattle.dm_maps.specs.Ancestry.{moves}
use Rattle.dm_maps.specs.JumpPointers.{tree_above, depth_at, climb, tree_of}
use Rattle.dm_maps.proofs.MoveLemmas.{not-among, no-moves, is-among, all-moves}
use Rattle.dm_maps.proofs.RowLemmas.{listed}
use Rattle.dm_maps.proofs.ladders.Ladders.contains_counted.Goals as goal

pub returns-then-inner-outer-clause-answer : goal.returns-then-inner-outer-clause-answer
returns-then-inner-outer-clause-answer c =
    let ls = c.self.inside.ladders.items in
    let a = c.args.a in
    let m = c.args.m in
    let outer = c.depth_at-outer.ensures ∙ ap (λ x. depth_at x a.0) c.deref.ensures.value in
    let inner = c.depth_at-inner.ensures ∙ ap (λ x. depth_at x m.0) c.deref-2.ensures.value in
    not-among ls c.self.invariant a m c.depth_at-outer.result c.depth_at-inner.result (listed ls c.args.self.now a c.self.view_is c.requires.ancestor) (listed ls c.args.self.now m c.self.view_is c.requires.module) outer inner c.if-inner-outer.true
    ∙ ap (λ us. is_among a (chain (tree_above us) m)) c.self.view_is

pub returns-then-inner-outer-clause-moves : goal.returns-then-inner-outer-clause-moves
returns-then-inner-outer-clause-moves c =
    let ls = c.self.inside.ladders.items in
    let a = c.args.a in
    let m = c.args.m in
    let outer = c.depth_at-outer.ensures ∙ ap (λ x. depth_at x a.0) c.deref.ensures.value in
    let inner = c.depth_at-inner.ensures ∙ ap (λ x. depth_at x m.0) c.deref-2.ensures.value in
    no-moves ls c.self.invariant a m c.depth_at-outer.result c.depth_at-inner.result (listed ls c.args.self.now a c.self.view_is c.requires.ancestor) (listed ls c.args.self.now m c.self.view_is c.requires.module) outer inner c.if-inner-outer.true
    ∙ ap (λ us. moves (tree_above us) a m) c.self.view_is

pub returns-clause-answer : goal.returns-clause-answer
returns-clause-answer c =
    let ls = c.self.inside.ladders.items in
    let a = c.args.a in
    let m = c.args.m in
    let outer = c.depth_at-outer.ensures ∙ ap (λ x. depth_at x a.0) c.deref.ensures.value in
    let inner = c.depth_at-inner.ensures ∙ ap (λ x. depth_at x m.0) c.deref-2.ensures.value in
    let at = c.moved-at.ensures.at ∙ ap (λ x. (climb (tree_of x) (c.depth_at-inner.result - c.depth_at-outer.result) m).0) c.deref-3.ensures.value in
    is-among ls c.self.invariant a m c.depth_at-outer.result c.depth_at-inner.result (listed ls c.args.self.now a c.self.view_is c.requires.ancestor) (listed ls c.args.self.now m c.self.view_is c.requires.module) outer inner c.if-inner-outer.false c.moved-at.result.0 at
    ∙ ap (λ us. is_among a (chain (tree_above us) m)) c.self.view_is

pub returns-clause-moves : goal.returns-clause-moves
returns-clause-moves c =
    let ls = c.self.inside.ladders.items in
    let a = c.args.a in
    let m = c.args.m in
    let outer = c.depth_at-outer.ensures ∙ ap (λ x. depth_at x a.0) c.deref.ensures.value in
    let inner = c.depth_at-inner.ensures ∙ ap (λ x. depth_at x m.0) c.deref-2.ensures.value in
    all-moves ls c.self.invariant a m c.depth_at-outer.result c.depth_at-inner.result (listed ls c.args.self.now a c.self.view_is c.requires.ancestor) (listed ls c.args.self.now m c.self.view_is c.requires.module) outer inner c.moved-at.result.1 c.moved-at.ensures.moves
    ∙ ap (λ us. moves (tree_above us) a m) c.self.view_is
