use Rattle.std.proofs.Common.{◌≡◌, true, sym, ◌∙◌}
use Rattle.dm_base.specs.Tree.{is_ancestor}
use Rattle.dm_base.specs.Visibility.{both_lie_in}
use Rattle.dm_base.proofs.SeesLemmas.{lie-turned, with-outer, of-outer}
use Rattle.dm_base.proofs.visibility.most_and_least_of_modules.Goals as goal

pub returns-then-is_ancestor : goal.returns-then-is_ancestor
returns-then-is_ancestor g c =
    let t = g.T.ModuleTree.tree c.args.tree.now in
    let a = c.args.one in
    let b = c.args.two in
    let lie : both_lie_in t c.args.map a.0 b.0 ≡ true = sym c.both_lie_in.ensures ∙ c.if-not-both_lie_in.false in
    let above : is_ancestor t b.0 a.0 ≡ true = sym c.is_ancestor.ensures.value ∙ c.if-is_ancestor.true in
    with-outer t c.is_ancestor.ensures.lawful c.args.map a.0 b.0 a.1 b.1 c.requires.one c.requires.two lie above

pub returns-then-is_ancestor-2 : goal.returns-then-is_ancestor-2
returns-then-is_ancestor-2 g c =
    let t = g.T.ModuleTree.tree c.args.tree.now in
    let a = c.args.one in
    let b = c.args.two in
    let lie : both_lie_in t c.args.map b.0 a.0 ≡ true = lie-turned t c.args.map a.0 b.0 (sym c.both_lie_in.ensures ∙ c.if-not-both_lie_in.false) in
    let above : is_ancestor t a.0 b.0 ≡ true = sym c.is_ancestor-2.ensures.value ∙ c.if-is_ancestor-2.true in
    of-outer t c.is_ancestor.ensures.lawful c.args.map b.0 a.0 b.1 a.1 c.requires.two c.requires.one lie above
