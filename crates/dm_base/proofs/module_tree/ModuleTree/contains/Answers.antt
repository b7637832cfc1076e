use Rattle.std.proofs.Common.{◌≡◌, Bool, ◌||◌, Some, sym, ap, ◌∙◌}
use Rattle.dm_base.specs.Tree.{chain, is_among, containing}
use Rattle.dm_base.specs.TreeLaws.{chain-containing}
use Rattle.dm_base.proofs.module_tree.ModuleTree.contains.Goals as goal

pub loop-a-preserved : goal.loop-a-preserved
loop-a-preserved g c =
    let t = g.Self.ModuleTree.tree c.args.self.now in
    let tree = c.containing.ensures.lawful in
    let at = c.loop-a.at in
    let outer = c.in-Some.outer in
    let is : containing t at ≡ Some outer = sym c.in-Some.ensures.value in
    let known = c.loop-a.invariant.known in
    let rest = is_among c.args.a (chain t outer) in
    record {
      known = tree.containing_known at outer known is;
      same = ap (λ (b : Bool). b || rest) (sym c.if-eq.false ∙ c.eq.ensures) ∙ ap (is_among c.args.a) (sym (chain-containing t tree at outer known is)) ∙ c.loop-a.invariant.same;
    }
