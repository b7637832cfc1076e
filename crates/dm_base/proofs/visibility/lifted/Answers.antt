use Rattle.std.proofs.Common.{◌≡◌, Bool, cond, Some, Option, List, find, unwrap_or, sym, ap, ◌∙◌}
use Rattle.dm_base.specs.declared.ids.ModuleId.{ModuleId}
use Rattle.dm_base.specs.Tree.{outward, outside, is_lifted}
use Rattle.dm_base.specs.TreeLaws.{outward-outside}
use Rattle.dm_base.proofs.SeesLemmas.{outward_within-stays}
use Rattle.dm_base.proofs.visibility.lifted.Goals as goal

pub lift-preserved : goal.lift-preserved
lift-preserved g c =
    let t = g.T.ModuleTree.tree c.args.tree.now in
    let tree = c.outside.ensures.lawful in
    let at = c.lift.at in
    let outer = c.in-Some.outer in
    let to = c.args.to in
    let passes = is_lifted t c.args.map in
    let is : outside t at ≡ Some outer = sym c.in-Some.ensures.value in
    let known = c.lift.invariant.known in
    record {
      known = tree.outside_known at outer known is;
      same = ap (λ (b : Bool). unwrap_or (cond b (Some at) (find passes (outward t outer))) to) (sym c.if-is_lifted.false ∙ c.is_lifted.ensures) ∙ ap (λ (l : List ModuleId). unwrap_or (find passes l) to) (sym (outward-outside t tree at outer known is)) ∙ c.lift.invariant.same;
    }

pub returns-then-is_lifted : goal.returns-then-is_lifted
returns-then-is_lifted g c =
    let t = g.T.ModuleTree.tree c.args.tree.now in
    ap (λ (o : Option ModuleId). unwrap_or o c.args.to) (sym (outward_within-stays t (is_lifted t c.args.map) c.lift.at.0 c.lift.at (sym c.is_lifted.ensures ∙ c.if-is_lifted.true))) ∙ c.lift.invariant.same
