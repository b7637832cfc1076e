use Rattle.std.proofs.Common.{◌≡◌, ◌<◌, ◌-◌, ◌∙◌, rules, sym, Some}
use Rattle.crate_items.specs.ModuleVisibilities.{parent_of}
use Rattle.crate_items.proofs.BelowLemmas.{below_here, below_next}
use Rattle.crate_items.proofs.modules.module_visibility.below.Goals as goal

pub returns-in-Some : goal.returns-in-Some
returns-in-Some c =
    let at : parent_of c.args.modules.now c.loop.around ≡ Some c.in-Some.parent = search rules in
    let same : c.in-Some.parent ≡ c.args.outer = search rules in
    sym (below_here (c.args.number - c.loop.counter) c.args.modules.now c.args.outer c.loop.around c.in-Some.parent at same) ∙ c.loop.invariant

pub loop-preserved : goal.loop-preserved
loop-preserved c =
    let at : parent_of c.args.modules.now c.loop.around ≡ Some c.in-Some.parent = search rules in
    let other : c.in-Some.parent ≡ c.args.outer → ⊥ = search rules in
    let less : c.loop.counter < c.args.number = search rules in
    sym (below_next c.args.number c.loop.counter c.args.modules.now c.args.outer c.loop.around c.in-Some.parent less at other) ∙ c.loop.invariant
