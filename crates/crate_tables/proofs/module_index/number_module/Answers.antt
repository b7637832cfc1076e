use Rattle.std.proofs.Common.{rules, ◌≡◌, ◌∙◌, Some, ap, if◌then◌else◌, sym}
use Rattle.std.specs.Prelude.{Option}
use Rattle.crate_items.specs.declared.modules.declared_module.Declaration.{Declaration}
use Rattle.crate_tables.specs.ModuleIndexes.{declares, number_of}
use Rattle.crate_tables.proofs.module_index.number_module.Goals as goal

pub returns-in_ok-insert-in-Some : goal.returns-in_ok-insert-in-Some
returns-in_ok-insert-in-Some c =
    let at : c.args.declared.now.declaration ≡ Some c.in-Some.declaration.now = search rules in
    λ x. c.in_ok-insert-in-Some.ensures.updates.0 (x.home, x.item)
    ∙ sym (ap (λ (o : Option Declaration). if declares x o then Some c.args.number else number_of c.args.numbers.now.entries x) at)
