use Rattle.std.proofs.Common.{◌∙◌, ap, cond, refl, subst, IsSome, Some}
use Rattle.dm_base.specs.Names.{same_name}
use Rattle.dm_imports.specs.Slots.{name_at, same_place}
use Rattle.dm_imports.proofs.TableLemmas.{name_at-with, named}
use Rattle.dm_imports.proofs.name_table.NameTable.put.Goals as goal

pub returns-in_ok-put_name-in-Some : goal.returns-in_ok-put_name-in-Some
returns-in_ok-put_name-in-Some g c k n =
    let set = c.put_name.new.names in
    let name = c.in_ok-key.key in
    name_at-with c.args.m c.self.inside.modules.entries (c.get_mut.follows.lender set).entries set ((c.get_mut.follows.holds set).3 (subst IsSome c.in-Some.ensures.value refl)).0 c.args.name.now c.args.value
    (λ x. c.in_ok-put_name-in-Some.ensures x ∙ ap (λ y. cond (same_name y x) (Some c.args.value) (named x (Some c.in-Some.names.now))) c.in_ok-key.ensures
    ∙ ap (λ o. cond (same_name c.args.name.now x) (Some c.args.value) (named x o)) c.in-Some.ensures.value) k n
    ∙ ap (λ t. cond (same_place c.args.m c.args.name.now k n) (Some c.args.value) (name_at t k n)) c.self.view_is
