use Rattle.crate_tables.specs.CrateMaps.{child_world}
use Rattle.crate_tables.specs.NewModules.{origin_of}
use Rattle.crate_tables.specs.Numbers.{has_too_many, is_past}
use Rattle.crate_tables.proofs.ShortLemmas.{passed}
use Rattle.crate_tables.proofs.MoreSteps.{or-left, or-right, short-on}
use Rattle.std.proofs.Common.{◌∙◌, ◌||◌, ◌≡◌, sym, subst}
use Rattle.crate_tables.proofs.TableLemmas.{table-child}
use Rattle.crate_tables.specs.CrateTables.{IsTableOf}
use Rattle.crate_tables.proofs.crate_maps.add_seen.Goals as goal

pub returns-clause-kept : goal.returns-clause-kept
returns-clause-kept c = λ k is seen.
    subst (IsTableOf c.add_child.new.builder k) (sym c.in_ok-push_module.ensures)
    (table-child c.args.builder.now c.add_child.new.builder k c.args.table.now c.args.parent c.args.new.name c.args.visibility c.in_ok-id.id c.in_ok-id.ensures.grown c.requires.known c.in_ok-id.ensures.known is seen)

pub returns-in_err-origin-clause-fault : goal.returns-in_err-origin-clause-fault
returns-in_err-origin-clause-fault c =
    let past = is_past c.args.new.item in
    let many = has_too_many (child_world c.args.builder.now c.args.parent c.args.new.name (origin_of c.args.edition c.args.new) c.args.visibility) in
    passed c.from_residual.result c.in_err-origin.field-0.0 _ c.from_residual.ensures.1
    (short-on past (many || past) (or-right many past) c.in_err-origin.field-0.0 c.in_err-origin.ensures.fault)

pub returns-in_err-id-clause-fault : goal.returns-in_err-id-clause-fault
returns-in_err-id-clause-fault c =
    let past = is_past c.args.new.item in
    let many = has_too_many (child_world c.args.builder.now c.args.parent c.args.new.name (origin_of c.args.edition c.args.new) c.args.visibility) in
    let here = has_too_many (child_world c.args.builder.now c.args.parent c.in_ok-name.name c.in_ok-origin.origin c.args.visibility) in
    let same : here ≡ many = λ i. has_too_many (child_world c.args.builder.now c.args.parent (c.in_ok-name.ensures i) (c.in_ok-origin.ensures.exact i) c.args.visibility) in
    passed c.from_residual-in_err-id.result c.in_err-id.field-0.0 _ c.from_residual-in_err-id.ensures.1
    (short-on here (many || past) (λ h. or-left many past (sym same ∙ h)) c.in_err-id.field-0.0 c.in_err-id.ensures.fault)
