use Rattle.std.proofs.Common.{◌≡◌, List, ap, arith, length, length-append}
use Rattle.crate_tables.proofs.MoreSteps.{past-on, short-on}
use Rattle.crate_tables.proofs.ShortLemmas.{passed}
use Rattle.crate_tables.specs.declared.extern_crates.ExternCrateRow.{ExternCrateRow}
use Rattle.crate_tables.proofs.extern_crates.add_in.Goals as goal

pub returns-in_err-id-clause-fault : goal.returns-in_err-id-clause-fault
returns-in_err-id-clause-fault c =
    let same : length c.as_slice.result.now ≡ length c.args.rows.now.items = ap (λ (xs : List ExternCrateRow). length xs) c.as_slice.ensures.value in
    passed c.from_residual.result c.in_err-id.field-0.0 _ c.from_residual.ensures.1
    (short-on _ _ (past-on (length c.as_slice.result.now) _ (omega (arith, length-append c.args.rows.now.items, same))) _ c.in_err-id.ensures.fault)
