use Rattle.crate_tables.proofs.ShortLemmas.{passed}
use Rattle.std.proofs.Common.{arith, length}
use Rattle.crate_tables.proofs.MoreSteps.{past-on, short-on}
use Rattle.std.proofs.Common.{◌∙◌, ◌+◌, None, ap, drop, sym}
use Rattle.crate_tables.specs.Steps.{next-copied}
use Rattle.crate_tables.specs.ExternLists.{with_extern_rows}
use Rattle.crate_tables.specs.declared.extern_crates.ExternCrateRow.{ExternCrateRow}
use Rattle.crate_tables.proofs.extern_lists.list_extern_crates.Goals as goal

pub loop-number-preserved : goal.loop-number-preserved
loop-number-preserved c =
    let n = c.loop-number.number in
    let w = c.loop-number.builder in
    let rows = c.args.rows.now in
    let none : ExternCrateRow = record { home = record { 0 = 0 }; file = record { 0 = 0 }; item = 0; root = None } in
    record {
      world =
          ap (λ u. with_extern_rows u (n + 1) (drop (n + 1) rows)) c.in_ok-list_row.ensures.world
          ∙ sym (ap (with_extern_rows w n) (next-copied rows n none c.loop-number-test.true))
          ∙ c.loop-number.invariant.world;
      stays = λ h known. c.in_ok-list_row.ensures.stays h (c.loop-number.invariant.stays h known);
      shown = λ g k ps s. c.in_ok-list_row.ensures.shown g k ps (c.loop-number.invariant.shown g k ps s);
    }

pub returns-in_err-list_row-clause-fault : goal.returns-in_err-list_row-clause-fault
returns-in_err-list_row-clause-fault c = passed c.from_residual.result c.in_err-list_row.field-0.0 _ c.from_residual.ensures.1 (short-on _ _ (past-on c.loop-number.number (length c.args.rows.now) (omega (arith, c.loop-number-test.true))) _ c.in_err-list_row.ensures.fault)
