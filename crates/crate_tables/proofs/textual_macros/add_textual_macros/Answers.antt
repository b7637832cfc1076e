use Rattle.std.proofs.Common.{◌∙◌, ◌+◌, ap, drop, sym}
use Rattle.crate_tables.specs.Steps.{next-of}
use Rattle.crate_tables.proofs.TextualLemmas.{table-stays}
use Rattle.crate_tables.specs.TextualMacros.{with_scopes_from}
use Rattle.crate_tables.proofs.textual_macros.add_textual_macros.Goals as goal

pub returns-in_err-define_scope-clause-kept : goal.returns-in_err-define_scope-clause-kept
returns-in_err-define_scope-clause-kept c =
    table-stays c.loop-home.builder c.define_scope.new.builder c.args.krate c.args.table.now c.in_err-define_scope.ensures.stays c.loop-home.invariant.kept

pub loop-home-preserved : goal.loop-home-preserved
loop-home-preserved c =
    let n = c.loop-home.home in
    let xs = c.args.items.now in
    let macros = c.args.macros.now in
    let ids = c.args.table.now.ids in
    record {
      world =
          ap (λ w. with_scopes_from xs macros ids w (n + 1) (drop (n + 1) c.args.scopes.now)) c.in_ok-define_scope.ensures.world
          ∙ sym (ap (with_scopes_from xs macros ids c.loop-home.builder n) (next-of c.args.scopes.now n c.index-scopes-home.result c.loop-home-test.true c.index-scopes-home.is))
          ∙ c.loop-home.invariant.world;
      stays = λ h known. c.in_ok-define_scope.ensures.stays h (c.loop-home.invariant.stays h known);
      shown = λ g k ps s. c.in_ok-define_scope.ensures.shown g k ps (c.loop-home.invariant.shown g k ps s);
      kept = table-stays c.loop-home.builder c.define_scope.new.builder c.args.krate c.args.table.now c.in_ok-define_scope.ensures.stays c.loop-home.invariant.kept;
    }
