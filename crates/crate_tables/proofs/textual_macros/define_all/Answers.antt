use Rattle.std.proofs.Common.{◌∙◌, ◌+◌, None, ap, drop, sym}
use Rattle.crate_items.specs.declared.macros.textual_scopes.TextualMacro.{TextualMacro}
use Rattle.crate_tables.specs.Steps.{next-copied}
use Rattle.crate_tables.specs.TextualMacros.{with_textual}
use Rattle.dm_maps.specs.declared.check.held.HeldId.TheVariants as held
use Rattle.crate_tables.proofs.textual_macros.define_all.Goals as goal

pub define_one-requires : goal.define_one-requires
define_one-requires c = c.loop-one.invariant.stays (held.Module c.args.m) c.requires

pub loop-one-preserved : goal.loop-one-preserved
loop-one-preserved c =
    let n = c.loop-one.one-index in
    let xs = c.args.items.now in
    let macros = c.args.macros.now in
    let scope = c.args.scope.now in
    let none : TextualMacro = record { number = 0; behind = None } in
    record {
      world =
          ap (λ w. with_textual xs macros w c.args.m (drop (n + 1) scope)) c.in_ok-define_one.ensures.world
          ∙ sym (ap (with_textual xs macros c.loop-one.builder c.args.m) (next-copied scope n none c.loop-one-test.true))
          ∙ c.loop-one.invariant.world;
      stays = λ h known. c.in_ok-define_one.ensures.stays h (c.loop-one.invariant.stays h known);
      shown = λ g k ps s. c.in_ok-define_one.ensures.shown g k ps (c.loop-one.invariant.shown g k ps s);
    }
