use Rattle.std.proofs.Common.{Some, None, subst, sym}
use Rattle.std.specs.Prelude.{All}
use Rattle.std.proofs.lemmas.List.Elements.{All-push}
use Rattle.crate_tables.proofs.UseLemmas.{macros-on}
use Rattle.crate_tables.specs.CrateTables.{IsMacroOf}
use Rattle.crate_tables.proofs.crate_macros.add_in.Goals as goal

pub returns-in_ok-push_id-in-None-clause-ids : goal.returns-in_ok-push_id-in-None-clause-ids
returns-in_ok-push_id-in-None-clause-ids c =
    subst (All (IsMacroOf c.args.builder.now)) (sym c.in_ok-push_id-in-None.ensures) (All-push (IsMacroOf c.args.builder.now) c.args.ids.now.items None c.requires.ids tt)

pub returns-in_ok-push_id-in-Some-clause-ids : goal.returns-in_ok-push_id-in-Some-clause-ids
returns-in_ok-push_id-in-Some-clause-ids c =
    let w = c.add_as.new.builder in
    subst (All (IsMacroOf w)) (sym c.in_ok-push_id-in-Some.ensures)
    (All-push (IsMacroOf w) c.args.ids.now.items (Some c.in_ok-id-in-Some.id) (macros-on c.args.builder.now w c.args.ids.now.items c.in_ok-id-in-Some.ensures.grown c.requires.ids) (c.in_ok-id-in-Some.ensures.known, tt))
