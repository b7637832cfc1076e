use Rattle.std.proofs.Common.{◌≡◌, ◌++◌, ◌∷◌, [], length, rules, subst, sym}
use Rattle.dm_maps.specs.Lists.{IsAmong, IsListed}
use Rattle.dm_maps.specs.Tables.{tables_of}
use Rattle.dm_maps.specs.World.{World}
use Rattle.dm_maps.proofs.AddedItems.{added-macro}
use Rattle.dm_maps.proofs.ListLemmas.{IsListed-macro}
use Rattle.dm_maps.proofs.builder.WorldBuilder.add_macro.Goals as goal

pub invariant_of-self-2 : goal.invariant_of-self-2
invariant_of-self-2 c =
    let w : World = tables_of c.self.inside in
    let here : IsAmong (length c.args.self.now.places) c.args.m = search rules in
    let known : IsAmong (length w.places) c.args.m = subst (λ (x : World). IsAmong (length x.places) c.args.m) (sym c.self.view_is) here in
    let grown : c.add_last.new.list.items ≡ w.macros ++ (c.args.m, c.args.loc) ∷ [] = search rules in
    ((c.self.invariant.0.0, subst (λ l. IsListed (record w { macros = l })) (sym grown) (IsListed-macro w c.self.invariant.0.1 c.args.m c.args.loc known), c.self.invariant.0.2), c.self.invariant.1)

pub returns-clause-added : goal.returns-clause-added
returns-clause-added c = added-macro c.args.self.now _ c.args.m c.args.loc c.macro_id-id.result (search rules) (search rules)
