use Rattle.std.proofs.Common.{◌≡◌, ◌++◌, ◌∷◌, [], length, rules, subst, sym}
use Rattle.dm_maps.specs.Lists.{IsAmong, IsListed}
use Rattle.dm_maps.specs.Tables.{tables_of}
use Rattle.dm_maps.specs.World.{World}
use Rattle.dm_maps.proofs.AddedItems.{added-use}
use Rattle.dm_maps.proofs.ListLemmas.{IsListed-use}
use Rattle.dm_maps.proofs.builder.WorldBuilder.add_use.Goals as goal

pub invariant_of-self-2 : goal.invariant_of-self-2
invariant_of-self-2 c =
    let w : World = tables_of c.self.inside in
    let here : IsAmong (length c.args.self.now.places) c.args.m = search rules in
    let known : IsAmong (length w.places) c.args.m = subst (λ (x : World). IsAmong (length x.places) c.args.m) (sym c.self.view_is) here in
    let grown : c.add_last.new.list.items ≡ w.uses ++ c.args.m ∷ [] = search rules in
    ((c.self.invariant.0.0, subst (λ l. IsListed (record w { uses = l })) (sym grown) (IsListed-use w c.self.invariant.0.1 c.args.m known), c.self.invariant.0.2), c.self.invariant.1)

pub returns-clause-added : goal.returns-clause-added
returns-clause-added c = added-use c.args.self.now _ c.args.m _ (search rules) (search rules)
