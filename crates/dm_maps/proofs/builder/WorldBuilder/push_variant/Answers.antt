use Rattle.std.proofs.Common.{◌≡◌, ◌++◌, ◌∷◌, [], List, length, rules, subst, sym, ap, ◌∙◌}
use Rattle.dm_maps.proofs.Ids.{EnumId}
use Rattle.dm_maps.specs.Lists.{IsEnum, IsListed}
use Rattle.dm_maps.specs.World.{World}
use Rattle.dm_def_map.specs.Variants.{Enums, enums_with_variant}
use Rattle.dm_maps.proofs.ListLemmas.{IsListed-variant}
use Rattle.dm_maps.specs.Tables.{tables_of}
use Rattle.dm_maps.proofs.builder.WorldBuilder.push_variant.Goals as goal

pub invariant_of-self-in-Ok : goal.invariant_of-self-in-Ok
invariant_of-self-in-Ok c =
    let w : World = tables_of c.self.inside in
    let known : IsEnum w.items c.args.e = subst (λ (x : World). IsEnum x.items c.args.e) (sym c.self.view_is) c.requires.known in
    let number : c.args.id ≡ record { 0 = length w.variants } = c.requires.number ∙ ap (λ (x : World). record { 0 = length x.variants }) (sym c.self.view_is) in
    let grown : c.push.new.self.items ≡ w.variants ++ c.args.e ∷ [] = search rules in
    let listed : c.add_to_enum.new.enums.entries ≡ enums_with_variant w.enums c.args.e c.args.name (c.args.id, c.args.shape) = c.in-Ok.ensures.ok in
    let enums : c.add_to_enum.new.enums.entries ≡ enums_with_variant w.enums c.args.e c.args.name (record { 0 = length w.variants }, c.args.shape) = listed ∙ ap (λ n. enums_with_variant w.enums c.args.e c.args.name (n, c.args.shape)) number in
    let P : Enums × List EnumId → Type 0 = λ x. IsListed (record w { enums = x.0; variants = x.1 }) in
    ((c.self.invariant.0.0, subst P (λ i. (sym enums i, sym grown i)) (IsListed-variant w c.self.invariant.0.1 c.args.e c.args.name c.args.shape known), c.self.invariant.0.2), c.self.invariant.1)
