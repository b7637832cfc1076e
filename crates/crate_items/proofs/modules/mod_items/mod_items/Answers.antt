use Rattle.std.proofs.Common.{◌≡◌, List, rules, subst, nat_cmp, IsPermutation}
use Rattle.std.specs.List.Sorted.{IsStableByKey}
use Rattle.std.proofs.lemmas.List.Sorted.{answers_always}
use Rattle.crate_items.specs.ModItems.{mods_from, place}
use Rattle.crate_items.specs.declared.modules.mod_items.ModItem.{ModItem}
use Rattle.crate_items.proofs.modules.mod_items.mod_items.Goals as goal

pub returns : goal.returns
returns c =
    let sorted = c.sort_by_key.new.self.items in
    let all : c.in_ok-mods.mods.items ≡ mods_from c.args.lexemes.now c.args.view.now c.args.standings.now 0 c.args.view.now.items = search rules in
    record {
      each_once = subst (λ (xs : List ModItem). IsPermutation xs sorted) all c.in_ok-sort_by_key.ensures.permutation;
      in_order = c.in_ok-sort_by_key.ensures.sorted place (answers_always _ _ _ (λ f a r g h. search rules));
      stable = subst (λ (xs : List ModItem). IsStableByKey place nat_cmp xs sorted) all (c.in_ok-sort_by_key.ensures.stable place (answers_always _ _ _ (λ f a r g h. search rules)));
    }
