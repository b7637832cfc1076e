use Rattle.std.proofs.Common.{◌≡◌, List, rules, subst, nat_cmp, IsPermutation}
use Rattle.std.specs.List.Sorted.{IsStableByKey}
use Rattle.std.proofs.lemmas.List.Sorted.{answers_always}
use Rattle.crate_items.specs.FileItems.{homed_from, place_of}
use Rattle.crate_items.specs.declared.items.file_items.Homed.{Homed}
use Rattle.crate_items.proofs.items.file_items.items_in_text.Goals as goal

pub returns : goal.returns
returns c =
    let sorted = c.sort_by_key.new.self.items in
    let all : c.in_ok-found.found.items ≡ homed_from c.args.source.now 0 c.args.source.now.items = search rules in
    record {
      each_once = subst (λ (xs : List Homed). IsPermutation xs sorted) all c.in_ok-sort_by_key.ensures.permutation;
      in_order = c.in_ok-sort_by_key.ensures.sorted place_of (answers_always _ _ _ (λ f a r g h. search rules));
      stable = subst (λ (xs : List Homed). IsStableByKey place_of nat_cmp xs sorted) all (c.in_ok-sort_by_key.ensures.stable place_of (answers_always _ _ _ (λ f a r g h. search rules)));
    }
