use Rattle.std.proofs.Common.{◌∙◌, rules, sym, nat_cmp}
use Rattle.std.specs.List.Sorted.{ties}
use Rattle.std.specs.Ordering.{is_lt}
use Rattle.std.proofs.lemmas.List.Elements.{filter_agree}
use Rattle.std.proofs.lemmas.List.Sorted.{IsNonDecreasingBy-from_sort, answers_always}
use Rattle.crate_items.proofs.ItemLemmas.{same_ties}
use Rattle.crate_items.specs.FileItems.{rank, stands_in}
use Rattle.crate_items.specs.declared.items.file_items.Homed.{Homed}
use Rattle.crate_items.proofs.items.file_items.items_by_module.Goals as goal

pub returns : goal.returns
returns c =
    let found = c.in_ok-found.found.items in
    let sorted = c.sort_by_key.new.self.items in
    let before = λ (x y : Homed). is_lt (nat_cmp (rank x) (rank y)) in
    let up = c.in_ok-sort_by_key.ensures.sorted rank (answers_always _ _ _ (λ f a r g h. search rules)) in
    let stable = c.in_ok-sort_by_key.ensures.stable rank (answers_always _ _ _ (λ f a r g h. search rules)) in (
      IsNonDecreasingBy-from_sort rank sorted up,
      (
        found,
        c.in_ok-found.ensures,
        λ home.
            let one : Homed = record { home = home; item = 0; place = 0 } in
            sym (filter_agree (ties before one) (stands_in home) (λ (x : Homed). same_ties home x.home) sorted)
            ∙ stable one
            ∙ filter_agree (ties before one) (stands_in home) (λ (x : Homed). same_ties home x.home) found,
      ),
    )
