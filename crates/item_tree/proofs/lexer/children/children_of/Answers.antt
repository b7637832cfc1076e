use Rattle.std.proofs.Common.{◌≡◌, ◌+◌, ◌-◌, ◌∙◌, ℕ, ap, sym, take, drop, arith}
use Rattle.std.specs.Prelude.{◌&&◌, Option, Some, None, nat_le, nat_lt}
use Rattle.std.proofs.lemmas.List.Elements.{filter_agree}
use Rattle.item_tree.specs.Children.{rank_of, is_number}
use Rattle.item_tree.specs.declared.items.Item.{Item}
use Rattle.item_tree.proofs.Segments.{filter_between}
use Rattle.item_tree.proofs.lexer.children.children_of.Goals as goal

-- the ranks up to that of an item's children, without those of its own and lower ones
same_rank : (n : ℕ) (p : Option ℕ) → (nat_lt n (rank_of p) && nat_le (rank_of p) (n + 1)) ≡ is_number n p
same_rank n None = grind arith
same_rank n (Some p) = grind arith

pub returns : goal.returns
returns c =
    let xs = c.args.items.now in
    let n = c.args.number in
    let first = c.count_before-first in
    let behind = c.count_before-behind in
    ap (λ k. take (k - first.result) (drop first.result xs)) c.max.ensures
    ∙ sym (filter_between (λ (x : Item). rank_of x.parent) n (n + 1) xs first.result behind.result first.ensures.parted behind.ensures.parted)
    ∙ filter_agree (λ (x : Item). nat_lt n (rank_of x.parent) && nat_le (rank_of x.parent) (n + 1)) (λ (x : Item). is_number n x.parent) (λ x. same_rank n x.parent) xs
