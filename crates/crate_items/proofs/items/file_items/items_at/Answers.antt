use Rattle.std.proofs.Common.{◌-◌, ◌∙◌, ap, drop, sym, take}
use Rattle.std.specs.Prelude.{◌&&◌, nat_le, nat_lt}
use Rattle.std.proofs.lemmas.List.Elements.{filter_agree}
use Rattle.crate_items.proofs.ItemLemmas.{same_rank}
use Rattle.crate_items.specs.FileItems.{rank, stands_in}
use Rattle.crate_items.specs.declared.items.file_items.Homed.{Homed}
use Rattle.crate_items.proofs.items.file_items.items_at.Goals as goal

pub returns : goal.returns
returns c =
    let xs = c.args.items.now in
    let high = c.rank_of-rank.result in
    let first = c.count_up_to-first in
    let behind = c.count_up_to-behind in
    ap (λ k. take (k - first.result) (drop first.result xs)) c.max.ensures
    ∙ sym (c.numbers_between_stand_between.ensures rank (high - 1) high xs first.result behind.result first.ensures.parted behind.ensures.parted)
    ∙ filter_agree (λ (x : Homed). nat_lt (high - 1) (rank x) && nat_le (rank x) high) (stands_in c.args.home)
    (λ (x : Homed). ap (λ k. nat_lt (k - 1) (rank x) && nat_le (rank x) k) c.rank_of-rank.ensures ∙ same_rank c.args.home x.home) xs
