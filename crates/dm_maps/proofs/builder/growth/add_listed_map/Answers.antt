use Rattle.std.proofs.Common.{◌∙◌, ◌-◌, List, ap, length, take}
use Rattle.dm_maps.proofs.Ids.{BlockId}
use Rattle.dm_maps.specs.BlockLists.{entry_with}
use Rattle.dm_maps.proofs.BlockListLemmas.{listed-back}
use Rattle.dm_maps.proofs.builder.growth.add_listed_map.Goals as goal

pub returns-in-Err-clause-old_lists : goal.returns-in-Err-clause-old_lists
returns-in-Err-clause-old_lists c =
    let k = c.args.krate.0 in
    let back : List (List BlockId) → List (List BlockId) = λ ls. entry_with ls k (λ l. take (length l - 1) l) in
    c.unlist_block.ensures ∙ ap back c.in_ok-list_block.ensures.ok ∙ listed-back c.args.lists.now.items k c.args.b
