use Rattle.std.proofs.Common.{◌++◌, ◌∙◌, [], Option, codes, ap}
use Rattle.std.specs.Option.{option_map_or}
use Rattle.dm_maps.proofs.Ids.{ModuleId}
use Rattle.dm_maps.specs.ScopeTables.{scope_tables}
use Rattle.dm_maps.specs.Branches.{left_text}
use Rattle.dm_maps.specs.MapDumps.{path_and, tree}
use Rattle.dm_maps.proofs.TreeLemmas.{left_text-push}
use Rattle.dm_maps.proofs.world.map_dump.add_child.Goals as goal

pub returns-clause-text : goal.returns-clause-text
returns-clause-text c =
    let w = c.args.world.now in
    let t = scope_tables w in
    let own = c.args.map.now in
    ap (left_text w own) c.in_ok-push.ensures.items
    ∙ left_text-push w own c.args.left.now.items (record { path = c.in_ok-path.path; child = c.in-Some.child })
    ∙ ap (λ x. x ++ left_text w own c.args.left.now.items)
    (ap (λ p. codes "\n" ++ tree w own p c.in-Some.child) c.in_ok-path.ensures
    ∙ ap (λ (o : Option ModuleId). option_map_or (λ k. codes "\n" ++ tree w own (path_and t c.args.path.now c.args.name.now) k) o []) c.in-Some.ensures)
