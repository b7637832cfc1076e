use Rattle.std.proofs.Common.{◌++◌, ◌∙◌, ◌<◌, ap, sym, subst, length, string_bytes}
use Rattle.std.proofs.lemmas.List.{append_assoc}
use Rattle.dm_maps.specs.Branches.{branch_text, left_text}
use Rattle.dm_maps.proofs.TreeLemmas.{left_text-popped, shorter}
use Rattle.dm_maps.proofs.world.map_dump.write_tree.Goals as goal

pub loop-next-smaller : goal.loop-next-smaller
loop-next-smaller c =
    let w = c.args.world.now in
    let own = c.args.map.now in
    let rest = left_text w own c.pop.new.self.items in
    let branch = branch_text w own c.in-Some.next in
    let before = string_bytes c.loop-next.text in
    subst (λ x. length (left_text w own c.write_branch.new.left.items) < length x) (sym (left_text-popped w own c.loop-next.left.items c.pop.new.self.items c.in-Some.next c.in-Some.ensures.items))
    (shorter (string_bytes c.write_branch.new.text) (left_text w own c.write_branch.new.left.items) before (branch ++ rest)
    (c.in_ok-write_branch.ensures.text ∙ append_assoc before branch rest) c.in_ok-write_branch.ensures.grows)

pub loop-next-preserved : goal.loop-next-preserved
loop-next-preserved c =
    let w = c.args.world.now in
    let own = c.args.map.now in
    let rest = left_text w own c.pop.new.self.items in
    let branch = branch_text w own c.in-Some.next in
    let before = string_bytes c.loop-next.text in
    record {
      text = c.in_ok-write_branch.ensures.text
          ∙ append_assoc before branch rest
          ∙ ap (λ x. before ++ x) (sym (left_text-popped w own c.loop-next.left.items c.pop.new.self.items c.in-Some.next c.in-Some.ensures.items))
          ∙ c.loop-next.invariant.text;
      lie = c.in_ok-write_branch.ensures.lie;
    }
