use Rattle.std.proofs.Common.{◌≡◌, ◌+◌, ◌-◌, ◌++◌, ◌∙◌, List, ap, arith, drop, length, take, length-drop}
use Rattle.std.proofs.lemmas.List.{take_all}
use Rattle.item_tree.specs.Members.{members_from}
use Rattle.item_tree.specs.declared.items.members.Member.{Member}
use Rattle.item_tree.proofs.NextMember.{next_member}
use Rattle.item_tree.proofs.items.members.member_list.Goals as goal

pub loop-at-preserved : goal.loop-at-preserved
loop-at-preserved c =
    let parts = c.first_member-parts.result in
    let trees = c.args.trees.now in
    let at = c.loop-at.at in
    let whole : take (length trees - at) (drop at trees) ≡ drop at trees = take_all (length trees - at) (drop at trees) (omega (arith, length-drop at trees)) in
    let within = c.first_member-parts.ensures.within in
    let before = c.loop-at-test.true in
    record {
      in_range = omega (arith, within, ap length whole, length-drop at trees);
      read = ap (λ (xs : List Member). xs ++ members_from c.args.kind c.args.lexemes.now c.args.end 0 (drop (at + parts.len) trees)) c.in_ok-push.ensures.items
          ∙ (next_member c.args.kind c.args.lexemes.now c.args.end trees _ at parts c.placed.result c.loop-at.members.items c.loop-at-test.true whole c.first_member-parts.ensures.exact
          c.first_member-parts.ensures.some c.placed.ensures ∙ c.loop-at.invariant.read);
    }
