use Rattle.std.proofs.Common.{◌≡◌, ◌<◌, ◌∙◌, List, ap, length, rules, subst, sym, true, false}
use Rattle.std.specs.Prelude.{slice_get}
use Rattle.crate_items.specs.Standings.{end_of, leading_end}
use Rattle.item_tree.specs.declared.lexer.trees.Tree.{Tree}
use Rattle.crate_items.proofs.LeadingLemmas.{no_more, one_more, shorter}
use Rattle.item_tree.specs.ItemParts.{begins_inner_attribute}
use Rattle.crate_items.proofs.modules.standing.leading_end.Goals as goal

pub loop-rest-preserved : goal.loop-rest-preserved
loop-rest-preserved c =
    let begins : begins_inner_attribute c.loop-rest.rest.now ≡ true = search rules in
    ap (λ end. leading_end end c.behind-rest.result.now) c.end_at-end.ensures
    ∙ ap (λ (ts : List Tree). leading_end (end_of (slice_get c.loop-rest.rest.now 2) c.loop-rest.end) ts) c.behind-rest.ensures
    ∙ one_more c.loop-rest.end c.loop-rest.rest.now begins
    ∙ c.loop-rest.invariant

pub loop-rest-smaller : goal.loop-rest-smaller
loop-rest-smaller c =
    let begins : begins_inner_attribute c.loop-rest.rest.now ≡ true = search rules in
    subst (λ (ts : List Tree). length ts < length c.loop-rest.rest.now) (sym c.behind-rest.ensures) (shorter c.loop-rest.rest.now begins)

pub returns : goal.returns
returns c =
    let ends : begins_inner_attribute c.loop-rest.rest.now ≡ false = search rules in
    sym (no_more c.loop-rest.end c.loop-rest.rest.now ends) ∙ c.loop-rest.invariant
