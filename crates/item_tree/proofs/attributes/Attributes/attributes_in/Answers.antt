use Rattle.std.proofs.Common.{◌∙◌, ◌-◌, ap, sym, take, drop}
use Rattle.std.specs.Prelude.{filter}
use Rattle.item_tree.specs.ItemAttributes.{begins_in}
use Rattle.item_tree.specs.declared.attributes.Attribute.{Attribute}
use Rattle.item_tree.proofs.Segments.{filter_between}
use Rattle.item_tree.proofs.attributes.Attributes.attributes_in.Goals as goal

pub returns : goal.returns
returns c =
    let xs = c.attributes-attributes.result.now in
    let first = c.count_up_to-first in
    let behind = c.count_up_to-behind in
    ap (λ n. take (n - first.result) (drop first.result xs)) c.max.ensures
    ∙ sym (filter_between (λ (a : Attribute). a.input.first) c.args.range.first c.args.range.behind xs first.result behind.result first.ensures.parted behind.ensures.parted)
    ∙ ap (filter (begins_in c.args.range)) c.attributes-attributes.ensures.exact
