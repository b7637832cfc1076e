use Rattle.std.proofs.Common.{◌≡◌, ◌<◌, ◌+◌, ◌++◌, ◌∙◌, List, ap, append_assoc, drop, get_or, length, rules, sym}
use Rattle.std.specs.Prelude.{slice_get}
use Rattle.crate_items.specs.ModItems.{mod_if, mods_from}
use Rattle.item_tree.specs.declared.items.Item.{Item}
use Rattle.crate_items.proofs.ModLemmas.{mods_more}
use Rattle.crate_items.proofs.modules.mod_items.mods_in_tree.Goals as goal

pub loop-number-preserved : goal.loop-number-preserved
loop-number-preserved c =
    let within : c.loop-number.number < length c.args.view.now.items = search rules in
    let same : c.view.inside.items.now ≡ c.args.view.now.items = search rules in
    let pushed = c.in_ok-push_item.ensures
    ∙ ap (λ (xs : List Item). c.loop-number.mods.items ++ mod_if c.args.lexemes.now c.args.view.now c.loop-number.number (get_or xs c.loop-number.number _) (slice_get c.args.standings.now c.loop-number.number)) same in
    ap (λ mods. mods ++ mods_from c.args.lexemes.now c.args.view.now c.args.standings.now (c.loop-number.number + 1) (drop (c.loop-number.number + 1) c.args.view.now.items)) pushed
    ∙ append_assoc c.loop-number.mods.items _ _
    ∙ ap (λ mods. c.loop-number.mods.items ++ mods) (sym (mods_more c.args.lexemes.now c.args.view.now c.args.standings.now c.args.view.now.items c.loop-number.number _ within))
    ∙ c.loop-number.invariant
