use Rattle.std.proofs.Common.{◌≡◌, ◌++◌, drop}
use Rattle.crate_items.specs.ModItems.{mods_from}
use Rattle.crate_items.proofs.modules.mod_items.mods_in_tree.Given as goal

abbrev pub invariant-loop-number : goal.invariant-loop-number
invariant-loop-number l =
    l.mods.items ++ mods_from l.lexemes l.view l.standings l.number (drop l.number l.view.items) ≡ mods_from l.lexemes l.view l.standings 0 l.view.items
