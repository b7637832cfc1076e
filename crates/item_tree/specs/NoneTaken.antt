-- What misses its end takes no other item.
use Rattle.std.specs.Prelude.{◌≡◌, ℕ, zero, suc, false, List, [], ◌∷◌}
use Rattle.item_tree.specs.Beginnings.{begins_anywhere}
use Rattle.item_tree.specs.Heads.{nothing}
use Rattle.item_tree.specs.ItemEnds.{up_to_end}
use Rattle.item_tree.specs.declared.items.item_kind.ItemKind.{ItemKind}
use Rattle.item_tree.specs.declared.lexer.trees.Tree.{Tree}

-- none of the first so many trees begins an item, wherever it stands
abbrev pub NoneBegins : ℕ → List Tree → Type 0
NoneBegins zero ts = Unit {0}
NoneBegins (suc n) [] = Unit {0}
NoneBegins (suc n) (t ∷ ts) = (begins_anywhere t.kind ts ≡ false) × NoneBegins n ts

-- so it is with the trees that an item takes behind its own words, with an end or without
abbrev pub ItemsTakeNoOther : Type 0
ItemsTakeNoOther = (kind : ItemKind) (ts : List Tree) → NoneBegins (up_to_end kind nothing 0 false ts).len ts
