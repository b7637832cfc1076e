-- The modules among the items from a number on.
use Rattle.std.proofs.Common.{◌≡◌, ◌+◌, ◌++◌, ◌∙◌, ◌<◌, ℕ, zero, suc, List, [], ◌∷◌, length, drop, get_or, refl, ap, arith}
use Rattle.std.specs.Prelude.{slice_get}
use Rattle.crate_items.specs.ModItems.{mod_if, mods_from}
use Rattle.crate_items.specs.Standings.{View}
use Rattle.crate_items.specs.declared.modules.standing.Standing.{Standing}
use Rattle.item_tree.specs.declared.items.Item.{Item}
use Rattle.item_tree.specs.declared.lexer.lexeme.Lexeme.{Lexeme}

next_dropped : (xs : List Item) (n : ℕ) (d : Item) → n < length xs → drop n xs ≡ get_or xs n d ∷ drop (suc n) xs
next_dropped [] n d h = absurd (let f : ⊥ = omega arith in f)
next_dropped (x ∷ xs) zero d h = refl
next_dropped (x ∷ xs) (suc n) d h =
    let within : n < length xs = omega arith in
    next_dropped xs n d within

successor : (n : ℕ) → suc n ≡ n + 1
successor n = omega arith

pub mods_more : (lexemes : List Lexeme) (v : View) (ss : List Standing) (xs : List Item) (n : ℕ) (d : Item) → n < length xs
    → mods_from lexemes v ss n (drop n xs) ≡ mod_if lexemes v n (get_or xs n d) (slice_get ss n) ++ mods_from lexemes v ss (n + 1) (drop (n + 1) xs)
mods_more lexemes v ss xs n d h =
    ap (mods_from lexemes v ss n) (next_dropped xs n d h)
    ∙ ap (λ k. mod_if lexemes v n (get_or xs n d) (slice_get ss n) ++ mods_from lexemes v ss (n + 1) (drop k xs)) (successor n)
