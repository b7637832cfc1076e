-- Behind an item of a level the next begins.
use Rattle.std.proofs.Common.{◌≡◌, ◌+◌, ◌-◌, ◌++◌, ◌<◌, ℕ, zero, suc, List, [], ◌∷◌, length, drop, refl, ap, sym, ◌∙◌, arith, append_assoc, length-drop}
use Rattle.std.specs.Prelude.{Option}
use Rattle.std.proofs.lemmas.List.{drop-drop}
use Rattle.item_tree.specs.CfgIfs.{first_in, kind_behind}
use Rattle.item_tree.specs.Items.{placed, items_from}
use Rattle.item_tree.specs.declared.cfg.cfg_if.LevelKind.{LevelKind}
use Rattle.item_tree.specs.declared.items.item_parts.ItemParts.{ItemParts}
use Rattle.item_tree.specs.declared.items.Item.{Item}
use Rattle.item_tree.specs.declared.lexer.trees.Tree.{Tree}

items_skipped : (kind : LevelKind) (parent : Option ℕ) (end n : ℕ) (ts : List Tree) → items_from kind parent end n ts ≡ items_from kind parent end 0 (drop n ts)
items_skipped kind parent end zero ts = refl
items_skipped kind parent end (suc n) [] = refl
items_skipped kind parent end (suc n) (t ∷ ts) = items_skipped kind parent end n ts

first_of : (kind : LevelKind) (parent : Option ℕ) (end : ℕ) (ts : List Tree) (parts : ItemParts) → 0 < length ts → parts ≡ first_in kind ts → 0 < parts.len
    → items_from kind parent end 0 ts ≡ placed parent end parts ts ∷ items_from (kind_behind kind parts) parent end 0 (drop parts.len ts)
first_of kind parent end [] parts some is forward = absurd (omega arith)
first_of kind parent end (t ∷ ts) parts some is forward =
    let more : parts.len ≡ suc (parts.len - 1) = omega arith in
    let there : items_from (kind_behind kind parts) parent end (parts.len - 1) ts ≡ items_from (kind_behind kind parts) parent end 0 (drop parts.len (t ∷ ts))
    = items_skipped (kind_behind kind parts) parent end (parts.len - 1) ts ∙ ap (λ n. items_from (kind_behind kind parts) parent end 0 (drop n (t ∷ ts))) (sym more) in
    ap (λ (p : ItemParts). placed parent end p (t ∷ ts) ∷ items_from (kind_behind kind p) parent end (p.len - 1) ts) (sym is) ∙ ap (λ xs. placed parent end parts (t ∷ ts) ∷ xs) there

pub next_item : (kind next : LevelKind) (parent : Option ℕ) (end : ℕ) (ts seen : List Tree) (i : ℕ) (parts : ItemParts) (item : Item) (so_far : List Item) → i < length ts → seen ≡ drop i ts
    → parts ≡ first_in kind seen → 0 < parts.len → item ≡ placed parent end parts seen → next ≡ kind_behind kind parts
    → (so_far ++ item ∷ []) ++ items_from next parent end 0 (drop (i + parts.len) ts) ≡ so_far ++ items_from kind parent end 0 (drop i ts)
next_item kind next parent end ts seen i parts item so_far within same is forward made goes_on =
    let some : 0 < length (drop i ts) = omega (arith, length-drop i ts) in
    let whole : parts ≡ first_in kind (drop i ts) = is ∙ ap (first_in kind) same in
    let here : item ≡ placed parent end parts (drop i ts) = made ∙ ap (λ us. placed parent end parts us) same in
    let moved : drop parts.len (drop i ts) ≡ drop (i + parts.len) ts = drop-drop parts.len i ts in
    append_assoc so_far (item ∷ []) (items_from next parent end 0 (drop (i + parts.len) ts))
    ∙ ap (λ xs. so_far ++ xs)
    (ap (λ (x : Item). x ∷ items_from next parent end 0 (drop (i + parts.len) ts)) here
    ∙ (ap (λ k. placed parent end parts (drop i ts) ∷ items_from k parent end 0 (drop (i + parts.len) ts)) goes_on
    ∙ (ap (λ us. placed parent end parts (drop i ts) ∷ items_from (kind_behind kind parts) parent end 0 us) (sym moved) ∙ sym (first_of kind parent end (drop i ts) parts some whole forward))))
