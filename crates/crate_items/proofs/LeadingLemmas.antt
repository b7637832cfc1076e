-- The inner attributes that some trees begin with, one by one.
use Rattle.std.proofs.Common.{◌≡◌, ◌<◌, ◌&&◌, ℕ, Bool, true, false, List, [], ◌∷◌, drop, length, refl, ap, sym, cond, arith}
use Rattle.std.specs.Prelude.{slice_get}
use Rattle.crate_items.specs.Standings.{end_of, leading_end}
use Rattle.item_tree.specs.Heads.{is_mark}
use Rattle.item_tree.specs.ItemParts.{begins_inner_attribute}
use Rattle.item_tree.specs.declared.lexer.trees.Tree.{Tree}

right_false : (b : Bool) → (b && false) ≡ true → ⊥
right_false true e = cc
right_false false e = cc

pub one_more : (end : ℕ) (ts : List Tree) → begins_inner_attribute ts ≡ true → leading_end (end_of (slice_get ts 2) end) (drop 3 ts) ≡ leading_end end ts
one_more end [] e = absurd (let f : ⊥ = cc in f)
one_more end (a ∷ []) e = absurd (right_false (is_mark 35 a.kind && false) e)
one_more end (a ∷ b ∷ []) e = absurd (right_false (is_mark 35 a.kind && is_mark 33 b.kind) e)
one_more end (a ∷ b ∷ c ∷ ts) e = sym (ap (λ h. cond h (leading_end c.behind ts) end) e)

pub no_more : (end : ℕ) (ts : List Tree) → begins_inner_attribute ts ≡ false → leading_end end ts ≡ end
no_more end [] e = refl
no_more end (a ∷ []) e = refl
no_more end (a ∷ b ∷ []) e = refl
no_more end (a ∷ b ∷ c ∷ ts) e = ap (λ h. cond h (leading_end c.behind ts) end) e

pub shorter : (ts : List Tree) → begins_inner_attribute ts ≡ true → length (drop 3 ts) < length ts
shorter [] e = absurd (let f : ⊥ = cc in f)
shorter (a ∷ []) e = omega arith
shorter (a ∷ b ∷ []) e = omega arith
shorter (a ∷ b ∷ c ∷ ts) e = omega arith
