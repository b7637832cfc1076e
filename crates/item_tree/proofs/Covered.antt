-- The trees of a level, and its items, cover it.
use Rattle.std.proofs.Common.{◌≡◌, ◌+◌, ◌-◌, ◌<◌, ◌≤◌, ℕ, zero, suc, Bool, true, false, List, [], ◌∷◌, length, drop, refl, ap, sym, subst, arith, cond, length-drop}
use Rattle.std.specs.Prelude.{Option, Some, None, IfSome, nat_lt, ◌&&◌}
use Rattle.std.specs.List.{AllByRecursion}
use Rattle.std.proofs.lemmas.Bool.{ltb-true, ltb-false}
use Rattle.item_tree.specs.Covers.{Cover, IsRange, LiesWithin, IsWithin}
use Rattle.item_tree.specs.CfgIfs.{first_in, kind_behind, level_kind}
use Rattle.item_tree.specs.Items.{placed, place_at, body_of, body_at, items_from, level_of, level_in, contains_items}
use Rattle.item_tree.specs.Trees.{single, tree_of, partner_at, trees_from, trees_of}
use Rattle.item_tree.specs.declared.items.Item.{Item}
use Rattle.item_tree.specs.declared.cfg.cfg_if.LevelKind.{LevelKind}
use Rattle.item_tree.specs.declared.items.Level.{Level}
use Rattle.item_tree.specs.declared.items.Range.{Range}
use Rattle.item_tree.specs.declared.lexer.lexeme.Delimiter.{Delimiter}
use Rattle.item_tree.specs.declared.lexer.lexeme.Delimiter.TheVariants.{Parenthesis, Bracket, Brace}
use Rattle.item_tree.specs.declared.lexer.lexeme.Lexeme.{Lexeme}
use Rattle.item_tree.specs.declared.lexer.lexeme.LexemeKind.{LexemeKind}
use Rattle.item_tree.specs.declared.lexer.lexeme.LexemeKind.TheVariants.{Word, Open, Close, Mark, Lifetime, Str, Literal, Error}
use Rattle.item_tree.specs.declared.lexer.trees.Tree.{Tree}
use Rattle.item_tree.proofs.Weights.{Sized, tree_sized, level_within, both_hold}

-- each tree begins where the one before it ends
abbrev pub TreesCover : ℕ → ℕ → List Tree → Type 0
TreesCover first behind [] = first ≡ behind
TreesCover first behind (t ∷ ts) = (t.first ≡ first) × (first < t.behind) × (t.behind ≤ behind) × TreesCover t.behind behind ts

trees_cover : (partners : List ℕ) (end n i : ℕ) (ls : List Lexeme) → i + n ≤ end → end ≤ i + length ls → TreesCover (i + n) end (trees_from partners end n i ls)
trees_cover partners end n i [] low high = omega arith
trees_cover partners end zero i (l ∷ ls) low high =
    subst (λ k. TreesCover k end (trees_from partners end 0 i (l ∷ ls))) (plus_nothing i)
    (by (nat_lt i end) refl (λ h. tree_sized l.kind i (partner_at partners i) end h) (λ a. trees_cover partners end (t.behind - (i + 1)) (i + 1) ls a (omega arith)))
  where
    t : Tree
    t = tree_of l.kind i (partner_at partners i) end

    plus_nothing : (k : ℕ) → k ≡ k + 0
    plus_nothing k = omega arith

    by : (b : Bool) → nat_lt i end ≡ b → (i < end → Sized i end t)
        → ((i + 1) + (t.behind - (i + 1)) ≤ end → TreesCover ((i + 1) + (t.behind - (i + 1))) end (trees_from partners end (t.behind - (i + 1)) (i + 1) ls))
        → TreesCover i end (cond b (t ∷ trees_from partners end (t.behind - (i + 1)) (i + 1) ls) [])
    by true e sized rest =
        let s = sized (ltb-true i end e) in
        let some = s.some in
        let before = s.before in
        let there : (i + 1) + (t.behind - (i + 1)) ≡ t.behind = omega arith in
        (s.begins, s.some, s.before, subst (λ k. TreesCover k end (trees_from partners end (t.behind - (i + 1)) (i + 1) ls)) there (rest (omega arith)))
    by false e sized rest = let late = ltb-false i end e in omega arith
trees_cover partners end (suc n) i (l ∷ ls) low high =
    subst (λ k. TreesCover k end (trees_from partners end n (i + 1) ls)) (one_more i n) (trees_cover partners end n (i + 1) ls (omega arith) (omega arith))
  where
    one_more : (i n : ℕ) → (i + 1) + n ≡ i + suc n
    one_more i n = omega arith

-- a later tree begins later
place_up : (ts : List Tree) (i end n : ℕ) → TreesCover i end ts → 0 < n → n ≤ length ts → i < place_at ts n end
place_up [] i end n cover some most = absurd (omega arith)
place_up (t ∷ ts) i end zero cover some most = absurd (omega arith)
place_up (t ∷ []) i end (suc zero) cover some most = let a = cover.1 in let b = cover.2 in omega arith
place_up (t ∷ (u ∷ ts)) i end (suc zero) cover some most = let a = cover.1 in let b = cover.3.0 in omega arith
place_up (t ∷ ts) i end (suc (suc n)) cover some most = let a = cover.1 in let rest = place_up ts t.behind end (suc n) cover.3 (omega arith) (omega arith) in omega arith

items_cover : (kind : LevelKind) (parent : Option ℕ) (end n i : ℕ) (ts : List Tree) → TreesCover i end ts → Cover (place_at ts n end) end (items_from kind parent end n ts)
items_cover kind parent end n i [] cover = refl
items_cover kind parent end zero i (t ∷ ts) cover =
    let p = first_in kind (t ∷ ts) in
    let w = level_within kind (t ∷ ts) (omega arith) in
    let some = w.some in
    let up : i < place_at (t ∷ ts) p.len end = place_up (t ∷ ts) i end p.len cover w.some w.most in
    let begins = cover.0 in
    let m = p.len - 1 in
    let more : p.len ≡ suc m = omega arith in
    let place : place_at ts m end ≡ place_at (t ∷ ts) p.len end = ap (λ k. place_at (t ∷ ts) k end) (sym more) in
    (refl, omega arith, subst (λ k. Cover k end (items_from (kind_behind kind p) parent end m ts)) place (items_cover (kind_behind kind p) parent end m t.behind ts cover.3))
items_cover kind parent end (suc n) i (t ∷ ts) cover = items_cover kind parent end n t.behind ts cover.3

level_begins : (i end : ℕ) (ts : List Tree) → TreesCover i end ts → place_at ts 0 end ≡ i
level_begins i end [] cover = sym cover
level_begins i end (t ∷ ts) cover = cover.0

pub level_covered : (lexemes : List Lexeme) (partners : List ℕ) (parent : Option ℕ) (l : Level) → IsRange (length lexemes) l.range
    → Cover l.range.first l.range.behind (level_of lexemes partners parent l)
level_covered lexemes partners parent l is =
    let r = l.range in
    let ts = trees_of lexemes partners r.first r.behind in
    let forward = is.0 in
    let within = is.1 in
    let all : TreesCover (r.first + 0) r.behind ts = trees_cover partners r.behind 0 r.first (drop r.first lexemes) (omega arith) (omega (arith, length-drop r.first lexemes)) in
    let cover : TreesCover r.first r.behind ts = subst (λ k. TreesCover k r.behind ts) (nothing_more r.first) all in
    subst (λ k. Cover k r.behind (level_of lexemes partners parent l)) (level_begins r.first r.behind ts cover) (items_cover l.kind parent r.behind 0 r.first ts cover)
  where
    nothing_more : (k : ℕ) → k + 0 ≡ k
    nothing_more k = omega arith

-- what stands between the braces of a tree lies in its level
abbrev pub HasBodyIn : Range → Tree → Type 0
HasBodyIn r t = IfSome (body_of t.kind t.first t.behind) (LiesWithin r)

group_body : (r : Range) (d : Delimiter) (i partner : ℕ) → r.first ≤ i → i < partner → partner < r.behind → HasBodyIn r (record { kind = Open d; first = i; behind = partner + 1 })
group_body r Brace i partner low some high = by (nat_lt i (partner + 1))
  where
    by : (b : Bool) → IfSome (cond b (Some (record { first = i + 1; behind = (partner + 1) - 1 })) None) (LiesWithin r)
    by true = (omega arith, omega arith, omega arith)
    by false = tt
group_body r Parenthesis i partner low some high = tt
group_body r Bracket i partner low some high = tt

tree_body : (r : Range) (k : LexemeKind) (i partner : ℕ) → r.first ≤ i → HasBodyIn r (tree_of k i partner r.behind)
tree_body r (Open d) i partner low = by (nat_lt i partner && nat_lt partner r.behind) refl
  where
    by : (b : Bool) → (nat_lt i partner && nat_lt partner r.behind) ≡ b → HasBodyIn r (cond b (record { kind = Open d; first = i; behind = partner + 1 }) (single Error i))
    by true e = let a = both_hold (nat_lt i partner) (nat_lt partner r.behind) e in group_body r d i partner low (ltb-true i partner a.0) (ltb-true partner r.behind a.1)
    by false e = tt
tree_body r (Close d) i partner low = tt
tree_body r (Word w) i partner low = tt
tree_body r (Mark b) i partner low = tt
tree_body r Lifetime i partner low = tt
tree_body r Str i partner low = tt
tree_body r Literal i partner low = tt
tree_body r Error i partner low = tt

tree_bodies : (r : Range) (partners : List ℕ) (n i : ℕ) (ls : List Lexeme) → r.first ≤ i → AllByRecursion (HasBodyIn r) (trees_from partners r.behind n i ls)
tree_bodies r partners n i [] low = tt
tree_bodies r partners zero i (l ∷ ls) low = by (nat_lt i r.behind) (tree_bodies r partners (t.behind - (i + 1)) (i + 1) ls (omega arith))
  where
    t : Tree
    t = tree_of l.kind i (partner_at partners i) r.behind

    by : (b : Bool) → AllByRecursion (HasBodyIn r) (trees_from partners r.behind (t.behind - (i + 1)) (i + 1) ls)
        → AllByRecursion (HasBodyIn r) (cond b (t ∷ trees_from partners r.behind (t.behind - (i + 1)) (i + 1) ls) [])
    by true rest = (tree_body r l.kind i (partner_at partners i) low, rest)
    by false rest = tt
tree_bodies r partners (suc n) i (l ∷ ls) low = tree_bodies r partners n (i + 1) ls (omega arith)

body_at_in : (r : Range) (ts : List Tree) (i : ℕ) → AllByRecursion (HasBodyIn r) ts → IfSome (body_at ts i) (LiesWithin r)
body_at_in r [] i all = tt
body_at_in r (t ∷ ts) zero all = all.0
body_at_in r (t ∷ ts) (suc i) all = body_at_in r ts i all.1

inner_in : (r : Range) (x : Item) → IfSome x.body (LiesWithin r) → IsWithin r x
inner_in r x h = by (contains_items x.kind) x.body h
  where
    by : (b : Bool) (body : Option Range) → IfSome body (LiesWithin r) → IfSome (cond b (level_in (level_kind x.kind) body) None) (λ (l : Level). LiesWithin r l.range)
    by true None h = tt
    by true (Some range) h = h
    by false body h = tt

items_nest : (r : Range) (kind : LevelKind) (parent : Option ℕ) (end n : ℕ) (ts : List Tree) → AllByRecursion (HasBodyIn r) ts → AllByRecursion (IsWithin r) (items_from kind parent end n ts)
items_nest r kind parent end n [] all = tt
items_nest r kind parent end zero (t ∷ ts) all =
    let p = first_in kind (t ∷ ts) in
    (inner_in r (placed parent end p (t ∷ ts)) (body_at_in r (t ∷ ts) (p.len - 1) all), items_nest r (kind_behind kind p) parent end (p.len - 1) ts all.1)
items_nest r kind parent end (suc n) (t ∷ ts) all = items_nest r kind parent end n ts all.1

pub level_nests : (lexemes : List Lexeme) (partners : List ℕ) (parent : Option ℕ) (l : Level) → AllByRecursion (IsWithin l.range) (level_of lexemes partners parent l)
level_nests lexemes partners parent l =
    items_nest l.range l.kind parent l.range.behind 0 (trees_of lexemes partners l.range.first l.range.behind) (tree_bodies l.range partners 0 l.range.first (drop l.range.first lexemes) (omega arith))
