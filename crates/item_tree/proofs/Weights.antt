-- What is left to read grows less with each item: the items in a body weigh less than the item.
use Rattle.std.proofs.Common.{◌≡◌, ◌+◌, ◌-◌, ◌++◌, ◌∙◌, ◌<◌, ◌≤◌, ℕ, zero, suc, Bool, true, false, List, [], ◌∷◌, length, take, drop, get_or, refl, ap, sym, arith, cond, add-one, append_assoc, length-append}
use Rattle.std.specs.Prelude.{◌==◌, Option, Some, None, slice_get, nat_lt, sum_by, ◌&&◌}
use Rattle.std.specs.List.{AllByRecursion}
use Rattle.std.proofs.lemmas.Bool.{ltb-true, ltb-false}
use Rattle.std.proofs.lemmas.Grind.{common_steps}
use Rattle.std.proofs.lemmas.List.Sums.{sum_by-cons, sum_by-append, sum_by-take-drop, sum_by-drop_more}
use Rattle.std.proofs.lemmas.Option.{slice_get-get_or}
use Rattle.std.proofs.lemmas.List.{drop-append-le, take-append-le, take_more, take_all, length-take-le, append-nil}
use Rattle.item_tree.specs.Heads.{nothing, attributes_len, visibility_len, qualifiers_len}
use Rattle.item_tree.specs.ItemParts.{first_item, bounded, begins_inner_attribute, inner_attribute, behind_attributes, parts_by}
use Rattle.item_tree.specs.CfgSelects as select
use Rattle.item_tree.specs.CfgIfs.{arm_head, arm_by, first_in, kind_behind, level_kind}
use Rattle.item_tree.specs.ItemKinds.{item_kind}
use Rattle.item_tree.specs.ItemEnds.{item_end}
use Rattle.item_tree.specs.declared.cfg.cfg_if.LevelKind.{LevelKind}
use Rattle.item_tree.specs.declared.cfg.cfg_if.LevelKind.TheVariants.{Items, FirstArm, OtherArm, NoArm, SelectArm}
use Rattle.item_tree.specs.declared.items.item_kind.ItemKind.{ItemKind}
use Rattle.item_tree.specs.declared.items.item_kind.ItemKind.TheVariants as item
use Rattle.item_tree.specs.Items.{placed, body_of, body_at, body_of_tree, items_from, level_of, within, level_in, inner_level, inner_level_of, inner_level_at, contains_items, children_from, top_level_of}
use Rattle.item_tree.specs.Trees.{single, tree_of, partner_at, trees_from, trees_of}
use Rattle.item_tree.specs.declared.items.Item.{Item}
use Rattle.item_tree.specs.declared.items.Range.{Range}
use Rattle.item_tree.specs.declared.lexer.lexeme.Delimiter.TheVariants.{Parenthesis, Bracket, Brace}
use Rattle.item_tree.specs.declared.lexer.lexeme.Lexeme.{Lexeme}
use Rattle.item_tree.specs.declared.lexer.lexeme.LexemeKind.{LexemeKind}
use Rattle.item_tree.specs.declared.lexer.lexeme.LexemeKind.TheVariants.{Word, Open, Close, Mark, Lifetime, Str, Literal, Error}
use Rattle.item_tree.specs.declared.lexer.trees.Tree.{Tree}

abbrev pub size : Tree → ℕ
size t = t.behind - t.first

abbrev pub range_size : Option Range → ℕ
range_size None = 0
range_size (Some r) = r.behind - r.first

abbrev pub weight : Item → ℕ
weight x = range_size x.body + 1

none_more : (k : ℕ) → k ≡ k + 0
none_more k = omega arith

one_further : (k n : ℕ) → (k + 1) + n ≡ k + suc n
one_further k n = omega arith

not_zero : (n : ℕ) → (n == 0) ≡ false → 0 < n
not_zero n e = grind (arith, common_steps)

-- a tree has a lexeme, and lies before the end of its level
pub record Sized (i end : ℕ) (t : Tree) : Type 0 where
  pub begins : t.first ≡ i
  pub some : i < t.behind
  pub before : t.behind ≤ end

single_sized : (k : LexemeKind) (i end : ℕ) → i < end → Sized i end (single k i)
single_sized k i end h = record { begins = refl; some = omega arith; before = omega arith }

pub both_hold : (a b : Bool) → (a && b) ≡ true → (a ≡ true) × (b ≡ true)
both_hold true true e = (refl, refl)
both_hold true false e = cc
both_hold false b e = cc

pub tree_sized : (k : LexemeKind) (i partner end : ℕ) → i < end → Sized i end (tree_of k i partner end)
tree_sized (Open d) i partner end h = by (nat_lt i partner && nat_lt partner end) refl
  where
    by : (b : Bool) → (nat_lt i partner && nat_lt partner end) ≡ b → Sized i end (cond b (record { kind = Open d; first = i; behind = partner + 1 }) (single Error i))
    by true e =
        let a = both_hold (nat_lt i partner) (nat_lt partner end) e in
        let low = ltb-true i partner a.0 in
        let high = ltb-true partner end a.1 in
        record { begins = refl; some = omega arith; before = omega arith }
    by false e = single_sized Error i end h
tree_sized (Close d) i partner end h = single_sized Error i end h
tree_sized (Word w) i partner end h = single_sized (Word w) i end h
tree_sized (Mark b) i partner end h = single_sized (Mark b) i end h
tree_sized Lifetime i partner end h = single_sized Lifetime i end h
tree_sized Str i partner end h = single_sized Str i end h
tree_sized Literal i partner end h = single_sized Literal i end h
tree_sized Error i partner end h = single_sized Error i end h

abbrev pub IsSized : Tree → Type 0
IsSized t = t.first < t.behind

-- each tree of a level has a lexeme, and together they are no more than the level
record Fits (ts : List Tree) (n : ℕ) : Type 0 where
  pub each : AllByRecursion IsSized ts
  pub total : sum_by size ts ≤ n

trees_fit : (partners : List ℕ) (end n i : ℕ) (ls : List Lexeme) → Fits (trees_from partners end n i ls) (end - (i + n))
trees_fit partners end n i [] = record { each = tt; total = omega arith }
trees_fit partners end zero i (l ∷ ls) = by (nat_lt i end) refl (λ h. tree_sized l.kind i (partner_at partners i) end h) (trees_fit partners end (t.behind - (i + 1)) (i + 1) ls)
  where
    t : Tree
    t = tree_of l.kind i (partner_at partners i) end

    by : (b : Bool) → nat_lt i end ≡ b → (i < end → Sized i end t) → Fits (trees_from partners end (t.behind - (i + 1)) (i + 1) ls) (end - ((i + 1) + (t.behind - (i + 1))))
        → Fits (cond b (t ∷ trees_from partners end (t.behind - (i + 1)) (i + 1) ls) []) (end - (i + 0))
    by true e sized rest =
        let s = sized (ltb-true i end e) in
        let begins = s.begins in
        let some = s.some in
        let before = s.before in
        let others = rest.total in
        record {
          each = (omega arith, rest.each);
          total = omega (arith, sum_by-cons size t (trees_from partners end (t.behind - (i + 1)) (i + 1) ls));
        }
    by false e sized rest = record { each = tt; total = omega arith }
trees_fit partners end (suc n) i (l ∷ ls) =
    let rest = trees_fit partners end n (i + 1) ls in
    let total = rest.total in
    record { each = rest.each; total = omega arith }

-- what stands between the braces of a tree is less than the tree
body_weighs : (k : LexemeKind) (first behind : ℕ) → first < behind → range_size (body_of k first behind) + 1 ≤ behind - first
body_weighs (Open Brace) first behind h = by (nat_lt first behind)
  where
    by : (b : Bool) → range_size (cond b (Some (record { first = first + 1; behind = behind - 1 })) None) + 1 ≤ behind - first
    by true = omega arith
    by false = omega arith
body_weighs (Open Parenthesis) first behind h = omega arith
body_weighs (Open Bracket) first behind h = omega arith
body_weighs (Close d) first behind h = omega arith
body_weighs (Word w) first behind h = omega arith
body_weighs (Mark b) first behind h = omega arith
body_weighs Lifetime first behind h = omega arith
body_weighs Str first behind h = omega arith
body_weighs Literal first behind h = omega arith
body_weighs Error first behind h = omega arith

sized_at : (ts : List Tree) (i : ℕ) (d : Tree) → AllByRecursion IsSized ts → i < length ts → IsSized (get_or ts i d)
sized_at [] i d all h = absurd (omega arith)
sized_at (t ∷ ts) zero d all h = all.0
sized_at (t ∷ ts) (suc i) d all h = sized_at ts i d all.1 (omega arith)

pub record Within (n top : ℕ) : Type 0 where
  pub some : 0 < n
  pub most : n ≤ top

bounded_within : (n top : ℕ) → 0 < top → Within (bounded n top) top
bounded_within n top h = by (n == 0) refl (nat_lt top n) refl
  where
    by : (a : Bool) → (n == 0) ≡ a → (b : Bool) → nat_lt top n ≡ b → Within (cond a 1 (cond b top n)) top
    by true e b f = record { some = omega arith; most = omega arith }
    by false e true f = record { some = h; most = omega arith }
    by false e false f =
        let less = ltb-false top n f in
        let there = not_zero n e in
        record { some = there; most = less }

parts_within : (k : ItemKind) (a v w : ℕ) (ts : List Tree) → 0 < length ts → Within (parts_by k a v w ts).len (length ts)
parts_within k a v w ts h = bounded_within (w + (item_end k (drop w ts)).len) (length ts) h

behind_within : (a : ℕ) (ts : List Tree) → 0 < length ts → Within (behind_attributes a ts).len (length ts)
behind_within a ts h =
    let v = a + visibility_len (drop a ts) in
    let w = v + qualifiers_len nothing (drop v ts) in
    parts_within (item_kind (drop w ts)) a v w ts h

pub first_within : (ts : List Tree) → 0 < length ts → Within (first_item ts).len (length ts)
unfolding first_item
first_within ts h = by (begins_inner_attribute ts)
  where
    by : (b : Bool) → Within (cond b (inner_attribute ts) (behind_attributes (attributes_len nothing ts) ts)).len (length ts)
    by true = bounded_within 3 (length ts) h
    by false = behind_within (attributes_len nothing ts) ts h

arm_within : (head : ℕ) (ts : List Tree) → 0 < length ts → Within (arm_by head ts).len (length ts)
arm_within head ts h = bounded_within (head + 1) (length ts) h

select_within : (ts : List Tree) → 0 < length ts → Within (select.select_arm ts).len (length ts)
select_within ts h = by (select.is_arm_at n (drop c ts)) (select.is_comma_alone ts)
  where
    c : ℕ
    c = select.comma_len ts

    n : ℕ
    n = select.before_arrow nothing (drop c ts)

    by : (a b : Bool) → Within (cond a (select.parts_by item.CfgArm c (c + n - 1) (c + n + 2) ts) (cond b (select.parts_by item.CfgArm 1 1 1 ts) (select.parts_by item.Error 0 0 1 ts))).len (length ts)
    by true b = bounded_within (c + n + 2) (length ts) h
    by false true = bounded_within 1 (length ts) h
    by false false = bounded_within 1 (length ts) h

pub level_within : (kind : LevelKind) (ts : List Tree) → 0 < length ts → Within (first_in kind ts).len (length ts)
level_within Items ts h = first_within ts h
level_within FirstArm ts h = arm_within (arm_head FirstArm ts) ts h
level_within OtherArm ts h = arm_within (arm_head OtherArm ts) ts h
level_within NoArm ts h = arm_within (arm_head NoArm ts) ts h
level_within SelectArm ts h = select_within ts h

-- the items of a level weigh no more than its trees
items_weigh : (kind : LevelKind) (parent : Option ℕ) (end n : ℕ) (ts : List Tree) → AllByRecursion IsSized ts → sum_by weight (items_from kind parent end n ts) ≤ sum_by size (drop n ts)
items_weigh kind parent end n [] all = omega arith
items_weigh kind parent end zero (t ∷ ts) all =
    let p = first_in kind (t ∷ ts) in
    let w = level_within kind (t ∷ ts) (omega arith) in
    let some = w.some in
    let most = w.most in
    let m = p.len - 1 in
    let there : m < length (t ∷ ts) = omega arith in
    let u = get_or (t ∷ ts) m t in
    let last : slice_get (t ∷ ts) m ≡ Some u = slice_get-get_or (t ∷ ts) m t there in
    let light : range_size (body_of u.kind u.first u.behind) + 1 ≤ size u = body_weighs u.kind u.first u.behind (sized_at (t ∷ ts) m t all there) in
    let own : range_size (body_at (t ∷ ts) m) ≡ range_size (body_of u.kind u.first u.behind) = ap (λ (o : Option Tree). range_size (body_of_tree o)) last in
    let split = sum_by-drop_more size (t ∷ ts) m t there in
    let same_rest : sum_by size (drop (m + 1) (t ∷ ts)) ≡ sum_by size (drop m ts) = ap (λ n. sum_by size (drop n (t ∷ ts))) (add-one m) in
    let parts = sum_by-take-drop size (t ∷ ts) m in
    let rest = items_weigh (kind_behind kind p) parent end m ts all.1 in
    let sums = sum_by-cons weight (placed parent end p (t ∷ ts)) (items_from (kind_behind kind p) parent end m ts) in
    omega arith
items_weigh kind parent end (suc n) (t ∷ ts) all = items_weigh kind parent end n ts all.1

level_weighs : (lexemes : List Lexeme) (partners : List ℕ) (parent : Option ℕ) (kind : LevelKind) (range : Range)
    → sum_by weight (level_of lexemes partners parent (record { kind = kind; range = range })) ≤ range.behind - range.first
level_weighs lexemes partners parent kind range =
    let fit = trees_fit partners range.behind 0 range.first (drop range.first lexemes) in
    let total = fit.total in
    let items = items_weigh kind parent range.behind 0 (trees_of lexemes partners range.first range.behind) fit.each in
    omega arith

within_weighs : (lexemes : List Lexeme) (partners : List ℕ) (n : ℕ) (x : Item) → sum_by weight (within lexemes partners n (inner_level x)) < weight x
within_weighs lexemes partners n x = by (contains_items x.kind) x.body
  where
    by : (b : Bool) (body : Option Range) → sum_by weight (within lexemes partners n (cond b (level_in (level_kind x.kind) body) None)) < range_size body + 1
    by true None = omega arith
    by true (Some range) = let h = level_weighs lexemes partners (Some n) (level_kind x.kind) range in omega arith
    by false None = omega arith
    by false (Some range) = omega arith

-- an item by its number
at_number : (items : List Item) (n : ℕ) (d : Item) → n < length items → inner_level_at items n ≡ inner_level (get_or items n d)
at_number items n d h = ap inner_level_of (slice_get-get_or items n d h)

-- once the items in the next one stand behind the others, less is left
pub less_left : (lexemes : List Lexeme) (partners : List ℕ) (items more : List Item) (n : ℕ) (d : Item) → n < length items
    → more ≡ items ++ within lexemes partners n (inner_level_at items n) → sum_by weight (drop (n + 1) more) < sum_by weight (drop n items)
less_left lexemes partners items more n d h is =
    let x = get_or items n d in
    let inner = within lexemes partners n (inner_level_at items n) in
    let same : sum_by weight inner ≡ sum_by weight (within lexemes partners n (inner_level x)) = ap (λ r. sum_by weight (within lexemes partners n r)) (at_number items n d h) in
    let light = within_weighs lexemes partners n x in
    let low : n + 1 ≤ length items = omega arith in
    let cut : sum_by weight (drop (n + 1) more) ≡ sum_by weight (drop (n + 1) items ++ inner) = ap (λ xs. sum_by weight (drop (n + 1) xs)) is ∙ ap (sum_by weight) (drop-append-le (n + 1) items inner low) in
    let sums = sum_by-append weight (drop (n + 1) items) inner in
    let split = sum_by-drop_more weight items n d h in
    omega arith

children_more : (lexemes : List Lexeme) (partners : List ℕ) (k : ℕ) (xs : List Item) (x : Item)
    → children_from lexemes partners k (xs ++ x ∷ []) ≡ children_from lexemes partners k xs ++ within lexemes partners (k + length xs) (inner_level x)
children_more lexemes partners k [] x = append-nil (within lexemes partners k (inner_level x)) ∙ ap (λ n. within lexemes partners n (inner_level x)) (none_more k)
children_more lexemes partners k (y ∷ xs) x =
    ap (λ zs. within lexemes partners k (inner_level y) ++ zs) (children_more lexemes partners (k + 1) xs x)
    ∙ (sym (append_assoc (within lexemes partners k (inner_level y)) (children_from lexemes partners (k + 1) xs) (within lexemes partners ((k + 1) + length xs) (inner_level x)))
    ∙ ap (λ n. (within lexemes partners k (inner_level y) ++ children_from lexemes partners (k + 1) xs) ++ within lexemes partners n (inner_level x)) (one_further k (length xs)))

-- the items of the top level, and those in the first so many items
pub record Reading (lexemes : List Lexeme) (partners : List ℕ) (top number : ℕ) (items : List Item) : Type 0 where
  pub in_range : number ≤ length items
  pub top_in_range : top ≤ length items
  pub top_level : take top items ≡ top_level_of lexemes partners
  pub read : items ≡ top_level_of lexemes partners ++ children_from lexemes partners 0 (take number items)

pub read_more : (lexemes : List Lexeme) (partners : List ℕ) (top number : ℕ) (items more : List Item) (d : Item) → number < length items → Reading lexemes partners top number items
    → more ≡ items ++ within lexemes partners number (inner_level_at items number) → Reading lexemes partners top (number + 1) more
read_more lexemes partners top number items more d h r is =
    let inner = within lexemes partners number (inner_level_at items number) in
    let x = get_or items number d in
    let longer : length more ≡ length items + length inner = ap length is ∙ length-append items inner in
    let high = r.top_in_range in
    let low : number + 1 ≤ length items = omega arith in
    let within_is : inner ≡ within lexemes partners number (inner_level x) = ap (λ o. within lexemes partners number o) (at_number items number d h) in
    let front : take (number + 1) more ≡ take number items ++ x ∷ [] = ap (take (number + 1)) is ∙ (take-append-le (number + 1) items inner low ∙ take_more items number d h) in
    let size_is : 0 + length (take number items) ≡ number = omega (arith, length-take-le number items r.in_range) in
    let all : children_from lexemes partners 0 (take (number + 1) more) ≡ children_from lexemes partners 0 (take number items) ++ inner
    = ap (λ xs. children_from lexemes partners 0 xs) front
    ∙ (children_more lexemes partners 0 (take number items) x
    ∙ (ap (λ n. children_from lexemes partners 0 (take number items) ++ within lexemes partners n (inner_level x)) size_is ∙ ap (λ zs. children_from lexemes partners 0 (take number items) ++ zs) (sym within_is))) in
    record {
      in_range = omega arith;
      top_in_range = omega arith;
      top_level = ap (take top) is ∙ (take-append-le top items inner high ∙ r.top_level);
      read = is
          ∙ (ap (λ xs. xs ++ inner) r.read
          ∙ (append_assoc (top_level_of lexemes partners) (children_from lexemes partners 0 (take number items)) inner ∙ ap (λ zs. top_level_of lexemes partners ++ zs) (sym all)));
    }

pub read_top : (lexemes : List Lexeme) (partners : List ℕ) (top : ℕ) (items : List Item) → items ≡ top_level_of lexemes partners → top ≡ length items → Reading lexemes partners top 0 items
read_top lexemes partners top items is size_is = record {
  in_range = omega arith;
  top_in_range = omega arith;
  top_level = take_all top items (omega arith) ∙ is;
  read = is ∙ sym (append-nil (top_level_of lexemes partners));
}

pub all_read : (lexemes : List Lexeme) (partners : List ℕ) (top number : ℕ) (items : List Item) → length items ≤ number → Reading lexemes partners top number items
    → items ≡ top_level_of lexemes partners ++ children_from lexemes partners 0 items
all_read lexemes partners top number items h r = r.read ∙ ap (λ xs. top_level_of lexemes partners ++ children_from lexemes partners 0 xs) (take_all number items h)

-- any item
pub an_item : Item
an_item = record {
  kind = item.Error;
  parent = None;
  first = 0;
  visibility = 0;
  qualifiers = 0;
  word = 0;
  name = None;
  behind = 0;
  body = None;
  missing = None;
}
