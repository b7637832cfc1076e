-- The search for the end of an item, where qualifiers may be those of the next one.
use Rattle.std.proofs.Common.{◌≡◌, ◌+◌, ◌<◌, ℕ, Bool, true, false, List, [], ◌∷◌, length, drop, get_or, refl, ap, sym, ◌∙◌, arith, cond, drop-cons, add-one}
use Rattle.std.specs.Prelude.{◌||◌, ◌&&◌, Option}
use Rattle.item_tree.specs.Beginnings.{begins_another, another_begins}
use Rattle.item_tree.specs.Heads.{is_qualifier}
use Rattle.item_tree.specs.ItemEnds.{ends_item, depth_behind, depth_in, calls_macro, complete, later, cut, up_to_end}
use Rattle.item_tree.specs.declared.items.expected.Expected.{Expected}
use Rattle.item_tree.specs.declared.items.item_end.ItemEnd.{ItemEnd}
use Rattle.item_tree.specs.declared.items.item_kind.ItemKind.{ItemKind}
use Rattle.item_tree.specs.declared.items.item_kind.ItemKind.TheVariants as item
use Rattle.item_tree.specs.declared.lexer.lexeme.LexemeKind.{LexemeKind}
use Rattle.item_tree.specs.declared.lexer.lexeme.LexemeKind.TheVariants.{Word, Open, Close, Mark, Lifetime, Str, Literal, Error}
use Rattle.item_tree.specs.declared.lexer.trees.Tree.{Tree}

-- the end, where so many trees are the item's own, and qualifiers stand behind them up to a place
abbrev pub pending : ItemKind → ℕ → ℕ → LexemeKind → ℕ → Bool → List Tree → ItemEnd
pending kind own at before depth calls ts =
    cond (another_begins kind depth before ts) (later own (cut kind)) (later at (up_to_end kind before depth calls ts))

abbrev pub end_of : ℕ → Option Expected → ItemEnd
end_of n m = record { len = n; missing = m }

same_len : (a b : ℕ) (m : Option Expected) → a ≡ b → end_of a m ≡ end_of b m
same_len a b m e = ap (λ n. end_of n m) e

no_later : (e : ItemEnd) → later 0 e ≡ e
no_later e = same_len (0 + e.len) e.len e.missing (omega arith)

later_later : (n : ℕ) (e : ItemEnd) → later n (later 1 e) ≡ later (n + 1) e
later_later n e = same_len (n + (1 + e.len)) ((n + 1) + e.len) e.missing (omega arith)

-- where another begins the item ends
cut_where : (kind : ItemKind) (before : LexemeKind) (depth : ℕ) (calls : Bool) (ts : List Tree) → another_begins kind depth before ts ≡ true → up_to_end kind before depth calls ts ≡ cut kind
cut_where kind before depth calls [] e = cc
cut_where kind before depth calls (t ∷ ts) e =
    ap (λ b. cond b (cut kind) (cond (ends_item kind depth calls t.kind) (complete 1) (later 1 (up_to_end kind t.kind (depth_in kind before depth t.kind) (calls_macro before t.kind) ts)))) e

pub at_start : (kind : ItemKind) (before : LexemeKind) (depth : ℕ) (calls : Bool) (ts : List Tree) → pending kind 0 0 before depth calls ts ≡ up_to_end kind before depth calls ts
at_start kind before depth calls ts = by (another_begins kind depth before ts) refl
  where
    by : (b : Bool) → another_begins kind depth before ts ≡ b → cond b (later 0 (cut kind)) (later 0 (up_to_end kind before depth calls ts)) ≡ up_to_end kind before depth calls ts
    by true e = no_later (cut kind) ∙ sym (cut_where kind before depth calls ts e)
    by false e = no_later (up_to_end kind before depth calls ts)

-- a qualifier opens no angle brackets
plain_depth : (kind : ItemKind) (before : LexemeKind) (depth : ℕ) (k : LexemeKind) → depth_behind before depth k ≡ depth → depth_in kind before depth k ≡ depth
plain_depth item.Const before depth k e = refl
plain_depth item.Static before depth k e = refl
plain_depth _ before depth k e = e

same_depth : (kind : ItemKind) (before : LexemeKind) (depth : ℕ) (k : LexemeKind) (ts : List Tree) → is_qualifier before k ts ≡ true → depth_in kind before depth k ≡ depth
same_depth kind before depth (Word w) ts e = plain_depth kind before depth (Word w) refl
same_depth kind before depth Str ts e = plain_depth kind before depth Str refl
same_depth kind before depth (Open d) ts e = cc
same_depth kind before depth (Close d) ts e = cc
same_depth kind before depth (Mark b) ts e = cc
same_depth kind before depth Lifetime ts e = cc
same_depth kind before depth Literal ts e = cc
same_depth kind before depth Error ts e = cc

-- and ends no item
no_qualifier : (kind : ItemKind) (before : LexemeKind) (depth : ℕ) (calls : Bool) (k : LexemeKind) (ts : List Tree) → ends_item kind depth calls k ≡ true → is_qualifier before k ts ≡ false
no_qualifier kind before depth calls (Word w) ts e = cc
no_qualifier kind before depth calls Str ts e = cc
no_qualifier kind before depth calls (Open d) ts e = refl
no_qualifier kind before depth calls (Close d) ts e = refl
no_qualifier kind before depth calls (Mark b) ts e = refl
no_qualifier kind before depth calls Lifetime ts e = refl
no_qualifier kind before depth calls Literal ts e = refl
no_qualifier kind before depth calls Error ts e = refl

-- the trees from a place on, of which the first is no end and begins no other item
pub further : (kind : ItemKind) (own at : ℕ) (before : LexemeKind) (depth : ℕ) (calls : Bool) (t : Tree) (ts : List Tree) (own_next depth_next : ℕ) (calls_next : Bool) → begins_another kind depth before t.kind ts ≡ false
    → ends_item kind depth calls t.kind ≡ false → own_next ≡ cond (is_qualifier before t.kind ts) own (at + 1) → depth_next ≡ depth_in kind before depth t.kind
    → calls_next ≡ calls_macro before t.kind → pending kind own_next (at + 1) t.kind depth_next calls_next ts ≡ pending kind own at before depth calls (t ∷ ts)
further kind own at before depth calls t ts own_next depth_next calls_next b e is same called = by (is_qualifier before t.kind ts) refl (another_begins kind depth t.kind ts) refl
  where
    rest : ItemEnd
    rest = up_to_end kind t.kind (depth_in kind before depth t.kind) (calls_macro before t.kind) ts

    -- what is pending before the tree, where the tests have these answers
    before_it : Bool → Bool → Bool → Bool → ItemEnd
    before_it begins ends q a = cond (begins || (q && a)) (later own (cut kind)) (later at (cond (begins || (q && a)) (cut kind) (cond ends (complete 1) (later 1 rest))))

    simpler : (q a : Bool) → is_qualifier before t.kind ts ≡ q → another_begins kind depth t.kind ts ≡ a → pending kind own at before depth calls (t ∷ ts) ≡ before_it false false q a
    simpler q a f g =
        ap (λ x. before_it x (ends_item kind depth calls t.kind) (is_qualifier before t.kind ts) (another_begins kind depth t.kind ts)) b
        ∙ (ap (λ x. before_it false x (is_qualifier before t.kind ts) (another_begins kind depth t.kind ts)) e
        ∙ (ap (λ x. before_it false false x (another_begins kind depth t.kind ts)) f ∙ ap (λ x. before_it false false q x) g))

    next : pending kind own_next (at + 1) t.kind depth_next calls_next ts ≡ pending kind own_next (at + 1) t.kind (depth_in kind before depth t.kind) (calls_macro before t.kind) ts
    next = ap (λ n. pending kind own_next (at + 1) t.kind n calls_next ts) same
        ∙ ap (λ c. pending kind own_next (at + 1) t.kind (depth_in kind before depth t.kind) c ts) called

    own_is : (q : Bool) → is_qualifier before t.kind ts ≡ q → own_next ≡ cond q own (at + 1)
    own_is q f = is ∙ ap (λ x. cond x own (at + 1)) f

    -- and behind it
    behind_it : (n : ℕ) (a : Bool) → own_next ≡ n → another_begins kind (depth_in kind before depth t.kind) t.kind ts ≡ a
        → pending kind own_next (at + 1) t.kind (depth_in kind before depth t.kind) (calls_macro before t.kind) ts ≡ cond a (later n (cut kind)) (later (at + 1) rest)
    behind_it n a f g =
        ap (λ m. pending kind m (at + 1) t.kind (depth_in kind before depth t.kind) (calls_macro before t.kind) ts) f ∙ ap (λ x. cond x (later n (cut kind)) (later (at + 1) rest)) g

    -- where no qualifier stands
    plain : (a : Bool) → another_begins kind (depth_in kind before depth t.kind) t.kind ts ≡ a → cond a (later (at + 1) (cut kind)) (later (at + 1) rest) ≡ later at (later 1 rest)
    plain true g = ap (λ x. later (at + 1) x) (sym (cut_where kind t.kind (depth_in kind before depth t.kind) (calls_macro before t.kind) ts g)) ∙ sym (later_later at rest)
    plain false g = sym (later_later at rest)

    by : (q : Bool) → is_qualifier before t.kind ts ≡ q → (a : Bool) → another_begins kind depth t.kind ts ≡ a
        → pending kind own_next (at + 1) t.kind depth_next calls_next ts ≡ pending kind own at before depth calls (t ∷ ts)
    by true f true g =
        let there = ap (λ n. another_begins kind n t.kind ts) (same_depth kind before depth t.kind ts f) ∙ g in
        next ∙ (behind_it own true (own_is true f) there ∙ sym (simpler true true f g))
    by true f false g =
        let there = ap (λ n. another_begins kind n t.kind ts) (same_depth kind before depth t.kind ts f) ∙ g in
        next ∙ (behind_it own false (own_is true f) there ∙ (sym (later_later at rest) ∙ sym (simpler true false f g)))
    by false f a g =
        next
        ∙ (behind_it (at + 1) (another_begins kind (depth_in kind before depth t.kind) t.kind ts) (own_is false f) refl
        ∙ (plain (another_begins kind (depth_in kind before depth t.kind) t.kind ts) refl ∙ sym (simpler false a f g)))

pub next_pending : (kind : ItemKind) (own at : ℕ) (before : LexemeKind) (depth : ℕ) (calls : Bool) (trees seen : List Tree) (d : Tree) (b e q : Bool) (own_next depth_next : ℕ) (calls_next : Bool) → at < length trees
    → seen ≡ drop (at + 1) trees → b ≡ begins_another kind depth before (get_or trees at d).kind seen → b ≡ false → e ≡ ends_item kind depth calls (get_or trees at d).kind → e ≡ false
    → q ≡ is_qualifier before (get_or trees at d).kind seen → own_next ≡ cond q own (at + 1) → depth_next ≡ depth_in kind before depth (get_or trees at d).kind
    → calls_next ≡ calls_macro before (get_or trees at d).kind
    → pending kind own_next (at + 1) (get_or trees at d).kind depth_next calls_next (drop (at + 1) trees) ≡ pending kind own at before depth calls (drop at trees)
next_pending kind own at before depth calls trees seen d b e q own_next depth_next calls_next within same b_is b_no e_is e_no q_is own_is depth_is calls_is =
    let t = get_or trees at d in
    let begins : begins_another kind depth before t.kind (drop (at + 1) trees) ≡ false = ap (λ ts. begins_another kind depth before t.kind ts) (sym same) ∙ (sym b_is ∙ b_no) in
    let qualifies : own_next ≡ cond (is_qualifier before t.kind (drop (at + 1) trees)) own (at + 1)
    = own_is ∙ ap (λ x. cond x own (at + 1)) (q_is ∙ ap (λ ts. is_qualifier before t.kind ts) same) in
    let next : drop at trees ≡ t ∷ drop (at + 1) trees = rw add-one (drop-cons trees at d within) in
    further kind own at before depth calls t (drop (at + 1) trees) own_next depth_next calls_next begins (sym e_is ∙ e_no) qualifies depth_is calls_is
    ∙ ap (λ ts. pending kind own at before depth calls ts) (sym next)

-- where a tree ends the item, nothing is pending
ended : (kind : ItemKind) (own at : ℕ) (before : LexemeKind) (depth : ℕ) (calls : Bool) (t : Tree) (ts : List Tree) → begins_another kind depth before t.kind ts ≡ false
    → ends_item kind depth calls t.kind ≡ true → pending kind own at before depth calls (t ∷ ts) ≡ complete (at + 1)
ended kind own at before depth calls t ts b e =
    ap (λ x. before_it x (ends_item kind depth calls t.kind) (is_qualifier before t.kind ts)) b
    ∙ (ap (λ x. before_it false x (is_qualifier before t.kind ts)) e ∙ ap (λ x. before_it false true x) (no_qualifier kind before depth calls t.kind ts e))
  where
    rest : ItemEnd
    rest = up_to_end kind t.kind (depth_in kind before depth t.kind) (calls_macro before t.kind) ts

    before_it : Bool → Bool → Bool → ItemEnd
    before_it begins ends q =
        cond (begins || (q && another_begins kind depth t.kind ts)) (later own (cut kind))
        (later at (cond (begins || (q && another_begins kind depth t.kind ts)) (cut kind) (cond ends (complete 1) (later 1 rest))))

pub ends_here : (kind : ItemKind) (own at : ℕ) (before : LexemeKind) (depth : ℕ) (calls : Bool) (trees seen : List Tree) (d : Tree) (b e : Bool) → at < length trees
    → seen ≡ drop (at + 1) trees → b ≡ begins_another kind depth before (get_or trees at d).kind seen → b ≡ false → e ≡ ends_item kind depth calls (get_or trees at d).kind → e ≡ true
    → pending kind own at before depth calls (drop at trees) ≡ complete (at + 1)
ends_here kind own at before depth calls trees seen d b e within same b_is b_no e_is e_yes =
    let t = get_or trees at d in
    let begins : begins_another kind depth before t.kind (drop (at + 1) trees) ≡ false = ap (λ ts. begins_another kind depth before t.kind ts) (sym same) ∙ (sym b_is ∙ b_no) in
    let next : drop at trees ≡ t ∷ drop (at + 1) trees = rw add-one (drop-cons trees at d within) in
    ap (λ ts. pending kind own at before depth calls ts) next ∙ ended kind own at before depth calls t (drop (at + 1) trees) begins (sym e_is ∙ e_yes)
