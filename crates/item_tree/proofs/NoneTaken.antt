-- An item takes no tree that begins another.
use Rattle.std.proofs.Common.{◌≡◌, ◌+◌, ℕ, suc, Bool, true, false, List, [], ◌∷◌, refl, subst, arith, cond}
use Rattle.std.specs.Prelude.{◌||◌}
use Rattle.item_tree.specs.Beginnings.{begins_anywhere, begins_another, another_begins}
use Rattle.item_tree.specs.ItemEnds.{ends_item, depth_in, calls_macro, complete, later, cut, up_to_end}
use Rattle.item_tree.specs.NoneTaken.{NoneBegins}
use Rattle.item_tree.specs.declared.items.item_end.ItemEnd.{ItemEnd}
use Rattle.item_tree.specs.declared.items.item_kind.ItemKind.{ItemKind}
use Rattle.item_tree.specs.declared.lexer.lexeme.LexemeKind.{LexemeKind}
use Rattle.item_tree.specs.declared.lexer.trees.Tree.{Tree}

first_of : (a b : Bool) → (a || b) ≡ false → a ≡ false
first_of true b e = cc
first_of false b e = refl

one_more : (n : ℕ) → suc n ≡ 1 + n
one_more n = omega arith

pub none_taken : (kind : ItemKind) (before : LexemeKind) (depth : ℕ) (calls : Bool) (ts : List Tree) → NoneBegins (up_to_end kind before depth calls ts).len ts
none_taken kind before depth calls [] = tt
none_taken kind before depth calls (t ∷ ts) =
    by (another_begins kind depth before (t ∷ ts)) refl (ends_item kind depth calls t.kind) (none_taken kind t.kind (depth_in kind before depth t.kind) (calls_macro before t.kind) ts)
  where
    rest : ItemEnd
    rest = up_to_end kind t.kind (depth_in kind before depth t.kind) (calls_macro before t.kind) ts

    plain : another_begins kind depth before (t ∷ ts) ≡ false → begins_anywhere t.kind ts ≡ false
    plain e = first_of (begins_anywhere t.kind ts) _ (first_of (begins_another kind depth before t.kind ts) _ e)

    by : (a : Bool) → another_begins kind depth before (t ∷ ts) ≡ a → (b : Bool) → NoneBegins rest.len ts → NoneBegins (cond a (cut kind) (cond b (complete 1) (later 1 rest))).len (t ∷ ts)
    by true e b h = tt
    by false e true h = (plain e, tt)
    by false e false h = let more : NoneBegins (suc rest.len) (t ∷ ts) = (plain e, h) in subst (λ n. NoneBegins n (t ∷ ts)) (one_more rest.len) more
