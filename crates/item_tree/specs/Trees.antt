-- The lexemes of a level: single ones, and whole groups between delimiters.
use Rattle.std.specs.Prelude.{◌+◌, ◌-◌, ◌&&◌, ℕ, zero, suc, List, [], ◌∷◌, Option, Some, None, nat_lt, drop, slice_get, if◌then◌else◌}
use Rattle.item_tree.specs.declared.lexer.lexeme.LexemeKind.{LexemeKind}
use Rattle.item_tree.specs.declared.lexer.lexeme.LexemeKind.TheVariants.{Open, Close, Error}
use Rattle.item_tree.specs.declared.lexer.lexeme.Lexeme.{Lexeme}
use Rattle.item_tree.specs.declared.lexer.trees.Tree.{Tree}

abbrev pub single : LexemeKind → ℕ → Tree
single k i = record { kind = k; first = i; behind = i + 1 }

-- the tree that begins with a lexeme at a place: a group, where its partner stands behind it and before the end of
-- the level; a delimiter without such a partner is an error, and any other lexeme is one tree
abbrev pub tree_of : LexemeKind → ℕ → ℕ → ℕ → Tree
tree_of (Open d) i partner end = if nat_lt i partner && nat_lt partner end then record { kind = Open d; first = i; behind = partner + 1 } else single Error i
tree_of (Close d) i partner end = single Error i
tree_of k i partner end = single k i

abbrev pub told_or : Option ℕ → ℕ → ℕ
told_or None i = i
told_or (Some partner) i = partner

abbrev pub partner_at : List ℕ → ℕ → ℕ
partner_at partners i = told_or (slice_get partners i) i

-- the trees of the lexemes from a place up to an end, but for the first so many, which are in a group before
abbrev pub trees_from : List ℕ → ℕ → ℕ → ℕ → List Lexeme → List Tree
trees_from partners end skipped i [] = []
trees_from partners end zero i (l ∷ ls) =
    if nat_lt i end
    then (tree_of l.kind i (partner_at partners i) end) ∷ trees_from partners end ((tree_of l.kind i (partner_at partners i) end).behind - (i + 1)) (i + 1) ls
    else []
trees_from partners end (suc n) i (l ∷ ls) = trees_from partners end n (i + 1) ls

-- the trees of the lexemes from a place up to an end
abbrev pub trees_of : List Lexeme → List ℕ → ℕ → ℕ → List Tree
trees_of lexemes partners from end = trees_from partners end 0 from (drop from lexemes)
