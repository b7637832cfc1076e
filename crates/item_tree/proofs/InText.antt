-- Lexemes lie in the text that they are read from.
use Rattle.std.proofs.Common.{◌+◌, ◌≤◌, ℕ, List, [], ◌∷◌, arith, take, drop}
use Rattle.std.specs.Prelude.{Option, Some, None, sum_by, All}
use Rattle.std.proofs.lemmas.List.Elements.{All-nil, All-cons, All-append}
use Rattle.std.proofs.lemmas.List.Sums.{sum_by-cons}
use Rattle.dm_base.specs.declared.edition.Edition.{Edition}
use Rattle.item_tree.specs.Lexemes.{LiesIn, classify, placed, lexeme_of, lexemes_of}
use Rattle.item_tree.specs.declared.lexer.lexeme.LexemeKind.{LexemeKind}
use Rattle.item_tree.specs.declared.lexer.token.Token.{Token}

placed_lies : (size start len : ℕ) (k : Option LexemeKind) → start + len ≤ size → All (LiesIn size) (placed start len k)
placed_lies size start len None h = All-nil (LiesIn size)
placed_lies size start len (Some k) h = All-cons (LiesIn size) (record { kind = k; start = start; len = len }) [] h (All-nil (LiesIn size))

pub all_lie : (edition : Edition) (size start : ℕ) (ts : List Token) (rest : List ℕ) → start + sum_by (λ (t : Token). t.len) ts ≤ size → All (LiesIn size) (lexemes_of edition start ts rest)
all_lie edition size start [] rest h = All-nil (LiesIn size)
all_lie edition size start (t ∷ ts) rest h =
    let sums = sum_by-cons (λ (t : Token). t.len) t ts in
    All-append (LiesIn size) (lexeme_of edition start t rest) (lexemes_of edition (start + t.len) ts (drop t.len rest))
    (placed_lies size start t.len (classify edition t.kind (take t.len rest)) (omega (arith, sums, h)))
    (all_lie edition size (start + t.len) ts (drop t.len rest) (omega (arith, sums, h)))
