-- The grammar of predicates of `cfg`: how each is written in lexemes, and which predicate it is.
use Rattle.std.specs.Prelude.{◌≡◌, ℕ, true, List, [], ◌∷◌, ◌++◌, Option, Some, None, option_to_list}
use Rattle.item_tree.specs.Cfg as cfg
use Rattle.item_tree.specs.Cfg.{CfgExpr, CfgExprs}
use Rattle.item_tree.specs.CfgReading.{span_of, is_text, may_have_value}
use Rattle.item_tree.specs.declared.lexer.word.Word.{Word}
use Rattle.item_tree.specs.declared.lexer.word.Word.TheVariants as word
use Rattle.item_tree.specs.declared.lexer.lexeme.Delimiter.TheVariants.{Parenthesis}
use Rattle.item_tree.specs.declared.lexer.lexeme.LexemeKind.TheVariants as kind
use Rattle.item_tree.specs.declared.lexer.lexeme.Lexeme.{Lexeme}

-- a predicate as it is written: a word; a word, `=` and a string; or a word and a list in parentheses, of which that
-- of `not` has one predicate, and maybe a comma
mutual
  pub data Written : Type 0 where
    True : Lexeme → Written
    False : Lexeme → Written
    Name : Lexeme → Written
    Pair : Lexeme → Lexeme → Lexeme → Written
    Not : Lexeme → Lexeme → Written → Option Lexeme → Lexeme → Written
    All : Lexeme → Lexeme → WrittenList → Written
    Any : Lexeme → Lexeme → WrittenList → Written

  -- what is left of a list: the parenthesis, a predicate and the parenthesis, or a predicate, a comma, and more
  pub data WrittenList : Type 0 where
    End : Lexeme → WrittenList
    Last : Written → Lexeme → WrittenList
    More : Written → Lexeme → WrittenList → WrittenList

-- its lexemes
abbrev mutual
  pub lexemes_of : Written → List Lexeme
  lexemes_of (True l) = l ∷ []
  lexemes_of (False l) = l ∷ []
  lexemes_of (Name l) = l ∷ []
  lexemes_of (Pair k e v) = k ∷ e ∷ v ∷ []
  lexemes_of (Not w o p m c) = w ∷ o ∷ (lexemes_of p ++ (option_to_list m ++ c ∷ []))
  lexemes_of (All w o ps) = w ∷ o ∷ list_lexemes_of ps
  lexemes_of (Any w o ps) = w ∷ o ∷ list_lexemes_of ps

  pub list_lexemes_of : WrittenList → List Lexeme
  list_lexemes_of (End c) = c ∷ []
  list_lexemes_of (Last p c) = lexemes_of p ++ c ∷ []
  list_lexemes_of (More p m ps) = lexemes_of p ++ m ∷ list_lexemes_of ps

abbrev pub IsWord : Word → Lexeme → Type 0
IsWord w l = l.kind ≡ kind.Word w

abbrev pub IsOpen : Lexeme → Type 0
IsOpen l = l.kind ≡ kind.Open Parenthesis

abbrev pub IsClose : Lexeme → Type 0
IsClose l = l.kind ≡ kind.Close Parenthesis

abbrev pub IsComma : Lexeme → Type 0
IsComma l = l.kind ≡ kind.Mark 44

abbrev pub MayBeComma : Option Lexeme → Type 0
MayBeComma None = Unit {0}
MayBeComma (Some l) = IsComma l

-- any word but `true` and `false`
abbrev pub IsName : Lexeme → Type 0
IsName l = (w : Word) × IsWord w l × (may_have_value w ≡ true)

-- each lexeme is what has to stand there
abbrev mutual
  pub IsPredicate : List ℕ → Written → Type 0
  IsPredicate text (True l) = IsWord word.True l
  IsPredicate text (False l) = IsWord word.False l
  IsPredicate text (Name l) = IsName l
  IsPredicate text (Pair k e v) = IsName k × (e.kind ≡ kind.Mark 61) × (v.kind ≡ kind.Str) × (is_text text v ≡ true)
  IsPredicate text (Not w o p m c) = IsWord word.Not w × IsOpen o × IsPredicate text p × MayBeComma m × IsClose c
  IsPredicate text (All w o ps) = IsWord word.All w × IsOpen o × IsList text ps
  IsPredicate text (Any w o ps) = IsWord word.Any w × IsOpen o × IsList text ps

  pub IsList : List ℕ → WrittenList → Type 0
  IsList text (End c) = IsClose c
  IsList text (Last p c) = IsPredicate text p × IsClose c
  IsList text (More p m ps) = IsPredicate text p × IsComma m × IsList text ps

-- the predicate that it is
abbrev mutual
  pub expr_of : Written → CfgExpr
  expr_of (True l) = cfg.True
  expr_of (False l) = cfg.False
  expr_of (Name l) = cfg.Flag (span_of l)
  expr_of (Pair k e v) = cfg.KeyValue (span_of k) (span_of v)
  expr_of (Not w o p m c) = cfg.Not (expr_of p)
  expr_of (All w o ps) = cfg.All (exprs_of ps)
  expr_of (Any w o ps) = cfg.Any (exprs_of ps)

  pub exprs_of : WrittenList → CfgExprs
  exprs_of (End c) = cfg.Nil
  exprs_of (Last p c) = cfg.Cons (expr_of p) cfg.Nil
  exprs_of (More p m ps) = cfg.Cons (expr_of p) (exprs_of ps)
