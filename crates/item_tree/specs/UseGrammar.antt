-- The grammar of use trees: how each is written in lexemes, and what it imports.
use Rattle.std.specs.Prelude.{◌≡◌, ◌+◌, ℕ, true, List, [], ◌∷◌, ◌++◌, Option, Some, None, length, drop}
use Rattle.item_tree.specs.ItemKinds.{is_segment}
use Rattle.item_tree.specs.UseTrees.{is_alias}
use Rattle.item_tree.specs.declared.items.Range.{Range}
use Rattle.item_tree.specs.declared.lexer.lexeme.Delimiter.TheVariants.{Brace}
use Rattle.item_tree.specs.declared.lexer.lexeme.Lexeme.{Lexeme}
use Rattle.item_tree.specs.declared.lexer.lexeme.LexemeKind.TheVariants as kind
use Rattle.item_tree.specs.declared.items.use_tree.UseTreeKind.{UseTreeKind}
use Rattle.item_tree.specs.declared.items.use_tree.UseTreeKind.TheVariants as tree
use Rattle.item_tree.specs.declared.lexer.word.Word.TheVariants as word

-- what stands before the last part of a use tree: nothing, two colons, or that, a segment and two colons
pub data Prefix : Type 0 where
  Nothing : Prefix
  Colons : Lexeme → Lexeme → Prefix
  Behind : Prefix → Lexeme → Lexeme → Lexeme → Prefix

-- a use tree as it is written: behind a prefix a segment, a segment with `as` and a name, a star, or a list
mutual
  pub data Written : Type 0 where
    Name : Prefix → Lexeme → Written
    Renamed : Prefix → Lexeme → Lexeme → Lexeme → Written
    Glob : Prefix → Lexeme → Written
    List_ : Prefix → Lexeme → WrittenList → Written

  -- what is left of a list: the brace, a tree and the brace, or a tree, a comma, and more
  pub data WrittenList : Type 0 where
    End : Lexeme → WrittenList
    Last : Written → Lexeme → WrittenList
    More : Written → Lexeme → WrittenList → WrittenList

-- its lexemes
abbrev pub prefix_of : Prefix → List Lexeme
prefix_of Nothing = []
prefix_of (Colons a b) = a ∷ b ∷ []
prefix_of (Behind p s a b) = prefix_of p ++ s ∷ a ∷ b ∷ []

abbrev mutual
  pub lexemes_of : Written → List Lexeme
  lexemes_of (Name p s) = prefix_of p ++ s ∷ []
  lexemes_of (Renamed p s a n) = prefix_of p ++ s ∷ a ∷ n ∷ []
  lexemes_of (Glob p star) = prefix_of p ++ star ∷ []
  lexemes_of (List_ p o ts) = prefix_of p ++ o ∷ list_lexemes_of ts

  pub list_lexemes_of : WrittenList → List Lexeme
  list_lexemes_of (End c) = c ∷ []
  list_lexemes_of (Last t c) = lexemes_of t ++ c ∷ []
  list_lexemes_of (More t m ts) = lexemes_of t ++ m ∷ list_lexemes_of ts

abbrev pub IsMark : ℕ → Lexeme → Type 0
IsMark b l = l.kind ≡ kind.Mark b

abbrev pub IsSegment : Lexeme → Type 0
IsSegment l = is_segment l.kind ≡ true

abbrev pub IsAs : Lexeme → Type 0
IsAs l = l.kind ≡ kind.Word word.As

abbrev pub IsAlias : Lexeme → Type 0
IsAlias l = is_alias l.kind ≡ true

abbrev pub IsOpen : Lexeme → Type 0
IsOpen l = l.kind ≡ kind.Open Brace

abbrev pub IsClose : Lexeme → Type 0
IsClose l = l.kind ≡ kind.Close Brace

-- each lexeme is what has to stand there
abbrev pub IsPrefix : Prefix → Type 0
IsPrefix Nothing = Unit {0}
IsPrefix (Colons a b) = IsMark 58 a × IsMark 58 b
IsPrefix (Behind p s a b) = IsPrefix p × IsSegment s × IsMark 58 a × IsMark 58 b

abbrev mutual
  pub IsUseTree : Written → Type 0
  IsUseTree (Name p s) = IsPrefix p × IsSegment s
  IsUseTree (Renamed p s a n) = IsPrefix p × IsSegment s × IsAs a × IsAlias n
  IsUseTree (Glob p star) = IsPrefix p × IsMark 42 star
  IsUseTree (List_ p o ts) = IsPrefix p × IsOpen o × IsList ts

  pub IsList : WrittenList → Type 0
  IsList (End c) = IsClose c
  IsList (Last t c) = IsUseTree t × IsClose c
  IsList (More t m ts) = IsUseTree t × IsMark 44 m × IsList ts

-- what one name or star imports: the whole path, with its colons; as a name or all that is in it; under another name
pub record Leaf : Type 0 where
  pub path : List Lexeme
  pub kind : UseTreeKind
  pub alias : Option Lexeme

-- all that it imports, behind the path of the lists around it
abbrev mutual
  pub leaves : List Lexeme → Written → List Leaf
  leaves outer (Name p s) = record { path = outer ++ (prefix_of p ++ s ∷ []); kind = tree.Single; alias = None } ∷ []
  leaves outer (Renamed p s a n) = record { path = outer ++ (prefix_of p ++ s ∷ []); kind = tree.Single; alias = Some n } ∷ []
  leaves outer (Glob p star) = record { path = outer ++ prefix_of p; kind = tree.Glob; alias = None } ∷ []
  leaves outer (List_ p o ts) = list_leaves (outer ++ prefix_of p) ts

  pub list_leaves : List Lexeme → WrittenList → List Leaf
  list_leaves outer (End c) = []
  list_leaves outer (Last t c) = leaves outer t
  list_leaves outer (More t m ts) = leaves outer t ++ list_leaves outer ts

-- the lexemes of a range are those of a use tree and a semicolon
pub record Writes (lexemes : List Lexeme) (range : Range) (t : Written) : Type 0 where
  pub semicolon : Lexeme
  pub rest : List Lexeme
  pub tree : IsUseTree t
  pub ends : IsMark 59 semicolon
  pub there : drop range.first lexemes ≡ lexemes_of t ++ semicolon ∷ rest
  pub behind : range.behind ≡ range.first + length (lexemes_of t) + 1
