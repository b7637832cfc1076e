-- What a fragment may begin with.
use Rattle.std.specs.Prelude.{◌==◌, ◌+◌, ◌&&◌, ◌||◌, ℕ, Bool, true, false, not, List, drop, if◌then◌else◌}
use Rattle.item_tree.specs.declared.lexer.lexeme.Delimiter.TheVariants.{Parenthesis, Bracket, Brace}
use Rattle.item_tree.specs.declared.lexer.word.Word.{Word}
use Rattle.item_tree.specs.declared.lexer.word.Word.TheVariants as word
use Rattle.macro_rules.specs.Extents.{kind_at, tree_len, is_lifetime, is_literal, is_ident, begins_tree, is_mark, is_pair, word_class, is_keyword, is_segment_class}
use Rattle.macro_rules.specs.declared.token.FragmentKind.{FragmentKind}
use Rattle.macro_rules.specs.declared.token.FragmentKind.TheVariants as of
use Rattle.macro_rules.specs.declared.token.Keyword.{Keyword}
use Rattle.macro_rules.specs.declared.token.Keyword.TheVariants as keyword
use Rattle.macro_rules.specs.declared.token.Token.{Token}
use Rattle.macro_rules.specs.declared.token.TokenKind.{TokenKind}
use Rattle.macro_rules.specs.declared.token.TokenKind.TheVariants as kind

abbrev pub ends_fragment : TokenKind → Bool
ends_fragment (kind.FragmentClose k) = true
ends_fragment _ = false

abbrev pub is_literal_fragment : TokenKind → Bool
is_literal_fragment (kind.FragmentOpen of.Literal) = true
is_literal_fragment _ = false

-- a fragment is one literal, perhaps with a minus, or a fragment of one
abbrev pub holds_literal : List Token → Bool
holds_literal ts =
    if is_literal_fragment (kind_at ts 1) then ends_fragment (kind_at ts (1 + tree_len 0 (drop 1 ts)))
    else if is_mark 45 (kind_at ts 1) then is_literal (kind_at ts 2) && ends_fragment (kind_at ts 3)
    else is_literal (kind_at ts 1) && ends_fragment (kind_at ts 2)

-- a literal, `-`, `true`, `false`, a fragment of a literal, and one of an expression that is a literal
abbrev pub begins_literal_with : TokenKind → List Token → Bool
begins_literal_with (kind.FragmentOpen of.Literal) ts = true
begins_literal_with (kind.FragmentOpen of.Expr) ts = holds_literal ts
begins_literal_with (kind.FragmentOpen of.Expr2021) ts = holds_literal ts
begins_literal_with k ts = is_mark 45 k || is_literal k

abbrev pub begins_literal : List Token → Bool
begins_literal ts = begins_literal_with (kind_at ts 0) ts

-- one mark that a type begins with: an exclamation mark, a star, an ampersand, a question mark, a less-than sign
abbrev pub begins_type_mark : ℕ → Bool
begins_type_mark b = (b == 33) || (b == 42) || (b == 38) || (b == 63) || (b == 60)

-- a word that is no keyword, or is one that types have; `$crate`, a lifetime, `(`, `[`, one of these marks, `&&`, `<<`
-- or `::`; a fragment of a type or a path; `typeof`, which cannot be read
abbrev pub begins_type : TokenKind → Bool
begins_type (kind.Word w) = not (is_keyword (word_class w))
begins_type (kind.Keyword keyword.Typeof) = true
begins_type (kind.DollarCrate home) = true
begins_type kind.Lifetime = true
begins_type (kind.Open Parenthesis) = true
begins_type (kind.Open Bracket) = true
begins_type (kind.Mark b) = begins_type_mark b
begins_type (kind.FragmentOpen of.Ty) = true
begins_type (kind.FragmentOpen of.Path) = true
begins_type k = is_pair 38 38 k || is_pair 60 60 k || is_pair 58 58 k

-- a word, a fragment, a comma, or what begins a type
abbrev pub begins_visibility : TokenKind → Bool
begins_visibility (kind.Word w) = true
begins_visibility (kind.Keyword w) = true
begins_visibility (kind.FragmentOpen k) = true
begins_visibility k = is_mark 44 k || begins_type k

-- a brace, or a fragment that may be a block: of the latter only a block can be read
abbrev pub begins_block : TokenKind → Bool
begins_block (kind.Open Brace) = true
begins_block (kind.FragmentOpen of.Block) = true
begins_block (kind.FragmentOpen of.Stmt) = true
begins_block (kind.FragmentOpen of.Expr) = true
begins_block (kind.FragmentOpen of.Expr2021) = true
begins_block (kind.FragmentOpen of.Literal) = true
begins_block _ = false

-- a word, `::`, or a fragment that may be a name
abbrev pub begins_path : TokenKind → Bool
begins_path (kind.Word w) = true
begins_path (kind.Keyword w) = true
begins_path (kind.DollarCrate home) = true
begins_path (kind.FragmentOpen of.Item) = false
begins_path (kind.FragmentOpen of.Block) = false
begins_path (kind.FragmentOpen of.Vis) = false
begins_path (kind.FragmentOpen k) = true
begins_path k = is_pair 58 58 k

-- a name or another segment of paths, or `async break const false for gen if let match move return static true unsafe while`
abbrev pub begins_expression_word : Word → Bool
begins_expression_word word.Async = true
begins_expression_word word.Break = true
begins_expression_word word.Const = true
begins_expression_word word.False = true
begins_expression_word word.For = true
begins_expression_word word.Gen = true
begins_expression_word word.If = true
begins_expression_word word.Let = true
begins_expression_word word.Match = true
begins_expression_word word.Move = true
begins_expression_word word.Return = true
begins_expression_word word.Static = true
begins_expression_word word.True = true
begins_expression_word word.Unsafe = true
begins_expression_word word.While = true
begins_expression_word w = is_segment_class (word_class w)

-- `loop continue yield try box do`
abbrev pub begins_expression_keyword : Keyword → Bool
begins_expression_keyword keyword.Loop = true
begins_expression_keyword keyword.Continue = true
begins_expression_keyword keyword.Yield = true
begins_expression_keyword keyword.Try = true
begins_expression_keyword keyword.Do = true
begins_expression_keyword _ = false

-- `! - * | & < #`
abbrev pub begins_expression_mark : ℕ → Bool
begins_expression_mark b = (b == 33) || (b == 45) || (b == 42) || (b == 124) || (b == 38) || (b == 60) || (b == 35)

-- a group, a literal, a lifetime, one of these words or marks, `$crate`, `&& || .. << :: ... ..=`; a fragment of a block,
-- an expression, a literal or a path
abbrev pub begins_expression : TokenKind → Bool
begins_expression (kind.Word w) = begins_expression_word w
begins_expression (kind.Keyword w) = begins_expression_keyword w
begins_expression (kind.DollarCrate home) = true
begins_expression kind.Lifetime = true
begins_expression kind.Literal = true
begins_expression kind.Doc = true
begins_expression (kind.Open d) = true
begins_expression (kind.Mark b) = begins_expression_mark b
begins_expression (kind.Triple first second third) = first == 46
begins_expression (kind.FragmentOpen of.Block) = true
begins_expression (kind.FragmentOpen of.Expr) = true
begins_expression (kind.FragmentOpen of.Expr2021) = true
begins_expression (kind.FragmentOpen of.Literal) = true
begins_expression (kind.FragmentOpen of.Path) = true
begins_expression k = is_pair 38 38 k || is_pair 124 124 k || is_pair 46 46 k || is_pair 60 60 k || is_pair 58 58 k

-- but `let`; since 2024 `_`, too
abbrev pub begins_new_expression : TokenKind → Bool
begins_new_expression (kind.Word word.Let) = false
begins_new_expression (kind.Word word.Underscore) = true
begins_new_expression k = begins_expression k

-- but `let` and `const`
abbrev pub begins_old_expression : TokenKind → Bool
begins_old_expression (kind.Word word.Let) = false
begins_old_expression (kind.Word word.Const) = false
begins_old_expression k = begins_expression k

-- a word, a literal, `(`, `[`, `& - <`, `&& .. << :: ...`, and where it may have bars a bar; a fragment of an expression,
-- a literal, a meta, a pattern, a path or a type
abbrev pub begins_pattern : Bool → TokenKind → Bool
begins_pattern bars (kind.Word w) = true
begins_pattern bars (kind.Keyword w) = true
begins_pattern bars (kind.DollarCrate home) = true
begins_pattern bars kind.Literal = true
begins_pattern bars kind.Doc = true
begins_pattern bars (kind.Open Parenthesis) = true
begins_pattern bars (kind.Open Bracket) = true
begins_pattern bars (kind.Mark b) = (b == 38) || (b == 45) || (b == 60) || (bars && (b == 124))
begins_pattern bars (kind.Triple first second third) = (first == 46) && (third == 46)
begins_pattern bars (kind.FragmentOpen of.Expr) = true
begins_pattern bars (kind.FragmentOpen of.Expr2021) = true
begins_pattern bars (kind.FragmentOpen of.Literal) = true
begins_pattern bars (kind.FragmentOpen of.Meta) = true
begins_pattern bars (kind.FragmentOpen of.Pat) = true
begins_pattern bars (kind.FragmentOpen of.PatParam) = true
begins_pattern bars (kind.FragmentOpen of.Path) = true
begins_pattern bars (kind.FragmentOpen of.Ty) = true
begins_pattern bars k = is_pair 38 38 k || is_pair 46 46 k || is_pair 60 60 k || is_pair 58 58 k

-- the first token may begin a fragment of the kind
unfoldable pub begins : FragmentKind → List Token → Bool
begins of.Ident ts = is_ident (kind_at ts 0)
begins of.Lifetime ts = is_lifetime (kind_at ts 0)
begins of.Tt ts = begins_tree (kind_at ts 0)
begins of.Literal ts = begins_literal ts
begins of.Vis ts = begins_visibility (kind_at ts 0)
begins of.Block ts = begins_block (kind_at ts 0)
begins of.Path ts = begins_path (kind_at ts 0)
begins of.Meta ts = begins_path (kind_at ts 0)
begins of.Ty ts = begins_type (kind_at ts 0)
begins of.Expr ts = begins_new_expression (kind_at ts 0)
begins of.Expr2021 ts = begins_old_expression (kind_at ts 0)
begins of.Pat ts = begins_pattern true (kind_at ts 0)
begins of.PatParam ts = begins_pattern false (kind_at ts 0)
begins of.Stmt ts = begins_tree (kind_at ts 0)
begins of.Item ts = begins_tree (kind_at ts 0)
