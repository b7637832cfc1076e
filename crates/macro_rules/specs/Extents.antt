-- How far trees go, and what kinds of tokens there are.
use Rattle.std.specs.Prelude.{◌==◌, ◌+◌, ◌-◌, ◌&&◌, ◌||◌, ℕ, Bool, true, false, List, [], ◌∷◌, Option, Some, None, drop, nat_lt, slice_get, if◌then◌else◌}
use Rattle.item_tree.specs.declared.lexer.lexeme.Delimiter.TheVariants.{Parenthesis, Brace}
use Rattle.item_tree.specs.declared.lexer.word.Word.{Word}
use Rattle.item_tree.specs.declared.lexer.word.Word.TheVariants as word
use Rattle.macro_rules.specs.declared.extents.WordClass.{WordClass}
use Rattle.macro_rules.specs.declared.extents.WordClass.TheVariants as class
use Rattle.macro_rules.specs.declared.token.FragmentKind.TheVariants as of
use Rattle.macro_rules.specs.declared.token.Token.{Token}
use Rattle.macro_rules.specs.declared.token.TokenKind.{TokenKind}
use Rattle.macro_rules.specs.declared.token.TokenKind.TheVariants as kind

abbrev pub kind_of : Option Token → TokenKind
kind_of None = kind.Error
kind_of (Some t) = t.kind

-- the kind of the token at a place, and past the last one none's
abbrev pub kind_at : List Token → ℕ → TokenKind
kind_at ts i = kind_of (slice_get ts i)

-- how many groups are open behind one more token
abbrev pub depth_behind : TokenKind → ℕ → ℕ
depth_behind (kind.Open d) depth = depth + 1
depth_behind (kind.FragmentOpen k) depth = depth + 1
depth_behind (kind.Close d) depth = depth - 1
depth_behind (kind.FragmentClose k) depth = depth - 1
depth_behind _ depth = depth

-- the tokens up to where no group is open
abbrev pub tree_len : ℕ → List Token → ℕ
tree_len depth [] = 0
tree_len depth (t ∷ ts) = if depth_behind t.kind depth == 0 then 1 else tree_len (depth_behind t.kind depth) ts + 1

abbrev pub is_bool : TokenKind → Bool
is_bool (kind.Word word.True) = true
is_bool (kind.Word word.False) = true
is_bool _ = false

abbrev pub is_literal : TokenKind → Bool
is_literal kind.Literal = true
is_literal kind.Doc = true
is_literal k = is_bool k

abbrev pub is_lifetime : TokenKind → Bool
is_lifetime kind.Lifetime = true
is_lifetime _ = false

-- a name or a keyword, but not `_`; `$crate` is a name
abbrev pub is_ident : TokenKind → Bool
is_ident (kind.Word word.Underscore) = false
is_ident (kind.Word w) = true
is_ident (kind.Keyword w) = true
is_ident (kind.DollarCrate home) = true
is_ident _ = false

-- anything but a closing delimiter
abbrev pub begins_tree : TokenKind → Bool
begins_tree (kind.Close d) = false
begins_tree (kind.FragmentClose k) = false
begins_tree _ = true

abbrev pub is_mark : ℕ → TokenKind → Bool
is_mark mark (kind.Mark b) = b == mark
is_mark mark _ = false

abbrev pub is_pair : ℕ → ℕ → TokenKind → Bool
is_pair first second (kind.Pair a b) = (a == first) && (b == second)
is_pair first second _ = false

-- `>` with another behind it in its operator: `>>`, `>=`, `>>=` have a token for each mark, what is left where those before are taken
abbrev pub width : TokenKind → ℕ
width (kind.Pair first second) = if first == 62 then 2 else 1
width (kind.Triple first second third) = if first == 62 then 3 else 1
width _ = 1

-- the tokens of the first tree: an operator is one
abbrev pub first_tree_len : List Token → ℕ
first_tree_len ts = if nat_lt 1 (width (kind_at ts 0)) then width (kind_at ts 0) else tree_len 0 ts

-- how many angle brackets are open behind a token that is in no group; those of `->` and `=>` close none
abbrev pub angles_behind : TokenKind → ℕ → ℕ
angles_behind (kind.Mark b) n = if b == 60 then n + 1 else if b == 62 then n - 1 else n
angles_behind (kind.Pair first second) n =
    if (first == 60) && (second == 60) then n + 2
    else if (first == 60) && (second == 45) then n + 1
    else if first == 62 then n - 1
    else n
angles_behind (kind.Triple first second third) n = if first == 62 then n - 1 else n
angles_behind _ n = n

abbrev pub angles_in : ℕ → TokenKind → ℕ → ℕ
angles_in groups k n = if groups == 0 then angles_behind k n else n

-- the tokens up to where no angle bracket is open, and no group
abbrev pub angles_len : ℕ → ℕ → List Token → ℕ
angles_len groups n [] = 0
angles_len groups n (t ∷ ts) =
    if (depth_behind t.kind groups == 0) && (angles_in groups t.kind n == 0) then 1
    else angles_len (depth_behind t.kind groups) (angles_in groups t.kind n) ts + 1

-- `<`, `<<`, or `<-` before a literal
abbrev pub opens_angles : TokenKind → Bool
opens_angles k = is_mark 60 k || is_pair 60 60 k || is_pair 60 45 k

abbrev pub opens_parenthesis : TokenKind → Bool
opens_parenthesis (kind.Open Parenthesis) = true
opens_parenthesis _ = false

abbrev pub opens_brace : TokenKind → Bool
opens_brace (kind.Open Brace) = true
opens_brace _ = false

abbrev pub opens : TokenKind → Bool
opens (kind.Open d) = true
opens _ = false

abbrev pub closes : TokenKind → Bool
closes (kind.Close d) = true
closes _ = false

-- what a word may be in a type: a name, a keyword that is a segment of paths, one that types begin with, or another
abbrev pub word_class : Word → WordClass
word_class word.SelfValue = class.Segment
word_class word.SelfType = class.Segment
word_class word.Super = class.Segment
word_class word.Crate = class.Segment
word_class word.Underscore = class.OfTypes
word_class word.For = class.OfTypes
word_class word.Impl = class.OfTypes
word_class word.Fn = class.OfTypes
word_class word.Unsafe = class.OfTypes
word_class word.Extern = class.OfTypes
word_class word.Dyn = class.OfTypes
word_class word.Mod = class.Keyword
word_class word.Use = class.Keyword
word_class word.Struct = class.Keyword
word_class word.Enum = class.Keyword
word_class word.Const = class.Keyword
word_class word.Static = class.Keyword
word_class word.Type = class.Keyword
word_class word.Trait = class.Keyword
word_class word.Macro = class.Keyword
word_class word.Pub = class.Keyword
word_class word.In = class.Keyword
word_class word.As = class.Keyword
word_class word.Async = class.Keyword
word_class word.Gen = class.Keyword
word_class word.Final = class.Keyword
word_class word.Where = class.Keyword
word_class word.Mut = class.Keyword
word_class word.Ref = class.Keyword
word_class word.Move = class.Keyword
word_class word.Let = class.Keyword
word_class word.If = class.Keyword
word_class word.Else = class.Keyword
word_class word.Match = class.Keyword
word_class word.While = class.Keyword
word_class word.Return = class.Keyword
word_class word.Break = class.Keyword
word_class word.True = class.Keyword
word_class word.False = class.Keyword
word_class _ = class.Name

abbrev pub is_keyword : WordClass → Bool
is_keyword class.Keyword = true
is_keyword _ = false

abbrev pub is_segment_class : WordClass → Bool
is_segment_class class.Name = true
is_segment_class class.Segment = true
is_segment_class _ = false

-- a name, or a keyword that is a segment of paths
abbrev pub is_segment : TokenKind → Bool
is_segment (kind.Word w) = is_segment_class (word_class w)
is_segment (kind.DollarCrate home) = true
is_segment _ = false

abbrev pub restriction_of : TokenKind → List Token → ℕ
restriction_of (kind.Word word.In) ts = tree_len 0 ts
restriction_of (kind.Word word.Crate) ts = if closes (kind_at ts 2) then 3 else 0
restriction_of (kind.Word word.SelfValue) ts = if closes (kind_at ts 2) then 3 else 0
restriction_of (kind.Word word.Super) ts = if closes (kind_at ts 2) then 3 else 0
restriction_of _ ts = 0

-- behind `pub`: `(crate)`, `(self)`, `(super)` or `(in path)`
abbrev pub restriction_len : List Token → ℕ
restriction_len ts = if opens_parenthesis (kind_at ts 0) then restriction_of (kind_at ts 1) ts else 0

abbrev pub visibility_with : TokenKind → List Token → ℕ
visibility_with (kind.FragmentOpen of.Vis) ts = tree_len 0 ts
visibility_with (kind.Word word.Pub) ts = 1 + restriction_len (drop 1 ts)
visibility_with _ ts = 0

-- `pub` with its restriction, a fragment of one, or nothing
abbrev pub visibility_len : List Token → ℕ
visibility_len ts = visibility_with (kind_at ts 0) ts

abbrev pub signed_len : TokenKind → TokenKind → Option ℕ
signed_len first second = if is_literal first then Some 1 else if is_literal second then Some 2 else None

abbrev pub fragment_or : TokenKind → TokenKind → List Token → Option ℕ
fragment_or first (kind.FragmentOpen k) ts = Some (1 + tree_len 0 (drop 1 ts))
fragment_or first second ts = signed_len first second

abbrev pub plain_literal_len : TokenKind → List Token → Option ℕ
plain_literal_len k ts = if is_mark 45 k then fragment_or k (kind_at ts 1) ts else signed_len k (kind_at ts 1)

abbrev pub literal_with : TokenKind → List Token → Option ℕ
literal_with (kind.FragmentOpen k) ts = Some (tree_len 0 ts)
literal_with k ts = plain_literal_len k ts

-- a literal, or a fragment of one, with its minus
abbrev pub literal_len : List Token → Option ℕ
literal_len ts = literal_with (kind_at ts 0) ts

abbrev pub block_with : TokenKind → List Token → Option ℕ
block_with (kind.Open Brace) ts = Some (tree_len 0 ts)
block_with (kind.FragmentOpen of.Block) ts = Some (tree_len 0 ts)
block_with _ ts = None

abbrev pub block_len : List Token → Option ℕ
block_len ts = block_with (kind_at ts 0) ts
