-- The fields of a struct or a union.
use Rattle.std.specs.Prelude.{◌==◌, ◌+◌, ◌||◌, ◌&&◌, ℕ, Bool, true, false, not, List, [], ◌∷◌, Option, Some, None, if◌then◌else◌}
use Rattle.item_tree.specs.Heads.{kind_at, is_parenthesis, nothing}
use Rattle.item_tree.specs.ItemEnds.{depth_behind}
use Rattle.item_tree.specs.Members.{fields_at, no_fields}
use Rattle.item_tree.specs.Trees.{trees_of}
use Rattle.item_tree.specs.declared.items.Item.{Item}
use Rattle.item_tree.specs.declared.items.Range.{Range}
use Rattle.item_tree.specs.declared.lexer.lexeme.Lexeme.{Lexeme}
use Rattle.item_tree.specs.declared.lexer.lexeme.LexemeKind.{LexemeKind}
use Rattle.item_tree.specs.declared.lexer.lexeme.LexemeKind.TheVariants.{Word}
use Rattle.item_tree.specs.declared.items.members.Fields.{Fields}
use Rattle.item_tree.specs.declared.items.members.FieldsShape.TheVariants as shape
use Rattle.item_tree.specs.declared.lexer.trees.Tree.{Tree}
use Rattle.item_tree.specs.declared.lexer.word.Word.TheVariants as word

abbrev pub is_where : LexemeKind → Bool
is_where (Word word.Where) = true
is_where _ = false

-- the parameters of a struct end at parentheses or `where` outside of angle brackets
abbrev pub ends_parameters : ℕ → LexemeKind → Bool
ends_parameters depth k = (depth == 0) && (is_parenthesis k || is_where k)

abbrev pub before_parentheses : LexemeKind → ℕ → List Tree → ℕ
before_parentheses before depth [] = 0
before_parentheses before depth (t ∷ ts) = if not (ends_parameters depth t.kind) then 1 + before_parentheses t.kind (depth_behind before depth t.kind) ts else 0

abbrev pub body_fields : Option Range → Fields
body_fields None = no_fields 0
body_fields (Some range) = record { shape = shape.Record; range = range }

-- fields stand in parentheses behind the parameters, or else in the body
abbrev pub fields_behind : ℕ → List Tree → Option Range → Fields
fields_behind i ts body = if is_parenthesis (kind_at ts i) then fields_at ts i else body_fields body

abbrev pub struct_fields : List Tree → Option Range → Fields
struct_fields ts body = fields_behind (before_parentheses nothing 0 ts) ts body

-- the fields of a struct or a union
abbrev pub item_fields : List Lexeme → List ℕ → Item → Fields
item_fields lexemes partners item = struct_fields (trees_of lexemes partners item.word item.behind) item.body
