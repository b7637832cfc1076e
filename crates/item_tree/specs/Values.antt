-- Where angle brackets are open in a member: its type, and its value, which may compare.
--
-- The Rust Reference: in an expression the arguments of a path stand behind `::` (PathExprSegment), in a
-- type behind its name, too (TypePathSegment); a qualified path begins with `<`, where an operand or a
-- type begins; a type stands behind `as` and behind an arrow; the parameters of a closure stand between
-- bars, where an operand begins.
use Rattle.std.specs.Prelude.{◌==◌, ◌-◌, ◌&&◌, ◌||◌, ℕ, Bool, true, false, List, Option, Some, None, slice_get, if◌then◌else◌}
use Rattle.item_tree.specs.Heads.{is_mark}
use Rattle.item_tree.specs.Implementations.{is_for}
use Rattle.item_tree.specs.ItemEnds.{depth_behind}
use Rattle.item_tree.specs.declared.items.values.MemberPart.{MemberPart}
use Rattle.item_tree.specs.declared.items.values.MemberPart.TheVariants.{Declared, Operand, Behind, InType, Named, Typed, Parameters}
use Rattle.item_tree.specs.declared.items.values.Nesting.{Nesting}
use Rattle.item_tree.specs.declared.lexer.lexeme.Delimiter.TheVariants.{Bracket}
use Rattle.item_tree.specs.declared.lexer.lexeme.Lexeme.{Lexeme}
use Rattle.item_tree.specs.declared.lexer.lexeme.LexemeKind.{LexemeKind}
use Rattle.item_tree.specs.declared.lexer.lexeme.LexemeKind.TheVariants.{Word, Open, Mark, Lifetime}
use Rattle.item_tree.specs.declared.lexer.word.Word as words
use Rattle.item_tree.specs.declared.lexer.word.Word.TheVariants as word

abbrev pub at : MemberPart → Nesting
at part = record { part = part; depth = 0 }

-- behind an opening; what goes on where it is closed is told with it
abbrev pub opened : MemberPart → Nesting
opened part = record { part = part; depth = 1 }

-- behind these an operand begins
abbrev pub leads_operand : words.Word → Bool
leads_operand word.If = true
leads_operand word.Else = true
leads_operand word.Match = true
leads_operand word.While = true
leads_operand word.Return = true
leads_operand word.Break = true
leads_operand word.In = true
leads_operand word.Let = true
leads_operand word.For = true
leads_operand word.Move = true
leads_operand word.Async = true
leads_operand word.Static = true
leads_operand word.Const = true
leads_operand word.Mut = true
leads_operand word.Unsafe = true
leads_operand _ = false

-- behind these a type goes on, before its name
abbrev pub leads_type : words.Word → Bool
leads_type word.Dyn = true
leads_type word.Impl = true
leads_type word.For = true
leads_type word.Fn = true
leads_type word.Async = true
leads_type word.Const = true
leads_type word.Mut = true
leads_type word.Unsafe = true
leads_type word.Extern = true
leads_type _ = false

abbrev pub operand_word : words.Word → Nesting
operand_word w = if leads_operand w then at Operand else at Behind

-- the second mark of a `<<` or `||` opens nothing
abbrev pub goes_on_mark : LexemeKind → Bool → ℕ → Bool
goes_on_mark before joint b = joint && is_mark b before

abbrev pub operand_mark : LexemeKind → Bool → ℕ → Nesting
operand_mark before joint b =
    if goes_on_mark before joint b then at Operand
    else if b == 60 then opened (if is_for before then Operand else Behind)
    else if b == 124 then opened Parameters
    else if (b == 62) && is_mark 45 before then at InType
    else at Operand

abbrev pub in_operand : LexemeKind → Bool → LexemeKind → Nesting
in_operand before joint (Word w) = operand_word w
in_operand before joint (Mark b) = operand_mark before joint b
in_operand before joint (Open Bracket) = if is_mark 35 before then at Operand else at Behind
in_operand before joint Lifetime = at Operand
in_operand before joint _ = at Behind

-- marks behind an operand are operators, but for a question mark
abbrev pub behind_operand : LexemeKind → Nesting
behind_operand (Word word.As) = at InType
behind_operand (Word w) = operand_word w
behind_operand (Mark b) = if b == 63 then at Behind else at Operand
behind_operand Lifetime = at Operand
behind_operand _ = at Behind

abbrev pub type_mark : LexemeKind → ℕ → Nesting
type_mark before b = if b == 60 then opened (if is_for before then InType else Typed) else if b == 61 then at Operand else at InType

abbrev pub in_type : LexemeKind → LexemeKind → Nesting
in_type before (Word w) = if leads_type w then at InType else at Named
in_type before (Mark b) = type_mark before b
in_type before (Open d) = at Typed
in_type before _ = at InType

-- a path goes on with two colons, and the `!` of a macro stands behind it
abbrev pub behind_type : LexemeKind → Nesting
behind_type k = if is_mark 58 k || is_mark 33 k then at InType else behind_operand k

abbrev pub behind_name : LexemeKind → Nesting
behind_name k = if is_mark 60 k then opened Typed else behind_type k

-- a value stands behind `=`
abbrev pub in_declared : LexemeKind → Nesting
in_declared k = if is_mark 60 k then opened Declared else if is_mark 61 k then at Operand else at Declared

abbrev pub outside : MemberPart → LexemeKind → Bool → LexemeKind → Nesting
outside Declared before joint k = in_declared k
outside Operand before joint k = in_operand before joint k
outside Behind before joint k = behind_operand k
outside InType before joint k = in_type before k
outside Named before joint k = behind_name k
outside Typed before joint k = behind_type k
outside Parameters before joint k = at Operand

abbrev pub is_parameters : MemberPart → Bool
is_parameters Parameters = true
is_parameters _ = false

-- a bar ends the parameters that one began
abbrev pub inside : Nesting → LexemeKind → LexemeKind → Nesting
inside n before k =
    if is_parameters n.part && (n.depth == 1) && is_mark 124 k then at Operand
    else record { part = n.part; depth = depth_behind before n.depth k }

-- what goes on behind one more tree, and how many brackets and bars are open there
abbrev pub nested : Nesting → LexemeKind → Bool → LexemeKind → Nesting
nested n before joint k = if n.depth == 0 then outside n.part before joint k else inside n before k

abbrev pub start_of : Option Lexeme → ℕ
start_of None = 0
start_of (Some l) = l.start

-- whether a lexeme of one byte stands right before the one at a place
abbrev pub is_joint : List Lexeme → ℕ → Bool
is_joint ls i = start_of (slice_get ls i) - start_of (slice_get ls (i - 1)) == 1
