-- What an attribute says.
use Rattle.std.specs.Prelude.{◌==◌, ◌+◌, ◌-◌, ◌&&◌, ℕ, Bool, true, false, List, [], ◌∷◌, Option, Some, None, length, drop, take, nat_le, slice_get, if◌then◌else◌}
use Rattle.item_tree.specs.CfgReading.{span_of, is_text}
use Rattle.item_tree.specs.declared.lexer.span.Span.{Span}
use Rattle.item_tree.specs.declared.lexer.word.Word.{Word}
use Rattle.item_tree.specs.declared.lexer.word.Word.TheVariants as word
use Rattle.item_tree.specs.declared.lexer.lexeme.Delimiter.TheVariants.{Parenthesis}
use Rattle.item_tree.specs.declared.lexer.lexeme.LexemeKind.{LexemeKind}
use Rattle.item_tree.specs.declared.lexer.lexeme.LexemeKind.TheVariants as kind
use Rattle.item_tree.specs.declared.lexer.lexeme.Lexeme.{Lexeme}
use Rattle.item_tree.specs.declared.items.Range.{Range}
use Rattle.item_tree.specs.declared.attributes.attribute_kind.AttributeInput.{AttributeInput}
use Rattle.item_tree.specs.declared.attributes.attribute_kind.AttributeInput.TheVariants.{Empty, Value, List as InList, Other}
use Rattle.item_tree.specs.declared.attributes.attribute_kind.AttributeKind.{AttributeKind}
use Rattle.item_tree.specs.declared.attributes.attribute_kind.AttributeKind.TheVariants as says

-- the lexemes of these numbers
abbrev pub lexemes_in : List Lexeme → Range → List Lexeme
lexemes_in ls r = take (r.behind - r.first) (drop r.first ls)

abbrev pub is_equals : LexemeKind → Bool
is_equals (kind.Mark b) = b == 61
is_equals _ = false

abbrev pub is_open : LexemeKind → Bool
is_open (kind.Open Parenthesis) = true
is_open _ = false

abbrev pub is_close_kind : LexemeKind → Bool
is_close_kind (kind.Close Parenthesis) = true
is_close_kind _ = false

abbrev pub is_str : LexemeKind → Bool
is_str kind.Str = true
is_str _ = false

abbrev pub begins_with_equals : List Lexeme → Bool
begins_with_equals [] = false
begins_with_equals (l ∷ ls) = is_equals l.kind

abbrev pub begins_with_open : List Lexeme → Bool
begins_with_open [] = false
begins_with_open (l ∷ ls) = is_open l.kind

abbrev pub is_close : Option Lexeme → Bool
is_close None = false
is_close (Some l) = is_close_kind l.kind

-- lexemes in parentheses
abbrev pub is_list : List Lexeme → Bool
is_list ls = nat_le 2 (length ls) && begins_with_open ls && is_close (slice_get ls (length ls - 1))

abbrev pub string_of : List ℕ → Option Lexeme → Option Span
string_of text None = None
string_of text (Some l) = if is_str l.kind && is_text text l then Some (span_of l) else None

-- `=` and a string
abbrev pub value_in : List ℕ → List Lexeme → Option Span
value_in text ls = if (length ls == 2) && begins_with_equals ls then string_of text (slice_get ls 1) else None

abbrev pub value_or_other : Option Span → AttributeInput
value_or_other None = Other
value_or_other (Some s) = Value s

-- what these lexemes behind the name of an attribute are
abbrev pub input_of : List ℕ → List Lexeme → Range → AttributeInput
input_of text ls r =
    if length (lexemes_in ls r) == 0 then Empty
    else if is_list (lexemes_in ls r) then InList (record { first = r.first + 1; behind = r.behind - 1 })
    else value_or_other (value_in text (lexemes_in ls r))

-- those that matter to names are malformed without what they take, and others are unknown; `test` and `bench` with
-- anything behind are those of some crate
abbrev pub unfit_kind : Word → AttributeKind
unfit_kind word.Cfg = says.Malformed
unfit_kind word.CfgAttr = says.Malformed
unfit_kind word.Path = says.Malformed
unfit_kind word.MacroUse = says.Malformed
unfit_kind word.MacroExport = says.Malformed
unfit_kind word.Derive = says.Malformed
unfit_kind word.NoStd = says.Malformed
unfit_kind word.NoCore = says.Malformed
unfit_kind word.NoImplicitPrelude = says.Malformed
unfit_kind word.PreludeImport = says.Malformed
unfit_kind word.RecursionLimit = says.Malformed
unfit_kind word.Feature = says.Malformed
unfit_kind word.RustcCoherenceIsCore = says.Malformed
unfit_kind word.ProcMacro = says.Malformed
unfit_kind word.ProcMacroDerive = says.Malformed
unfit_kind word.ProcMacroAttribute = says.Malformed
unfit_kind word.RustcBuiltinMacro = says.Malformed
unfit_kind word.NonExhaustive = says.Malformed
unfit_kind _ = says.Unknown

-- those that may stand alone
abbrev pub empty_kind : Word → AttributeKind
empty_kind word.MacroUse = says.MacroUse
empty_kind word.MacroExport = says.MacroExport
empty_kind word.NoStd = says.NoStd
empty_kind word.NoCore = says.NoCore
empty_kind word.NoImplicitPrelude = says.NoImplicitPrelude
empty_kind word.PreludeImport = says.PreludeImport
empty_kind word.RustcCoherenceIsCore = says.RustcCoherenceIsCore
empty_kind word.ProcMacro = says.ProcMacro
empty_kind word.ProcMacroAttribute = says.ProcMacroAttribute
empty_kind word.RustcBuiltinMacro = says.RustcBuiltinMacro
empty_kind word.NonExhaustive = says.NonExhaustive
empty_kind word.Test = says.Test
empty_kind word.Bench = says.Bench
empty_kind w = unfit_kind w

-- those that take a string
abbrev pub value_kind : Word → Span → AttributeKind
value_kind word.Path s = says.Path s
value_kind word.RecursionLimit s = says.RecursionLimit s
value_kind w s = unfit_kind w

-- those that take a list, but `cfg`
abbrev pub list_kind : Word → Range → AttributeKind
list_kind word.MacroUse r = says.MacroUseOf r
list_kind word.MacroExport r = says.MacroExport
list_kind word.Derive r = says.Derive r
list_kind word.Feature r = says.Feature r
list_kind word.ProcMacroDerive r = says.ProcMacroDerive r
list_kind word.RustcBuiltinMacro r = says.RustcBuiltinMacroOf r
list_kind w r = unfit_kind w

abbrev pub kind_of : Word → AttributeInput → AttributeKind
kind_of w Empty = empty_kind w
kind_of w (Value s) = value_kind w s
kind_of w (InList r) = list_kind w r
kind_of w Other = unfit_kind w
