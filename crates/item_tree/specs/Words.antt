-- The words that items and attributes are read by.
use Rattle.std.specs.Prelude.{◌&&◌, ℕ, List, codes, if◌then◌else◌}
use Rattle.std.specs.Str.{bytes_eq}
use Rattle.dm_base.specs.declared.edition.Edition.{Edition}
use Rattle.item_tree.specs.Openings.{since_2018, since_2024}
use Rattle.item_tree.specs.declared.lexer.word.Word.{Word}
use Rattle.item_tree.specs.declared.lexer.word.Word.TheVariants as word

-- the names of attributes that macros are, or make macros of functions
unfoldable pub builtin_word : List ℕ → Word
builtin_word text =
    if bytes_eq text (codes "proc_macro") then word.ProcMacro
    else if bytes_eq text (codes "proc_macro_derive") then word.ProcMacroDerive
    else if bytes_eq text (codes "proc_macro_attribute") then word.ProcMacroAttribute
    else if bytes_eq text (codes "rustc_builtin_macro") then word.RustcBuiltinMacro
    else if bytes_eq text (codes "test") then word.Test
    else if bytes_eq text (codes "bench") then word.Bench
    else word.Other

-- the names of attributes
unfoldable pub attribute_word : List ℕ → Word
attribute_word text =
    if bytes_eq text (codes "path") then word.Path
    else if bytes_eq text (codes "macro_use") then word.MacroUse
    else if bytes_eq text (codes "macro_export") then word.MacroExport
    else if bytes_eq text (codes "derive") then word.Derive
    else if bytes_eq text (codes "no_std") then word.NoStd
    else if bytes_eq text (codes "no_core") then word.NoCore
    else if bytes_eq text (codes "no_implicit_prelude") then word.NoImplicitPrelude
    else if bytes_eq text (codes "prelude_import") then word.PreludeImport
    else if bytes_eq text (codes "recursion_limit") then word.RecursionLimit
    else if bytes_eq text (codes "feature") then word.Feature
    else if bytes_eq text (codes "rustc_coherence_is_core") then word.RustcCoherenceIsCore
    else if bytes_eq text (codes "non_exhaustive") then word.NonExhaustive
    else builtin_word text

-- those of `cfg`
unfoldable pub predicate_word : List ℕ → Word
predicate_word text =
    if bytes_eq text (codes "true") then word.True
    else if bytes_eq text (codes "false") then word.False
    else if bytes_eq text (codes "not") then word.Not
    else if bytes_eq text (codes "all") then word.All
    else if bytes_eq text (codes "any") then word.Any
    else if bytes_eq text (codes "cfg") then word.Cfg
    else if bytes_eq text (codes "cfg_attr") then word.CfgAttr
    else if bytes_eq text (codes "cfg_if") then word.CfgIf
    else if bytes_eq text (codes "cfg_select") then word.CfgSelect
    else attribute_word text

-- those of types, patterns and expressions
unfoldable pub type_word : List ℕ → Word
type_word text =
    if bytes_eq text (codes "for") then word.For
    else if bytes_eq text (codes "where") then word.Where
    else if bytes_eq text (codes "dyn") then word.Dyn
    else if bytes_eq text (codes "mut") then word.Mut
    else if bytes_eq text (codes "ref") then word.Ref
    else if bytes_eq text (codes "move") then word.Move
    else if bytes_eq text (codes "let") then word.Let
    else if bytes_eq text (codes "if") then word.If
    else if bytes_eq text (codes "else") then word.Else
    else if bytes_eq text (codes "match") then word.Match
    else if bytes_eq text (codes "while") then word.While
    else if bytes_eq text (codes "return") then word.Return
    else if bytes_eq text (codes "break") then word.Break
    else predicate_word text

-- those that stand before them
unfoldable pub qualifier_word : Edition → List ℕ → Word
qualifier_word edition text =
    if bytes_eq text (codes "unsafe") then word.Unsafe
    else if since_2018 edition && bytes_eq text (codes "async") then word.Async
    else if since_2024 edition && bytes_eq text (codes "gen") then word.Gen
    else if bytes_eq text (codes "default") then word.Default
    else if bytes_eq text (codes "auto") then word.Auto
    else if bytes_eq text (codes "safe") then word.Safe
    else if bytes_eq text (codes "final") then word.Final
    else type_word text

-- those of visibilities and paths
unfoldable pub path_word : Edition → List ℕ → Word
path_word edition text =
    if bytes_eq text (codes "pub") then word.Pub
    else if bytes_eq text (codes "in") then word.In
    else if bytes_eq text (codes "self") then word.SelfValue
    else if bytes_eq text (codes "Self") then word.SelfType
    else if bytes_eq text (codes "super") then word.Super
    else if bytes_eq text (codes "as") then word.As
    else if bytes_eq text (codes "_") then word.Underscore
    else qualifier_word edition text

-- the word that a name is: the words that an item is told by, and the others; `async` is a name in the edition
-- 2015, and `gen` before 2024
unfoldable pub word_of : Edition → List ℕ → Word
word_of edition text =
    if bytes_eq text (codes "mod") then word.Mod
    else if bytes_eq text (codes "use") then word.Use
    else if bytes_eq text (codes "struct") then word.Struct
    else if bytes_eq text (codes "union") then word.Union
    else if bytes_eq text (codes "enum") then word.Enum
    else if bytes_eq text (codes "fn") then word.Fn
    else if bytes_eq text (codes "const") then word.Const
    else if bytes_eq text (codes "static") then word.Static
    else if bytes_eq text (codes "type") then word.Type
    else if bytes_eq text (codes "trait") then word.Trait
    else if bytes_eq text (codes "impl") then word.Impl
    else if bytes_eq text (codes "extern") then word.Extern
    else if bytes_eq text (codes "crate") then word.Crate
    else if bytes_eq text (codes "macro_rules") then word.MacroRules
    else if bytes_eq text (codes "macro") then word.Macro
    else path_word edition text
