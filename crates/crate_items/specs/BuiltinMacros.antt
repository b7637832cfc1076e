-- Macros of the compiler, by the active attributes before them.
use Rattle.std.specs.Prelude.{◌||◌, ℕ, Bool, true, false, List, Option, None, Some, codes, if◌then◌else◌}
use Rattle.std.specs.List.{find}
use Rattle.std.specs.Str.{bytes_eq}
use Rattle.crate_items.specs.Files.{SourceFile, text_of}
use Rattle.crate_items.specs.ItemAttributes.{item_attributes}
use Rattle.crate_items.specs.ModuleVisibilities.{lexemes_known}
use Rattle.crate_items.specs.ProceduralMacros.{first_name}
use Rattle.crate_items.specs.Sources.{source_at}
use Rattle.crate_items.specs.declared.items.declared_item.DeclaredItem.{DeclaredItem}
use Rattle.crate_items.specs.Modules.{Listing}
use Rattle.dm_base.specs.Names.{Name}
use Rattle.dm_base.specs.declared.macros.MacroExpander.{MacroExpander}
use Rattle.dm_base.specs.declared.macros.MacroExpander.TheVariants as expander
use Rattle.item_tree.specs.AttributeKinds.{lexemes_in}
use Rattle.item_tree.specs.declared.attributes.attribute_kind.AttributeKind.{AttributeKind}
use Rattle.item_tree.specs.declared.attributes.attribute_kind.AttributeKind.TheVariants as says
use Rattle.item_tree.specs.declared.items.item_kind.ItemKind.{ItemKind}
use Rattle.item_tree.specs.declared.items.item_kind.ItemKind.TheVariants as item
use Rattle.item_tree.specs.declared.lexer.lexeme.Lexeme.{Lexeme}

abbrev pub is_builtin : AttributeKind → Bool
is_builtin says.RustcBuiltinMacro = true
is_builtin (says.RustcBuiltinMacroOf r) = true
is_builtin _ = false

-- the derives of the compiler
unfoldable pub is_derive_name : List ℕ → Bool
is_derive_name n =
    bytes_eq n (codes "Clone") || bytes_eq n (codes "Copy") || bytes_eq n (codes "Debug") || bytes_eq n (codes "Default")
    || bytes_eq n (codes "Eq") || bytes_eq n (codes "PartialEq") || bytes_eq n (codes "Ord") || bytes_eq n (codes "PartialOrd")
    || bytes_eq n (codes "Hash") || bytes_eq n (codes "From") || bytes_eq n (codes "CoercePointee")
    || bytes_eq n (codes "ConstParamTy") || bytes_eq n (codes "UnsizedConstParamTy")

-- its attributes that macros declare
unfoldable pub is_attribute_name : List ℕ → Bool
is_attribute_name n =
    bytes_eq n (codes "derive") || bytes_eq n (codes "derive_const") || bytes_eq n (codes "test")
    || bytes_eq n (codes "test_case") || bytes_eq n (codes "bench") || bytes_eq n (codes "cfg_accessible")
    || bytes_eq n (codes "cfg_eval") || bytes_eq n (codes "global_allocator") || bytes_eq n (codes "alloc_error_handler")
    || bytes_eq n (codes "define_opaque")

-- any other that `macro_rules!` declares is called as a function, and one by `macro` in each way
abbrev pub other_expander : ItemKind → MacroExpander
other_expander item.Macro2 = expander.UnimplementedBuiltIn
other_expander _ = expander.BuiltIn

-- a macro of the compiler is a derive or an attribute by its name
abbrev pub expander_named : ItemKind → List ℕ → MacroExpander
expander_named k n =
    if is_derive_name n then expander.BuiltInDerive
    else if is_attribute_name n then expander.BuiltInAttr
    else other_expander k

abbrev pub expander_if_named : ItemKind → Option Name → MacroExpander
expander_if_named k None = other_expander k
expander_if_named k (Some n) = expander_named k n

-- the name that `rustc_builtin_macro` has in parentheses, before the helpers of a derive
abbrev pub name_within : List ℕ → List Lexeme → AttributeKind → Option Name
name_within text ls (says.RustcBuiltinMacroOf r) = first_name text (lexemes_in ls r)
name_within text ls _ = None

-- the macro of the compiler that an item is has that name, or else the item's own
abbrev pub named_by : DeclaredItem → Option Name → MacroExpander
named_by x None = expander_if_named x.kind x.name
named_by x (Some n) = expander_named x.kind n

abbrev pub builtin_expander : Listing → List SourceFile → DeclaredItem → AttributeKind
    → MacroExpander
builtin_expander l files x a =
    named_by x (name_within (text_of files x.file) (lexemes_known (source_at l.sources x.file)) a)

-- any other macro is read by its rules, and called as a function
abbrev pub by_rules : MacroExpander
by_rules = expander.Declarative (record { 0 = 1 })

abbrev pub expander_by : Listing → List SourceFile → DeclaredItem → Option AttributeKind
    → MacroExpander
expander_by l files x None = by_rules
expander_by l files x (Some a) = builtin_expander l files x a

-- How a macro is expanded: it is one of the compiler's where an active `rustc_builtin_macro` stands before it.
abbrev pub macro_expander : Listing → List SourceFile → DeclaredItem → MacroExpander
macro_expander l files x = expander_by l files x (find is_builtin (item_attributes l x))
