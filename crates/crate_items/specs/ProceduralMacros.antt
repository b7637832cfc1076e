-- Which functions are procedural macros, by the active attributes before them.
use Rattle.std.specs.Prelude.{◌==◌, ℕ, Bool, true, false, List, [], ◌∷◌, Option, None, Some, if◌then◌else◌}
use Rattle.std.specs.List.{find, list_any}
use Rattle.crate_items.specs.ItemAttributes.{item_attributes}
use Rattle.crate_items.specs.LexemeNames.{lexeme_name}
use Rattle.crate_items.specs.declared.items.declared_item.DeclaredItem.{DeclaredItem}
use Rattle.crate_items.specs.declared.macros.procedural_macro.ProceduralMacro.{ProceduralMacro}
use Rattle.crate_items.specs.Files.{SourceFile, text_of}
use Rattle.crate_items.specs.ModuleVisibilities.{lexemes_known}
use Rattle.crate_items.specs.Modules.{Listing}
use Rattle.crate_items.specs.Sources.{source_at}
use Rattle.dm_base.specs.Names.{Name}
use Rattle.dm_base.specs.declared.macros.ProcMacroKind.{ProcMacroKind}
use Rattle.dm_base.specs.declared.macros.ProcMacroKind.TheVariants as proc
use Rattle.item_tree.specs.AttributeKinds.{lexemes_in}
use Rattle.item_tree.specs.declared.attributes.attribute_kind.AttributeKind.{AttributeKind}
use Rattle.item_tree.specs.declared.attributes.attribute_kind.AttributeKind.TheVariants as says
use Rattle.item_tree.specs.declared.items.item_kind.ItemKind.{ItemKind}
use Rattle.item_tree.specs.declared.items.item_kind.ItemKind.TheVariants as item
use Rattle.item_tree.specs.declared.lexer.lexeme.Lexeme.{Lexeme}
use Rattle.item_tree.specs.declared.lexer.lexeme.LexemeKind.{LexemeKind}
use Rattle.item_tree.specs.declared.lexer.lexeme.LexemeKind.TheVariants.{Mark}

abbrev pub is_bang : AttributeKind → Bool
is_bang says.ProcMacro = true
is_bang _ = false

abbrev pub is_attribute : AttributeKind → Bool
is_attribute says.ProcMacroAttribute = true
is_attribute _ = false

abbrev pub is_derive : AttributeKind → Bool
is_derive (says.ProcMacroDerive r) = true
is_derive _ = false

abbrev pub is_comma : LexemeKind → Bool
is_comma (Mark b) = b == 44
is_comma _ = false

-- a name ends where nothing or a comma follows
abbrev pub ends_name : List Lexeme → Bool
ends_name [] = true
ends_name (l ∷ ls) = is_comma l.kind

-- the name that a list begins with: that of a derive, before its helpers
abbrev pub first_name : List ℕ → List Lexeme → Option Name
first_name text [] = None
first_name text (l ∷ ls) = if ends_name ls then lexeme_name text l else None

-- a macro of a kind; none where it has no name
abbrev pub of_kind : ProcMacroKind → Option Name → Option ProceduralMacro
of_kind k None = None
of_kind k (Some n) = Some (record { kind = k; name = n })

-- the derive that a `proc_macro_derive` declares
abbrev pub derive_of : List ℕ → List Lexeme → AttributeKind → Option ProceduralMacro
derive_of text ls (says.ProcMacroDerive r) = of_kind proc.CustomDerive (first_name text (lexemes_in ls r))
derive_of text ls _ = None

abbrev pub derive_by : List ℕ → List Lexeme → Option AttributeKind → Option ProceduralMacro
derive_by text ls None = None
derive_by text ls (Some a) = derive_of text ls a

-- the macro that attributes make of a function of the name n: `proc_macro` counts before `proc_macro_attribute`, and
-- that before the first `proc_macro_derive`
abbrev pub made_by : List ℕ → List Lexeme → Option Name → List AttributeKind → Option ProceduralMacro
made_by text ls n kinds =
    if list_any is_bang kinds then of_kind proc.Bang n
    else if list_any is_attribute kinds then of_kind proc.Attr n
    else derive_by text ls (find is_derive kinds)

abbrev pub of_function : Listing → List SourceFile → DeclaredItem → Option ProceduralMacro
of_function l files x =
    made_by (text_of files x.file) (lexemes_known (source_at l.sources x.file)) x.name (item_attributes l x)

-- no other item is one
abbrev pub of_item : Listing → List SourceFile → DeclaredItem → ItemKind → Option ProceduralMacro
of_item l files x item.Function = of_function l files x
of_item l files x _ = None

-- the procedural macro that an item is, by the active attributes before it
abbrev pub procedural_macro : Listing → List SourceFile → DeclaredItem → Option ProceduralMacro
procedural_macro l files x = of_item l files x x.kind
