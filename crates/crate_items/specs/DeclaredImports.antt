-- What `use` items import.
use Rattle.std.specs.Prelude.{◌+◌, ◌-◌, ◌++◌, ◌&&◌, ℕ, Bool, true, false, not, List, [], ◌∷◌, Option, Some, None, length, nat_eq, slice_get, if◌then◌else◌}
use Rattle.std.specs.Option.{option_map_or}
use Rattle.crate_items.specs.LexemeNames.{kind_at, name_at}
use Rattle.crate_items.specs.UsePaths.{path_of}
use Rattle.crate_items.specs.declared.items.declared_import.Binding.{Binding}
use Rattle.crate_items.specs.declared.items.declared_import.DeclaredImport.{DeclaredImport}
use Rattle.crate_items.specs.declared.items.declared_import.Leaf.{Leaf}
use Rattle.crate_items.specs.declared.items.declared_item.DeclaredItem.{DeclaredItem}
use Rattle.crate_items.specs.Files.{SourceFile, text_of}
use Rattle.crate_items.specs.Modules.{Listing}
use Rattle.crate_items.specs.Sources.{Source, source_at}
use Rattle.dm_base.specs.Path.{Path}
use Rattle.dm_base.specs.declared.mod_path.PathKind.TheVariants as path
use Rattle.dm_base.specs.Names.{Name}
use Rattle.dm_base.specs.declared.ids.UseTreeIdx.{UseTreeIdx}
use Rattle.item_tree.specs.Ids.{use_tree_idx}
use Rattle.item_tree.specs.Imports.{import_kind, import_path}
use Rattle.item_tree.specs.UseTrees.{use_trees_of}
use Rattle.item_tree.specs.declared.items.imports.ImportKind.{ImportKind}
use Rattle.item_tree.specs.declared.items.imports.ImportKind.TheVariants as imports
use Rattle.item_tree.specs.declared.items.item_kind.ItemKind.{ItemKind}
use Rattle.item_tree.specs.declared.items.item_kind.ItemKind.TheVariants as item
use Rattle.item_tree.specs.declared.items.Item.{Item}
use Rattle.item_tree.specs.declared.lexer.lexeme.Lexeme.{Lexeme}
use Rattle.item_tree.specs.declared.lexer.lexeme.LexemeKind.{LexemeKind}
use Rattle.item_tree.specs.declared.lexer.lexeme.LexemeKind.TheVariants.{Word}
use Rattle.item_tree.specs.declared.items.use_tree.UseTree.{UseTree}
use Rattle.item_tree.specs.declared.items.use_tree.UseTreeKind.{UseTreeKind}
use Rattle.item_tree.specs.declared.items.use_tree.UseTreeKind.TheVariants as tree
use Rattle.item_tree.specs.declared.lexer.word.Word.TheVariants as word

abbrev pub named : Option Name → Option Binding
named None = None
named (Some name) = Some (record { name = Some name; is_unnamed = false })

abbrev pub unnamed : Binding
unnamed = record { name = None; is_unnamed = true }

-- behind `as` there is `_`, or the name that is bound
abbrev pub as_alias : LexemeKind → Option Name → Option Binding
as_alias (Word word.Underscore) name = Some unnamed
as_alias _ name = named name

abbrev pub by_alias : List ℕ → List Lexeme → ℕ → Option Binding
by_alias text ls i = as_alias (kind_at ls i) (name_at text ls i)

abbrev pub last_segment : Path → Option Name
last_segment p = slice_get p.segments (length p.segments - 1)

-- without `as` the last name of the path is bound; `use crate;` and the like bind nothing
abbrev pub single : List ℕ → List Lexeme → Option ℕ → Path → Option Binding
single text ls None p = named (last_segment p)
single text ls (Some alias) p = by_alias text ls alias

-- a glob binds no name of its own
abbrev pub bound_by : List ℕ → List Lexeme → ImportKind → Option ℕ → Path → Option Binding
bound_by text ls imports.Glob alias p = Some (record { name = None; is_unnamed = false })
bound_by text ls imports.Plain alias p = single text ls alias p
bound_by text ls imports.TypeOnly alias p = single text ls alias p

abbrev pub of_binding : Leaf → Path → Option Binding → List DeclaredImport
of_binding leaf p None = []
of_binding leaf p (Some b) =
    record { tree = leaf.tree; kind = leaf.kind; path = p; name = b.name; is_unnamed = b.is_unnamed; is_empty_list = leaf.is_empty_list } ∷ []

abbrev pub is_list : UseTreeKind → Bool
is_list tree.Prefixed = true
is_list _ = false

abbrev pub is_in : ℕ → UseTree → Bool
is_in n t = option_map_or (nat_eq n) t.parent false

-- what is in a list stands right behind it
abbrev pub is_empty_list : List UseTree → ℕ → UseTree → Bool
is_empty_list trees n t = is_list t.kind && not (option_map_or (is_in n) (slice_get trees (n + 1)) false)

-- a list of nothing asks for what it is of, as `{self as _}` does
abbrev pub kind_of : List Lexeme → UseTree → Bool → Option ImportKind
kind_of ls t true = Some imports.TypeOnly
kind_of ls t false = import_kind ls t

abbrev pub leaf_by : Option UseTreeIdx → Option ImportKind → Option ℕ → Bool → Option Leaf
leaf_by (Some n) (Some kind) alias empty = Some (record { tree = n; kind = kind; alias = alias; is_empty_list = empty })
leaf_by _ _ alias empty = None

-- other lists and errors are no leaves
abbrev pub leaf_of : List Lexeme → List UseTree → ℕ → UseTree → Option Leaf
leaf_of ls trees n t = let empty = is_empty_list trees n t in leaf_by (use_tree_idx n) (kind_of ls t empty) t.alias empty

-- a path of no names that does not begin with `crate`, `self` or `super`
abbrev pub says_nothing : Path → Bool
says_nothing p = nat_eq (length p.segments) 0 && elim p.kind [ path.Plain ↦ true | path.Abs ↦ true | _ ↦ false ]

-- a list of nothing binds nothing; and where it is of nothing, as `use {};` and `use ::{};` are, it asks for nothing
abbrev pub of_list : Path → Option Binding
of_list p = if says_nothing p then None else Some unnamed

abbrev pub of_path : List ℕ → List Lexeme → Leaf → Option Path → List DeclaredImport
of_path text ls leaf None = []
of_path text ls leaf (Some p) = of_binding leaf p (if leaf.is_empty_list then of_list p else bound_by text ls leaf.kind leaf.alias p)

abbrev pub is_type_only : ImportKind → Bool
is_type_only imports.TypeOnly = true
is_type_only _ = false

abbrev pub is_self : Leaf → Bool
is_self leaf = is_type_only leaf.kind && not leaf.is_empty_list

-- `self` in a list of no path is the module that the `use` stands in
abbrev pub leaf_path : List ℕ → List Lexeme → Leaf → List ℕ → Option Path
leaf_path text ls leaf places =
    if is_self leaf && nat_eq (length places) 0 then Some (record { kind = path.Super 0; segments = [] })
    else path_of text ls places

abbrev pub of_leaf : List ℕ → List Lexeme → List ℕ → Option Leaf → List DeclaredImport
of_leaf text ls places None = []
of_leaf text ls places (Some leaf) = of_path text ls leaf (leaf_path text ls leaf places)

-- what the tree of a number imports: nothing without a path, and nothing where it has nothing to bind
abbrev pub import_of : List ℕ → List Lexeme → List UseTree → ℕ → UseTree → List DeclaredImport
import_of text ls trees n t = of_leaf text ls (import_path ls trees n) (leaf_of ls trees n t)

abbrev pub imports_from : List ℕ → List Lexeme → List UseTree → ℕ → List UseTree → List DeclaredImport
imports_from text ls trees n [] = []
imports_from text ls trees n (t ∷ ts) = import_of text ls trees n t ++ imports_from text ls trees (n + 1) ts

-- what some use trees import, in order
abbrev pub imports_of_trees : List ℕ → List Lexeme → List UseTree → List DeclaredImport
imports_of_trees text ls trees = imports_from text ls trees 0 trees

-- the use trees of a `use` stand behind its word
abbrev pub imports_of_item : List ℕ → List Lexeme → ItemKind → ℕ → ℕ → List DeclaredImport
imports_of_item text ls item.Use first behind =
    imports_of_trees text ls (use_trees_of ls (record { first = first + 1; behind = behind }))
imports_of_item text ls _ first behind = []

abbrev pub imports_in : List ℕ → Source → Option Item → List DeclaredImport
imports_in text s None = []
imports_in text s (Some x) = imports_of_item text s.lexemes x.kind x.word x.behind

abbrev pub imports_by : List ℕ → Option Source → ℕ → List DeclaredImport
imports_by text None n = []
imports_by text (Some s) n = imports_in text s (slice_get s.items n)

-- what a `use` item imports; nothing for any other item
abbrev pub declared_imports : Listing → List SourceFile → DeclaredItem → List DeclaredImport
declared_imports l files x = imports_by (text_of files x.file) (source_at l.sources x.file) x.item
