-- Items of a small file, and what use trees import: worked rows.
use Rattle.std.specs.Prelude.{◌≡◌, ℕ, true, false, List, [], ◌∷◌, Option, Some, None, codes, map}
use Rattle.crate_items.specs.DeclaredImports.{imports_of_trees}
use Rattle.crate_items.specs.FileItems.{homed_from}
use Rattle.crate_items.specs.UsePaths.{path_of}
use Rattle.crate_items.specs.declared.items.declared_import.DeclaredImport.{DeclaredImport}
use Rattle.crate_items.specs.declared.items.file_items.Homed.{Homed}
use Rattle.crate_items.specs.ModuleRows.{colon_at, item_of, stands, word_at}
use Rattle.crate_items.specs.Sources.{Source}
use Rattle.dm_base.specs.Path.{Path}
use Rattle.dm_base.specs.declared.mod_path.PathKind.{PathKind}
use Rattle.dm_base.specs.declared.mod_path.PathKind.TheVariants as path
use Rattle.item_tree.specs.declared.items.imports.ImportKind.{ImportKind}
use Rattle.item_tree.specs.declared.items.imports.ImportKind.TheVariants as imports
use Rattle.item_tree.specs.declared.items.item_kind.ItemKind.TheVariants as item
use Rattle.item_tree.specs.declared.items.Item.{Item}
use Rattle.item_tree.specs.declared.lexer.lexeme.Lexeme.{Lexeme}
use Rattle.item_tree.specs.declared.items.use_tree.UseTree.{UseTree}
use Rattle.item_tree.specs.declared.items.use_tree.UseTreeKind.{UseTreeKind}
use Rattle.item_tree.specs.declared.items.use_tree.UseTreeKind.TheVariants as tree
use Rattle.item_tree.specs.declared.lexer.word.Word.TheVariants as word

-- an `extern` block with a function and one that the crate has not, in an inline module; an implementation with a
-- function; and an error
abbrev pub items : List Item
items =
    item_of item.Mod None 0 0
    ∷ item_of item.Impl None 40 40
    ∷ item_of item.Error None 60 60
    ∷ item_of item.ExternBlock (Some 0) 3 3
    ∷ item_of item.Function (Some 1) 45 45
    ∷ item_of item.Function (Some 3) 6 6
    ∷ item_of item.Function (Some 3) 12 12 ∷ []

abbrev pub source : Source
source =
    record {
      lexemes = [];
      partners = [];
      items = items;
      top_level = 3;
      attributes = record { attributes = []; conditions = []; nodes = []; errors = [] };
      active = [];
      standings =
          stands None (Some 0) true
          ∷ stands None (Some 1) true
          ∷ stands None (Some 2) true
          ∷ stands (Some 0) (Some 3) true
          ∷ stands (Some 1) (Some 4) true
          ∷ stands (Some 3) (Some 5) true
          ∷ stands (Some 3) (Some 6) false ∷ [];
      mods = [];
      is_enabled = true;
      path = None;
    }

abbrev pub homed : Option ℕ → ℕ → ℕ → Homed
homed home item place = record { home = home; item = item; place = place }

-- the function of the block stands in the module, and that of the implementation in no module
abbrev pub Homes : Type 0
Homes =
    homed_from source 0 items
    ≡ homed None 0 0 ∷ homed None 1 40 ∷ homed (Some 0) 3 3 ∷ homed (Some 1) 4 45 ∷ homed (Some 0) 5 6 ∷ []

-- "crate::c super self d"
abbrev pub text : List ℕ
text = codes "crate::c super self d"

abbrev pub lexemes : List Lexeme
lexemes =
    word_at word.Crate 0 5 ∷ colon_at 5 ∷ colon_at 6 ∷ word_at word.Other 7 1
    ∷ word_at word.Super 9 5 ∷ word_at word.SelfValue 15 4 ∷ word_at word.Other 20 1 ∷ []

abbrev pub to : PathKind → List (List ℕ) → Path
to kind names = record { kind = kind; segments = names }

-- `crate::c`, `::c`, `c::d`, `super::super::d`, `self`, and `self::super::d`
abbrev pub Paths : Type 0
Paths =
    map (path_of text lexemes)
    ((0 ∷ 3 ∷ []) ∷ (1 ∷ 3 ∷ []) ∷ (3 ∷ 6 ∷ []) ∷ (4 ∷ 4 ∷ 6 ∷ []) ∷ (5 ∷ []) ∷ (5 ∷ 4 ∷ 6 ∷ []) ∷ [])
    ≡ Some (to path.Crate (codes "c" ∷ []))
    ∷ Some (to path.Abs (codes "c" ∷ []))
    ∷ Some (to path.Plain (codes "c" ∷ codes "d" ∷ []))
    ∷ Some (to (path.Super 2) (codes "d" ∷ []))
    ∷ Some (to (path.Super 0) [])
    ∷ Some (to (path.Super 1) (codes "d" ∷ [])) ∷ []

-- `c::crate`, `crate::self` and `c::super::d` are no paths
abbrev pub NoPaths : Type 0
NoPaths =
    map (path_of text lexemes) ((3 ∷ 0 ∷ []) ∷ (0 ∷ 5 ∷ []) ∷ (3 ∷ 4 ∷ 6 ∷ []) ∷ []) ≡ None ∷ None ∷ None ∷ []

abbrev pub tree_of : UseTreeKind → Option ℕ → ℕ → ℕ → Option ℕ → UseTree
tree_of kind parent first behind alias =
    record {
      kind = kind;
      parent = parent;
      path = record { first = first; behind = behind };
      alias = alias;
      behind = behind;
    }

-- `c::{self, d, *}`
abbrev pub trees : List UseTree
trees =
    tree_of tree.Prefixed None 3 4 None
    ∷ tree_of tree.Single (Some 0) 5 6 None
    ∷ tree_of tree.Single (Some 0) 6 7 None
    ∷ tree_of tree.Glob (Some 0) 7 7 None ∷ []

abbrev pub import : ℕ → ImportKind → Path → Option (List ℕ) → DeclaredImport
import n kind p name = record { tree = record { 0 = n }; kind = kind; path = p; name = name; is_unnamed = false; is_empty_list = false }

abbrev pub Imports : Type 0
Imports =
    imports_of_trees text lexemes trees
    ≡ import 1 imports.TypeOnly (to path.Plain (codes "c" ∷ [])) (Some (codes "c"))
    ∷ import 2 imports.Plain (to path.Plain (codes "c" ∷ codes "d" ∷ [])) (Some (codes "d"))
    ∷ import 3 imports.Glob (to path.Plain (codes "c" ∷ [])) None ∷ []

abbrev pub empty_list : ℕ → Path → DeclaredImport
empty_list n p = record { tree = record { 0 = n }; kind = imports.TypeOnly; path = p; name = None; is_unnamed = true; is_empty_list = true }

-- `c::{}` asks for `c`, and binds nothing; of `c::{d::{}}` the inner list asks; and `{}` is nothing
abbrev pub EmptyList : Type 0
EmptyList = imports_of_trees text lexemes (tree_of tree.Prefixed None 3 4 None ∷ []) ≡ empty_list 0 (to path.Plain (codes "c" ∷ [])) ∷ []

abbrev pub InnerList : Type 0
InnerList =
    imports_of_trees text lexemes (tree_of tree.Prefixed None 3 4 None ∷ tree_of tree.Prefixed (Some 0) 6 7 None ∷ [])
    ≡ empty_list 1 (to path.Plain (codes "c" ∷ codes "d" ∷ [])) ∷ []

abbrev pub ListOfNothing : Type 0
ListOfNothing = imports_of_trees text lexemes (tree_of tree.Prefixed None 3 3 None ∷ []) ≡ []
