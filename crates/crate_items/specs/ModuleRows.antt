-- Modules of small crates, and how items stand: worked rows.
use Rattle.std.specs.Prelude.{◌≡◌, ◌+◌, ◌++◌, ℕ, Bool, true, false, List, [], ◌∷◌, Option, Some, None, codes, map}
use Rattle.crate_items.specs.BareModules.{bare_modules}
use Rattle.crate_items.specs.DeclaredModules.{Module}
use Rattle.crate_items.specs.Files.{SourceFile, file_at, id_of}
use Rattle.crate_items.specs.ModDirs as dirs
use Rattle.crate_items.specs.ModDirs.{Dir}
use Rattle.crate_items.specs.ModItems.{path_of}
use Rattle.crate_items.specs.ModuleVisibilities.{Standpoint, shown}
use Rattle.crate_items.specs.Modules.{base_of, faulty, found_as, inline, module_of, outline, root_module}
use Rattle.crate_items.specs.Sources.{Source}
use Rattle.crate_items.specs.Standings.{standings}
use Rattle.crate_items.specs.declared.modules.declared_module.Declaration.{Declaration}
use Rattle.crate_items.specs.declared.files.found.Found.TheVariants.{Declared}
use Rattle.crate_items.specs.declared.modules.mod_items.ModItem.{ModItem}
use Rattle.crate_items.specs.declared.modules.module_visibility.DeclaredVisibility.TheVariants as seen
use Rattle.crate_items.specs.declared.modules.standing.Standing.{Standing}
use Rattle.dm_base.specs.declared.edition.Edition.TheVariants.{Edition2015, Edition2021}
use Rattle.item_tree.specs.declared.attributes.attribute_kind.AttributeKind.{AttributeKind}
use Rattle.item_tree.specs.declared.attributes.attribute_kind.AttributeKind.TheVariants.{Bench, Cfg, NoImplicitPrelude, Path, Test}
use Rattle.item_tree.specs.declared.attributes.Attribute.{Attribute}
use Rattle.item_tree.specs.declared.cfg.CfgAtom.{CfgAtom}
use Rattle.item_tree.specs.declared.cfg.CfgAtom.TheVariants.{Flag}
use Rattle.item_tree.specs.declared.cfg.CfgNode.TheVariants.{False}
use Rattle.item_tree.specs.declared.items.item_kind.ItemKind.{ItemKind}
use Rattle.item_tree.specs.declared.items.item_kind.ItemKind.TheVariants as item
use Rattle.item_tree.specs.declared.items.Item.{Item}
use Rattle.item_tree.specs.declared.lexer.lexeme.Lexeme.{Lexeme}
use Rattle.item_tree.specs.declared.lexer.lexeme.LexemeKind.TheVariants as kind
use Rattle.item_tree.specs.declared.lexer.span.Span.{Span}
use Rattle.item_tree.specs.declared.items.visibility.RawVisibility.{RawVisibility}
use Rattle.item_tree.specs.declared.items.visibility.RawVisibility.TheVariants as raw
use Rattle.item_tree.specs.declared.lexer.word.Word.{Word}
use Rattle.item_tree.specs.declared.lexer.word.Word.TheVariants as word

-- a crate of four files. The text of the second has the string of a `#[path]` behind a name
abbrev pub files : List SourceFile
files =
    record { path = codes "src/lib.rs"; text = codes "abc\"a.rs\"" }
    ∷ record { path = codes "src/a.rs"; text = codes "d\"a.rs\"" }
    ∷ record { path = codes "src/b.rs"; text = [] }
    ∷ record { path = codes "src/b/mod.rs"; text = [] } ∷ []

abbrev pub root : Module
root = root_module files (id_of 0)

-- `mod` and the name at a place, in an inline module or none
abbrev pub mod_at : ℕ → Option ℕ → Option Span → Bool → ModItem
mod_at start home path is_outline =
    record {
      item = start + 5;
      home = home;
      name = record { start = start; len = 1 };
      visibility = raw.Inherited;
      path = path;
      is_outline = is_outline;
    }

abbrev pub in_root : ℕ → List ℕ → Declaration
in_root item name = record { parent = 0; name = name; visibility = raw.Inherited; file = id_of 0; item = item }

-- `mod a;`, whose file alone is there
abbrev pub module_a : Module
module_a = outline root (in_root 5 (codes "a")) (id_of 1) (record { path = codes "src/a.rs"; is_owner = false })

abbrev pub FileByPath : Type 0
FileByPath = map (file_at files) (codes "src/b.rs" ∷ codes "src/c.rs" ∷ []) ≡ Some (id_of 2) ∷ None ∷ []

abbrev pub OneFile : Type 0
OneFile = found_as files 0 root (mod_at 0 None None true) (Some (codes "a")) ≡ Declared module_a (Some root.dir)

-- `mod b;`, of which both files are there, and `mod c;`, of which none is
abbrev pub TwoFiles : Type 0
TwoFiles =
    found_as files 0 root (mod_at 1 None None true) (Some (codes "b"))
    ≡ faulty (in_root 6 (codes "b")) (dirs.candidates root.dir (codes "b") None) None

abbrev pub NoFile : Type 0
NoFile =
    found_as files 0 root (mod_at 2 None None true) (Some (codes "c"))
    ≡ faulty (in_root 7 (codes "c")) (dirs.candidates root.dir (codes "c") None) None

-- `#[path = "a.rs"] mod d;` in the file of that path
abbrev pub in_a : Declaration
in_a = record { parent = 1; name = codes "d"; visibility = raw.Inherited; file = id_of 1; item = 5 }

abbrev pub WithinItself : Type 0
WithinItself =
    found_as files 1 module_a (mod_at 0 None (Some (record { start = 1; len = 6 })) true) (Some (codes "d"))
    ≡ faulty in_a (dirs.candidates module_a.dir (codes "d") (Some (codes "a.rs"))) (Some (id_of 1))

-- `mod c { .. }` stands in the files of the root
abbrev pub inline_c : Module
inline_c = inline root (in_root 7 (codes "c")) None

abbrev pub Inline : Type 0
Inline = found_as files 0 root (mod_at 2 None None false) (Some (codes "c")) ≡ Declared inline_c None

-- items of a file, by their kinds, parents, and the lexemes of their outer attributes
abbrev pub item_of : ItemKind → Option ℕ → ℕ → ℕ → Item
item_of kind parent first visibility =
    record {
      kind = kind;
      parent = parent;
      first = first;
      visibility = visibility;
      qualifiers = visibility;
      word = visibility;
      name = None;
      behind = visibility;
      body = None;
      missing = None;
    }

-- a `cfg_if!` with three arms, of which the first has `cfg(false)`; a function in each; and a module with a function
abbrev pub arms : List Item
arms =
    item_of item.CfgIf None 0 0
    ∷ item_of item.Mod None 30 30
    ∷ item_of item.CfgArm (Some 0) 2 9
    ∷ item_of item.CfgArm (Some 0) 12 12
    ∷ item_of item.CfgArm (Some 0) 20 20
    ∷ item_of item.Function (Some 1) 31 31
    ∷ item_of item.Function (Some 2) 10 10
    ∷ item_of item.Function (Some 3) 13 13
    ∷ item_of item.Function (Some 4) 21 21 ∷ []

abbrev pub stands : Option ℕ → Option ℕ → Bool → Standing
stands home inner is_configured = record { home = home; inner = inner; is_configured = is_configured }

-- the attribute of the first arm
abbrev pub cfg_false : Attribute
cfg_false =
    record {
      kind = Cfg (record { start = 0; len = 1 });
      inner = false;
      condition = None;
      input = record { first = 5; behind = 8 };
    }

-- the second arm is taken, and neither the first nor the last; the functions of arms stand in the file's module
abbrev pub Arms : Type 0
Arms =
    standings (record {
      options = [];
      text = [];
      lexemes = [];
      partners = [];
      attributes = record {
        attributes = cfg_false ∷ [];
        conditions = [];
        nodes = False ∷ [];
        errors = [];
      };
      active = [];
      items = arms;
      is_enabled = true;
    })
    ≡ stands None None true
    ∷ stands None (Some 1) true
    ∷ stands None None false
    ∷ stands None None true
    ∷ stands None None false
    ∷ stands (Some 1) (Some 5) true
    ∷ stands None (Some 6) false
    ∷ stands None (Some 7) true
    ∷ stands None (Some 8) false ∷ []

-- in `mod c { .. }` of the root, in a text "crate::c super c"
abbrev pub within_c : Standpoint
within_c = record { modules = root ∷ inline_c ∷ []; number = 1; edition = Edition2021; text = codes "crate::c super c" }

abbrev pub word_at : Word → ℕ → ℕ → Lexeme
word_at w start len = record { kind = kind.Word w; start = start; len = len }

abbrev pub colon_at : ℕ → Lexeme
colon_at start = record { kind = kind.Mark 58; start = start; len = 1 }

-- a `cfg_select!` with arms under `a`, `b` and `_`
abbrev pub select_arm : ℕ → Item
select_arm n = record (item_of item.CfgArm (Some 0) n n) { qualifiers = n; word = n + 1 }

abbrev pub select_arms : List CfgAtom → List Standing
select_arms options =
    standings (record {
      options = options;
      text = codes "a b _";
      lexemes = word_at word.Other 0 1 ∷ word_at word.Other 2 1 ∷ word_at word.Underscore 4 1 ∷ [];
      partners = [];
      attributes = record { attributes = []; conditions = []; nodes = []; errors = [] };
      active = [];
      items = item_of item.CfgSelect None 0 0 ∷ select_arm 0 ∷ select_arm 1 ∷ select_arm 2 ∷ [];
      is_enabled = true;
    })

-- the first is taken that holds
abbrev pub SelectArms : Type 0
SelectArms =
    map select_arms ((Flag (codes "b") ∷ []) ∷ [] ∷ [])
    ≡ (stands None None true ∷ stands None None false ∷ stands None None true ∷ stands None None false ∷ [])
    ∷ (stands None None true ∷ stands None None false ∷ stands None None false ∷ stands None None true ∷ [])
    ∷ []

abbrev pub lexemes : List Lexeme
lexemes =
    word_at word.Crate 0 5 ∷ colon_at 5 ∷ colon_at 6 ∷ word_at word.Other 7 1
    ∷ word_at word.Super 9 5 ∷ word_at word.Other 15 1 ∷ []

abbrev pub in_path : ℕ → ℕ → RawVisibility
in_path first behind = raw.In (record { first = first; behind = behind })

-- `pub(in crate::c)` and `pub(self)` show it to the module itself, `pub(in super)` to the root, and `pub(in c)` to the
-- module in the edition 2015 alone
abbrev pub Shown : Type 0
Shown =
    map (shown within_c lexemes) (in_path 0 4 ∷ raw.PubSelf ∷ in_path 4 5 ∷ in_path 5 6 ∷ [])
    ≡ Some (seen.Within 1) ∷ Some (seen.Within 1) ∷ Some (seen.Within 0) ∷ None ∷ []

abbrev pub ShownIn2015 : Type 0
ShownIn2015 = shown (record within_c { edition = Edition2015 }) lexemes (in_path 5 6) ≡ Some (seen.Within 1)

-- in `mod é { .. }` of the root, whose name is in Normalization Form C, `crate::é` in Form D
abbrev pub composed : Module
composed = inline root (in_root 7 (0xC3 ∷ 0xA9 ∷ [])) None

abbrev pub within_composed : Standpoint
within_composed =
    record {
      modules = root ∷ composed ∷ [];
      number = 1;
      edition = Edition2021;
      text = codes "crate::e" ++ 0xCC ∷ 0x81 ∷ [];
    }

-- `pub(in crate::é)` shows it to the module, and `pub(in crate::e)` to none
abbrev pub ShownInOneForm : Type 0
ShownInOneForm =
    map (λ (len : ℕ). shown within_composed
    (word_at word.Crate 0 5 ∷ colon_at 5 ∷ colon_at 6 ∷ word_at word.Other 7 len ∷ []) (in_path 0 4))
    (3 ∷ 1 ∷ [])
    ≡ Some (seen.Within 1) ∷ None ∷ []

-- `::crate::c::super`
abbrev pub global_lexemes : List Lexeme
global_lexemes =
    colon_at 5 ∷ colon_at 6 ∷ word_at word.Crate 0 5
    ∷ colon_at 5 ∷ colon_at 6 ∷ word_at word.Other 7 1
    ∷ colon_at 5 ∷ colon_at 6 ∷ word_at word.Super 9 5 ∷ []

-- `pub(in crate::c)` shows it to the module; `pub(in crate::c::super)`, `pub(in ::crate::c)` and
-- `pub(in ::c)` are errors
abbrev pub Wrong : Type 0
Wrong =
    map (shown within_c global_lexemes) (in_path 2 6 ∷ in_path 2 9 ∷ in_path 0 6 ∷ in_path 3 6 ∷ [])
    ≡ Some (seen.Within 1) ∷ None ∷ None ∷ None ∷ []

-- but for `pub(in ::c)` in the edition 2015
abbrev pub WrongIn2015 : Type 0
WrongIn2015 =
    map (shown (record within_c { edition = Edition2015 }) global_lexemes)
    (in_path 0 6 ∷ in_path 3 6 ∷ [])
    ≡ None ∷ Some (seen.Within 1) ∷ []

abbrev pub path_at : ℕ → ℕ → ℕ → Attribute
path_at start first behind =
    record {
      kind = Path (record { start = start; len = 3 });
      inner = false;
      condition = None;
      input = record { first = first; behind = behind };
    }

-- a module with braces that begin with `#![path = ".."]`, and the attribute
abbrev pub braces : Item
braces = record (item_of item.Mod None 0 6) { body = Some (record { first = 9; behind = 20 }) }

abbrev pub within_braces : Item
within_braces = item_of item.InnerAttribute (Some 0) 9 16

-- with a `#[path = ".."]` before it, or another attribute alone
abbrev pub path_by : List Attribute → Option Span
path_by attributes =
    path_of (record {
      options = [];
      text = [];
      lexemes = [];
      partners = [];
      attributes = record { attributes = attributes; conditions = []; nodes = []; errors = [] };
      active = [];
      items = braces ∷ within_braces ∷ [];
      is_enabled = true;
    }) 0 braces

-- the path before the module goes before the one within its braces
abbrev pub PathWithin : Type 0
PathWithin =
    map path_by
    ((path_at 40 13 15 ∷ []) ∷ (path_at 30 3 5 ∷ path_at 40 13 15 ∷ []) ∷ (path_at 40 18 20 ∷ []) ∷ [])
    ≡ Some (record { start = 40; len = 3 }) ∷ Some (record { start = 30; len = 3 }) ∷ None ∷ []

-- an active attribute, by what stands behind its name
abbrev pub attribute_at : AttributeKind → ℕ → Attribute
attribute_at kind first = record { kind = kind; inner = false; condition = None; input = record { first = first; behind = first } }

-- `#[test] fn`, `fn`, an implementation with a `#[test] fn`, and `#[bench] struct`: which of them a crate has, by its options
abbrev pub tested : List CfgAtom → List Bool
tested options =
    map (λ (s : Standing). s.is_configured)
    (standings (record {
      options = options;
      text = [];
      lexemes = [];
      partners = [];
      attributes = record {
        attributes = attribute_at Test 3 ∷ attribute_at Test 24 ∷ attribute_at Bench 33 ∷ [];
        conditions = [];
        nodes = [];
        errors = [];
      };
      active = [];
      items =
          item_of item.Function None 0 4
          ∷ item_of item.Function None 10 10
          ∷ item_of item.Impl None 20 20
          ∷ item_of item.Struct None 30 34
          ∷ item_of item.Function (Some 2) 21 25 ∷ [];
      is_enabled = true;
    }))

abbrev pub Tests : Type 0
Tests =
    map tested ([] ∷ (Flag (codes "test") ∷ []) ∷ [])
    ≡ (false ∷ true ∷ true ∷ true ∷ true ∷ []) ∷ (true ∷ true ∷ true ∷ true ∷ true ∷ []) ∷ []

-- `#[no_implicit_prelude] mod a { mod b { .. } }` and `mod c { .. }`, in the file of the root
abbrev pub bare_a : Module
bare_a = inline root (in_root 0 (codes "a")) None

abbrev pub beside_c : Module
beside_c = inline root (in_root 1 (codes "c")) None

abbrev pub bare_b : Module
bare_b = inline bare_a (record { parent = 1; name = codes "b"; visibility = raw.Inherited; file = id_of 0; item = 2 }) None

abbrev pub bare_source : Source
bare_source =
    record {
      lexemes = [];
      partners = [];
      items = item_of item.Mod None 0 4 ∷ item_of item.Mod None 10 10 ∷ item_of item.Mod (Some 0) 5 5 ∷ [];
      top_level = 2;
      attributes = record { attributes = attribute_at NoImplicitPrelude 3 ∷ []; conditions = []; nodes = []; errors = [] };
      active = [];
      standings = [];
      mods = [];
      is_enabled = true;
      path = None;
    }

abbrev pub BareModules : Type 0
BareModules =
    bare_modules (record { sources = Some bare_source ∷ []; modules = root ∷ bare_a ∷ beside_c ∷ bare_b ∷ []; faults = [] })
    ≡ false ∷ true ∷ false ∷ true ∷ []

-- the folders of the children of `mod a;`, which is declared in such a folder with a `#[path]` or without, and whose file
-- begins with such a `#![path]`
abbrev pub children_of_file : Module → Bool → Option (List ℕ) → List Dir
children_of_file outer has_path path =
    map (λ (m : Module). m.dir)
    (module_of (None ∷ Some (record bare_source { path = path }) ∷ []) (Declared module_a (base_of outer has_path)))

-- from the folder of the declaration, without the own one; a `#[path]` before the module goes before it
abbrev pub PathOfFile : Type 0
PathOfFile =
    children_of_file root false (Some (codes "x/y.rs"))
    ++ children_of_file module_a false (Some (codes "x/y.rs"))
    ++ children_of_file root true (Some (codes "x/y.rs"))
    ++ children_of_file root false None
    ≡ record { folder = codes "src/x/"; own = [] }
    ∷ record { folder = codes "src/x/"; own = [] }
    ∷ module_a.dir
    ∷ module_a.dir ∷ []
