-- Modules of a crate, as they are added to a builder.
use Rattle.std.specs.Prelude.{◌==◌, ◌&&◌, ℕ, Bool, List, Option, None, Some, codes, nat_eq, option_map, slice_get}
use Rattle.std.specs.List.{ends_with}
use Rattle.crate_items.specs.DeclaredModules.{Module}
use Rattle.crate_items.specs.Files.{SourceFile, path_of, text_of}
use Rattle.crate_items.specs.ModuleVisibilities.{visibility_in}
use Rattle.crate_items.specs.Modules.{Listing}
use Rattle.crate_items.specs.declared.modules.declared_module.Declaration.{Declaration}
use Rattle.crate_items.specs.declared.modules.module_visibility.DeclaredVisibility.{DeclaredVisibility}
use Rattle.crate_tables.specs.declared.new_module.NewModule.{NewModule}
use Rattle.crate_tables.specs.declared.new_module.OwnFile.{OwnFile}
use Rattle.dm_def_map.specs.declared.modules.module_origin.ModuleOrigin.{ModuleOrigin}
use Rattle.dm_def_map.specs.declared.modules.module_origin.ModuleOrigin.TheVariants as origin
use Rattle.dm_base.specs.declared.ids.Crate.{Crate}
use Rattle.dm_base.specs.declared.ids.FileAstId.{FileAstId}
use Rattle.dm_base.specs.declared.ids.FileId.{FileId}
use Rattle.dm_base.specs.declared.edition.Edition.{Edition}
use Rattle.dm_base.specs.declared.source.EditionedFileId.{EditionedFileId}
use Rattle.dm_base.specs.declared.source.HirFileId.TheVariants as file
use Rattle.dm_base.specs.declared.source.TreeId.{TreeId}
use Rattle.item_tree.specs.declared.cfg.CfgAtom.{CfgAtom}

-- a crate: its number in the builder, its edition and options, whether it has procedural macros, its modules, and the
-- files
pub record CrateView : Type 0 where
  pub krate : Crate
  pub edition : Edition
  pub options : List CfgAtom
  pub is_proc_macro : Bool
  pub list : Listing
  pub files : List SourceFile

-- the module of a number is the root of a crate of procedural macros
abbrev pub is_macro_root : CrateView → ℕ → Bool
is_macro_root v n = v.is_proc_macro && (n == 0)

-- a file of the name `mod.rs` in some folder
abbrev pub is_mod_rs : List ℕ → Bool
is_mod_rs path = ends_with nat_eq path (codes "/mod.rs")

-- the file of a module that is not inline
abbrev pub own_file : List SourceFile → FileId → Option ℕ → Option OwnFile
own_file files id (Some item) = None
own_file files id None = Some (record { file = id; is_mod_rs = is_mod_rs (path_of files id) })

-- whom a module is shown to: the module that it stands in reads what is written
abbrev pub shown_in : CrateView → Declaration → Option Module → Option DeclaredVisibility
shown_in v d None = None
shown_in v d (Some outer) = visibility_in v.list v.edition (text_of v.files outer.file) d.parent d.visibility

abbrev pub declared_so : CrateView → Module → Declaration → NewModule
declared_so v m d = record {
  parent = d.parent;
  name = d.name;
  declared_in = d.file;
  item = d.item;
  own_file = own_file v.files m.file m.item;
  written = d.visibility;
  shown = shown_in v d (slice_get v.list.modules d.parent);
}

-- what is added for a module of the list: nothing, where it is declared nowhere
abbrev pub new_module : CrateView → Module → Option NewModule
new_module v m = option_map (declared_so v m) m.declaration

-- ---- Where it comes from

abbrev pub in_edition : Edition → FileId → EditionedFileId
in_edition e f = record { file = f; edition = e }

abbrev pub tree_in : Edition → FileId → TreeId
tree_in e f = record { file = file.File (in_edition e f); block = None }

-- a module in a file of its own, or an inline one
abbrev pub origin_by : Edition → FileId → FileAstId → Option OwnFile → ModuleOrigin
origin_by e f item (Some own) = origin.File own.is_mod_rs item (tree_in e f) (in_edition e own.file)
origin_by e f item None = origin.Inline (tree_in e f) item

abbrev pub origin_of : Edition → NewModule → ModuleOrigin
origin_of e m = origin_by e m.declared_in (record { 0 = m.item }) m.own_file
