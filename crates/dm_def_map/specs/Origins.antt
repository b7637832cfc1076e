-- Module origins: a crate root, a file, an inline module, or a block expression.
use Rattle.std.specs.Prelude.{Bool, true, false, Option, Some, None}
use Rattle.dm_base.specs.declared.source.AstId.{AstId}
use Rattle.dm_base.specs.declared.source.EditionedFileId.{EditionedFileId}
use Rattle.dm_base.specs.declared.source.HirFileId.{HirFileId}
use Rattle.dm_base.specs.declared.source.HirFileId.TheVariants as file
use Rattle.dm_def_map.specs.declared.modules.module_origin.ModuleOrigin.{ModuleOrigin}
use Rattle.dm_def_map.specs.declared.modules.module_origin.ModuleOrigin.TheVariants.{CrateRoot, File, Inline, BlockExpr}

-- a module below another, in a file of its own or inline
abbrev pub is_child : ModuleOrigin → Bool
is_child (CrateRoot definition) = false
is_child (File is_mod_rs declaration tree definition) = true
is_child (Inline tree definition) = true
is_child (BlockExpr id block) = false

-- where a module is declared below another: in the file that its tree is of
abbrev pub declaration : ModuleOrigin → Option AstId
declaration (CrateRoot definition) = None
declaration (File is_mod_rs declared tree definition) = Some (record { file_id = tree.file; value = declared })
declaration (Inline tree definition) = Some (record { file_id = tree.file; value = definition })
declaration (BlockExpr id block) = None

-- the file that a module fills: that of a crate's root, or its own
abbrev pub own_file : ModuleOrigin → Option EditionedFileId
own_file (CrateRoot definition) = Some definition
own_file (File is_mod_rs declared tree definition) = Some definition
own_file (Inline tree definition) = None
own_file (BlockExpr id block) = None

-- a module that fills no file: an inline module, or a block's root
abbrev pub is_inline : ModuleOrigin → Bool
is_inline (CrateRoot definition) = false
is_inline (File is_mod_rs declared tree definition) = false
is_inline (Inline tree definition) = true
is_inline (BlockExpr id block) = true

-- the file, or the expansion, that has a module's items
abbrev pub source_file : ModuleOrigin → HirFileId
source_file (CrateRoot definition) = file.File definition
source_file (File is_mod_rs declared tree definition) = file.File definition
source_file (Inline tree definition) = tree.file
source_file (BlockExpr id block) = block.file_id
