-- Queries of def maps about their modules.
use Rattle.std.specs.Prelude.{Bool, false, nat_eq, List, Option, Some, None, if◌then◌else◌}
use Rattle.std.specs.Borrow.{Bor}
use Rattle.std.specs.List.{filter_map}
use Rattle.std.specs.Option.{option_map_or, option_and_then, option_or}
use Rattle.dm_base.specs.declared.ids.FileId.{FileId}
use Rattle.dm_base.specs.declared.ids.MacroCallId.{MacroCallId}
use Rattle.dm_base.specs.declared.ids.ModuleId.{ModuleId}
use Rattle.dm_base.specs.Files.{macro_file}
use Rattle.dm_def_map.specs.declared.modules.module_origin.ModuleOrigin.{ModuleOrigin}
use Rattle.dm_def_map.specs.declared.modules.module_origin.ModuleOrigin.TheVariants.{CrateRoot, File, Inline, BlockExpr}
use Rattle.dm_def_map.specs.Maps.{Map, Module, Modules, module_at}
use Rattle.dm_def_map.specs.Origins.{own_file}

-- a module's parent; for the root of a block's map, the module that contains the block
abbrev pub containing_in : Map → ModuleId → Option ModuleId
containing_in map m = option_or (option_and_then (λ d. d.parent) (module_at map.modules m)) map.parent

-- whether a module fills the file, under whatever edition
abbrev pub fills : FileId → ModuleOrigin → Bool
fills f o = option_map_or (λ own. nat_eq f.0 own.file.0) (own_file o) false

-- whether a module is an inline module in the expansion of the macro call
abbrev pub is_inline_in : MacroCallId → ModuleOrigin → Bool
is_inline_in c (CrateRoot definition) = false
is_inline_in c (File is_mod_rs declared tree definition) = false
is_inline_in c (Inline tree definition) = option_map_or (λ own. nat_eq c.0 own.0) (macro_file tree.file) false
is_inline_in c (BlockExpr id block) = false

-- the module, if its origin passes
abbrev pub picked : (ModuleOrigin → Bool) → ModuleId × Module → Option ModuleId
picked passes e = if passes e.1.origin then Some e.0 else None

-- the modules whose origin passes, in order of number
abbrev pub modules_with : (ModuleOrigin → Bool) → Modules → List ModuleId
modules_with passes es = filter_map (picked passes) es

-- a module behind references
abbrev pub deref_module : ModuleId × Bor Module → ModuleId × Module
deref_module p = (p.0, p.1.now)
