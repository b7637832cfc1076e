-- Semantics of the lines that add: the builder's tables after each.
use Rattle.std.specs.Prelude.{◌≡◌, Option, Some, None, Result, Ok, Err, MatchResult, slice_get}
use Rattle.std.specs.Option.{option_map_or}
use Rattle.dm_base.specs.Names.{Name, same_name}
use Rattle.dm_base.specs.declared.ids.BlockId.{BlockId}
use Rattle.dm_base.specs.declared.ids.Crate.{Crate}
use Rattle.dm_base.specs.declared.ids.FileAstId.{FileAstId}
use Rattle.dm_base.specs.declared.ids.FileId.{FileId}
use Rattle.dm_base.specs.declared.ids.MapId.{MapId}
use Rattle.dm_base.specs.declared.ids.ModuleId.{ModuleId}
use Rattle.dm_base.specs.declared.item_ids.MacroId.{MacroId}
use Rattle.dm_base.specs.declared.source.AstId.{AstId}
use Rattle.dm_base.specs.declared.edition.Edition.{Edition}
use Rattle.dm_base.specs.declared.edition.Edition.TheVariants as edition
use Rattle.dm_base.specs.declared.source.EditionedFileId.{EditionedFileId}
use Rattle.dm_base.specs.declared.source.HirFileId.{HirFileId}
use Rattle.dm_base.specs.declared.source.HirFileId.TheVariants as tree_file
use Rattle.dm_scope.specs.Scope.{Scope}
use Rattle.dm_scope.specs.TableLists.{add_to_list}
use Rattle.dm_maps.specs.declared.build_fault.BuildFault.{BuildFault}
use Rattle.dm_def_map.specs.declared.modules.module_origin.ModuleOrigin.{ModuleOrigin}
use Rattle.dm_def_map.specs.declared.modules.module_origin.ModuleOrigin.TheVariants.{Inline}
use Rattle.dm_maps.specs.Build.{with_crate, with_module, with_item, with_rules}
use Rattle.dm_maps.specs.BuildBlocks.{with_block, block_fault}
use Rattle.dm_maps.specs.BuildItems.{with_use, with_macro, with_variant}
use Rattle.dm_maps.specs.BuildMaps.{with_prelude, with_macro_use, with_extern_of, map_fault, crate_fault}
use Rattle.dm_maps.specs.BuildTables.{with_raw}
use Rattle.dm_maps.specs.Faults.{new_crate_fault, child_fault, item_fault}
use Rattle.dm_maps.specs.ItemFaults.{use_fault, macro_fault, variant_fault}
use Rattle.dm_maps.specs.World.{World, scope_if_known, with_scope}
use Rattle.defmap_script.specs.declared.build_words.MapName.{MapName}
use Rattle.defmap_script.specs.declared.build_words.MapName.TheVariants as named
use Rattle.defmap_script.specs.declared.fault.Fault.{Fault}
use Rattle.defmap_script.specs.declared.fault.Fault.TheVariants as faults
use Rattle.defmap_script.specs.BuildLines.{Added, NewCrate, NewModule, NewBlock, NewUse, NewItem, NewVariant, NewMacro, NewPrelude, NewMacroUse, NewExtern, NewLegacy, NewRaw, NewRules}
use Rattle.defmap_script.specs.Faults.{build_fault, IsRefused}

abbrev pub file_of : FileId → Edition → EditionedFileId
file_of f e = record { file = f; edition = e }

-- the modules and blocks of a script are inline in file 0, of edition 2021
abbrev pub own_file : HirFileId
own_file = tree_file.File (file_of (record { 0 = 0 }) edition.Edition2021)

abbrev pub inline : ModuleOrigin
inline = Inline (record { file = own_file; block = None }) (record { 0 = 0 })

abbrev pub ast_of : FileAstId → AstId
ast_of a = record { file_id = own_file; value = a }

-- the id of a map: a block's has the crate that the block lies in
abbrev pub crate_of_block : World → BlockId → Crate
crate_of_block w b = option_map_or (λ m. m.id.krate) (slice_get w.block_maps b.0) (record { 0 = 0 })

abbrev pub map_id : World → MapName → MapId
map_id w (named.Crate k) = record { krate = k; block = None }
map_id w (named.Block b) = record { krate = crate_of_block w b; block = Some b }

-- refused for its fault, or the tables v
abbrev pub built : Option BuildFault → World → Result World Fault
built None v = Ok v
built (Some f) v = Err (build_fault f)

-- the scope with a legacy macro more
abbrev pub scope_with_legacy : Scope → Name → MacroId → Scope
scope_with_legacy s n l = record s { legacy_macros = add_to_list same_name s.legacy_macros n l }

-- a legacy macro goes into the scope of a module that there is
abbrev pub with_legacy : World → ModuleId → Name → MacroId → Option Scope → Result World Fault
with_legacy w m n l None = Err faults.Unknown
with_legacy w m n l (Some s) = Ok (with_scope w m (scope_with_legacy s n l))

-- what a line that adds leaves of the tables, or why it is refused
abbrev pub added_to : World → Added → Result World Fault
added_to w (NewCrate e f) = built (new_crate_fault w) (with_crate w e (file_of f e))
added_to w (NewModule m n v) = built (child_fault w m n) (with_module w m n inline v)
added_to w (NewBlock m a) = built (block_fault w m) (with_block w m (ast_of a))
added_to w (NewUse m) = built (use_fault w m) (with_use w m)
added_to w (NewItem k m) = built (item_fault w m) (with_item w k m)
added_to w (NewVariant e n s) = built (variant_fault w e n) (with_variant w e n s)
added_to w (NewMacro m l) = built (macro_fault w m) (with_macro w m l)
added_to w (NewPrelude map m) = built (map_fault w (map_id w map)) (with_prelude w (map_id w map) (Some (m, None)))
added_to w (NewMacroUse map n m x) = built (map_fault w (map_id w map)) (with_macro_use w (map_id w map) n m x)
added_to w (NewExtern k n m x) = built (crate_fault w k) (with_extern_of w k n m x)
added_to w (NewLegacy m n l) = with_legacy w m n l (scope_if_known w m)
added_to w (NewRaw n) = Ok (with_raw w n)
added_to w (NewRules r) = Ok (with_rules w r)

-- a call that leaves what r has, or fails: with its fault, or out of memory where it has none
abbrev pub Leaves : Result World Fault → Result (Unit {0}) Fault → World → Type 0
Leaves r result new = MatchResult result (λ _. r ≡ Ok new) (IsRefused (λ s. r ≡ s))
