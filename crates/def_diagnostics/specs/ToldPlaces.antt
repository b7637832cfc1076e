-- Where a diagnostic of a def map is written.
use Rattle.std.specs.Prelude.{List, Option, None, Some, slice_get}
use Rattle.std.specs.Option.{option_map}
use Rattle.def_diagnostics.specs.declared.told_in_maps.CallPlace.{CallPlace}
use Rattle.def_diagnostics.specs.declared.told_places.ToldPlace.{ToldPlace}
use Rattle.def_diagnostics.specs.declared.diagnostic.Place.{Place}
use Rattle.def_diagnostics.specs.declared.diagnostic.Place.TheVariants.{Item, UseTree}
use Rattle.dm_base.specs.declared.ids.MacroCallKind.{MacroCallKind}
use Rattle.dm_base.specs.declared.ids.UseTreeIdx.{UseTreeIdx}
use Rattle.dm_base.specs.declared.source.AstId.{AstId}
use Rattle.dm_base.specs.declared.source.HirFileId.{HirFileId}
use Rattle.dm_base.specs.declared.source.HirFileId.TheVariants as hir
use Rattle.dm_scope.specs.declared.diagnostics.DefDiagnosticKind.{DefDiagnosticKind}
use Rattle.dm_scope.specs.declared.diagnostics.DefDiagnosticKind.TheVariants as wrong

-- a part of a file; an expansion of a macro has none
abbrev pub place_in : HirFileId → Place → Option ToldPlace
place_in (hir.File f) p = Some (record { file = f.file; place = p })
place_in (hir.Macro call) p = None

abbrev pub item_place : AstId → Option ToldPlace
item_place ast = place_in ast.file_id (Item ast.value.0)

abbrev pub tree_place : AstId → UseTreeIdx → Option ToldPlace
tree_place ast tree = place_in ast.file_id (UseTree ast.value.0 tree)

-- the place of a row
abbrev pub place_by : CallPlace → ToldPlace
place_by row = record { file = row.file; place = Item row.item }

abbrev pub call_place : List CallPlace → MacroCallKind → Option ToldPlace
call_place calls call = option_map place_by (slice_get calls call.0)

-- a diagnostic is at the item that its id has, at a use tree of it, or at the macro call of a row
abbrev pub place_of : List CallPlace → DefDiagnosticKind → Option ToldPlace
place_of calls (wrong.UnresolvedModule ast paths) = item_place ast
place_of calls (wrong.UnresolvedExternCrate ast) = item_place ast
place_of calls (wrong.UnresolvedImport ast tree) = tree_place ast tree
place_of calls (wrong.UnconfiguredCode ast condition options) = item_place ast
place_of calls (wrong.UnresolvedMacroCall call path) = call_place calls call
place_of calls (wrong.UnimplementedBuiltinMacro ast) = item_place ast
place_of calls (wrong.InvalidDeriveTarget ast id) = item_place ast
place_of calls (wrong.MalformedDerive ast id) = item_place ast
place_of calls (wrong.MacroDefError ast message) = item_place ast
place_of calls (wrong.MacroError ast path error) = item_place ast
