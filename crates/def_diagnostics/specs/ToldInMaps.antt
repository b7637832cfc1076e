-- What is told of a crate, as its def map has it.
use Rattle.std.specs.Prelude.{◌^◌, ◌+◌, ◌++◌, ℕ, List, [], ◌∷◌, Option, None, Some, length, map, nat_lt, option_map, string_bytes, if◌then◌else◌}
use Rattle.def_diagnostics.specs.ItemModules.{MappedCrate, module_of}
use Rattle.def_diagnostics.specs.declared.told_in_maps.CallPlace.{CallPlace}
use Rattle.def_diagnostics.specs.Texts.{as_text}
use Rattle.def_diagnostics.specs.declared.diagnostic.Diagnostic.{Diagnostic}
use Rattle.def_diagnostics.specs.declared.diagnostic.DiagnosticKind.{DiagnosticKind}
use Rattle.def_diagnostics.specs.declared.diagnostic.DiagnosticKind.TheVariants as kind
use Rattle.def_diagnostics.specs.declared.diagnostic.Place.{Place}
use Rattle.def_diagnostics.specs.declared.diagnostic.Place.TheVariants.{Item, UseTree}
use Rattle.dm_base.specs.Path.{Path}
use Rattle.dm_base.specs.declared.ids.CfgExpr.{CfgExpr}
use Rattle.dm_base.specs.declared.ids.CfgOptions.{CfgOptions}
use Rattle.dm_base.specs.declared.ids.Crate.{Crate}
use Rattle.dm_base.specs.declared.ids.FileId.{FileId}
use Rattle.dm_base.specs.declared.ids.MacroCallKind.{MacroCallKind}
use Rattle.dm_base.specs.declared.ids.ModuleId.{ModuleId}
use Rattle.dm_base.specs.declared.ids.UseTreeIdx.{UseTreeIdx}
use Rattle.dm_base.specs.declared.source.AstId.{AstId}
use Rattle.dm_base.specs.declared.edition.Edition.{Edition}
use Rattle.dm_base.specs.declared.source.HirFileId.TheVariants as hir
use Rattle.dm_scope.specs.declared.diagnostics.DefDiagnostic.{DefDiagnostic}
use Rattle.dm_scope.specs.declared.diagnostics.DefDiagnosticKind.{DefDiagnosticKind}
use Rattle.dm_scope.specs.declared.diagnostics.DefDiagnosticKind.TheVariants as wrong
use Rattle.item_tree.specs.Ids.{file_ast_id}

-- ---- What a diagnostic of a def map says: of the paths at which a file was looked for, the bytes count

pub data Said : Type 0 where
  Missing : AstId → List (List ℕ) → Said
  Plain : DefDiagnosticKind → Said

abbrev pub said : DefDiagnosticKind → Said
said (wrong.UnresolvedModule ast paths) = Missing ast (map string_bytes paths.items)
said k = Plain k

pub record Told : Type 0 where
  pub in_module : ModuleId
  pub kind : Said

abbrev pub told_by : DefDiagnostic → Told
told_by d = record { in_module = d.in_module; kind = said d.kind }

-- ---- Where it is

abbrev pub item_of : Place → ℕ
item_of (Item n) = n
item_of (UseTree n tree) = n

-- an item itself is its first use tree
abbrev pub tree_of : Place → UseTreeIdx
tree_of (Item n) = record { 0 = 0 }
tree_of (UseTree n tree) = tree

-- an item by its file, as an edition reads that, and its number there, which has 32 bits
abbrev pub ast_of : Edition → FileId → ℕ → Option AstId
ast_of e f n =
    option_map (λ id. record { file_id = hir.File (record { file = f; edition = e }); value = id }) (file_ast_id n)

-- a macro call by the number of its row in a table, which has 32 bits
abbrev pub call_of : ℕ → Option MacroCallKind
call_of n = if nat_lt n (2 ^ 32) then Some (record { 0 = n }) else None

-- the rows that a diagnostic adds to that table
abbrev pub calls_by : DiagnosticKind → FileId → ℕ → List CallPlace
calls_by (kind.UnresolvedMacroCall path) f n = record { file = f; item = n } ∷ []
calls_by _ f n = []

abbrev pub calls_of : Diagnostic → List CallPlace
calls_of x = calls_by x.kind x.file (item_of x.place)

-- ---- What is told

-- a condition goes by the item that it stands at, and options by their crate
abbrev pub condition_of : AstId → CfgExpr
condition_of ast = record { 0 = ast.value.0 }

abbrev pub options_of : Crate → CfgOptions
options_of k = record { 0 = k.0 }

abbrev pub call_said : Option MacroCallKind → Path → Option Said
call_said None path = None
call_said (Some call) path = Some (Plain (wrong.UnresolvedMacroCall call path))

-- the kind that a def map has for it. It has none for a file within itself, an ambiguous import, a visibility that leads
-- nowhere, and a second declaration
abbrev pub said_of : Crate → ℕ → AstId → Place → DiagnosticKind → Option Said
said_of k row ast place (kind.UnresolvedModule paths) = Some (Missing ast (map as_text paths))
said_of k row ast place kind.UnresolvedExternCrate = Some (Plain (wrong.UnresolvedExternCrate ast))
said_of k row ast place kind.UnresolvedImport = Some (Plain (wrong.UnresolvedImport ast (tree_of place)))
said_of k row ast place kind.UnconfiguredCode =
    Some (Plain (wrong.UnconfiguredCode ast (condition_of ast) (options_of k)))
said_of k row ast place (kind.UnresolvedMacroCall path) = call_said (call_of row) path
said_of k row ast place _ = None

abbrev pub told_as : ModuleId → Option Said → List Told
told_as m None = []
told_as m (Some s) = record { in_module = m; kind = s } ∷ []

-- what stands in no module, or past 32 bits, stays out
abbrev pub told_at : Crate → ℕ → Diagnostic → Option ModuleId → Option AstId → List Told
told_at k row x (Some m) (Some ast) = told_as m (said_of k row ast x.place x.kind)
told_at k row x _ _ = []

-- what a def map has of a diagnostic, where the next row of the table has this number
abbrev pub told : MappedCrate → ℕ → Diagnostic → List Told
told c row x =
    told_at c.krate row x (module_of c x.file (item_of x.place)) (ast_of c.edition x.file (item_of x.place))

-- and of some diagnostics, in order, behind these rows, the first of which has a number
abbrev pub told_behind : MappedCrate → ℕ → List CallPlace → List Diagnostic → List Told
told_behind c first calls [] = []
told_behind c first calls (x ∷ xs) =
    told c (first + length calls) x ++ told_behind c first (calls ++ calls_of x) xs

-- where the first row that they add has that number
abbrev pub told_from : MappedCrate → ℕ → List Diagnostic → List Told
told_from c first xs = told_behind c first [] xs
