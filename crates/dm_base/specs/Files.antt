-- Files and macro expansions.
use Rattle.std.specs.Prelude.{Option, Some, None}
use Rattle.dm_base.specs.declared.ids.MacroCallId.{MacroCallId}
use Rattle.dm_base.specs.declared.source.HirFileId.{HirFileId}
use Rattle.dm_base.specs.declared.source.HirFileId.TheVariants.{File, Macro}

-- the macro call whose expansion it is
abbrev pub macro_file : HirFileId → Option MacroCallId
macro_file (File f) = None
macro_file (Macro c) = Some c
