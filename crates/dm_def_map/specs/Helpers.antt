-- Derive helpers: the helper attributes of derives, by the items that the derives stand on.
use Rattle.std.specs.Prelude.{List}
use Rattle.either.specs.declared.Either.{Either}
use Rattle.dm_base.specs.declared.ids.BuiltinDeriveImplId.{BuiltinDeriveImplId}
use Rattle.dm_base.specs.declared.ids.MacroCallId.{MacroCallId}
use Rattle.dm_base.specs.declared.item_ids.MacroId.{MacroId}
use Rattle.dm_base.specs.declared.source.AstId.{AstId}
use Rattle.dm_base.specs.Names.{Name}

-- a helper attribute: its name, the derive's macro, and the macro call, or the `impl` that a builtin derive generates
abbrev pub Helper : Type 0
Helper = Name × MacroId × Either MacroCallId BuiltinDeriveImplId

-- those of each item, in order
abbrev pub Helpers : Type 0
Helpers = List (AstId × List Helper)
