-- All macro calls of a scope.
use Rattle.std.specs.Prelude.{◌++◌, List, map}
use Rattle.std.specs.List.{flat_map}
use Rattle.dm_base.specs.declared.ids.MacroCallId.{MacroCallId}
use Rattle.dm_scope.specs.MacroCalls.{calls_in}
use Rattle.dm_scope.specs.Scope.{Scope}

-- The macro calls of a scope: of function-like macros, of attribute macros, and those in the slots of its derive
-- attributes.
abbrev pub all_calls : Scope → List MacroCallId
all_calls s = map (λ e. e.1) s.macro_invocations ++ map (λ e. e.1) s.attr_macros ++ flat_map (λ e. calls_in e.1) s.derive_macros
