-- What a walk along an import chain finds, in a bounded number of steps.
use Rattle.std.specs.Prelude.{◌≡◌, ℕ, List, zero, suc, Option, None, Some}
use Rattle.std.specs.Option.{option_and_then, option_or}
use Rattle.dm_base.specs.declared.imports.ImportId.{ImportId}
use Rattle.dm_base.specs.declared.item_ids.MacroId.{MacroId}
use Rattle.dm_base.specs.declared.item_ids.ModuleDefId.{ModuleDefId}
use Rattle.dm_base.specs.declared.item_ids.ModuleDefId.TheVariants as def
use Rattle.dm_base.specs.declared.per_ns.Namespace.{Namespace}
use Rattle.dm_scope.specs.Chains.{Pair, IsChain, at_home, leads, ends, last_from}
use Rattle.dm_scope.specs.Tables.{Tables, record_count}

-- what at most n pairs find
abbrev pub found_within : {X D : Type 0} → (X → Option X) → (X → Option D) → ℕ → X → Option D
found_within next end zero x = None
found_within next end (suc n) x = option_or (end x) (option_and_then (found_within next end n) (next x))

-- what one pair more than there are records finds
abbrev pub found_from : Namespace → Tables → Pair → Option ModuleDefId
found_from ns t p = found_within (leads ns t) (ends ns) (suc (record_count ns t)) p

-- Of an import i that a walk has passed when it has come to a pair: its pair at home leads there in
-- some steps.
abbrev pub WasPassed : Namespace → Tables → Pair → ImportId → Type 0
WasPassed ns t q i = (p : Pair) × (at_home t i ≡ Some p) × (ps : List Pair) × IsChain (leads ns t) p ps × (last_from p ps ≡ q)

-- the macro that a definition is
abbrev pub macro_of : ModuleDefId → Option MacroId
macro_of (def.MacroId m) = Some m
macro_of d = None
