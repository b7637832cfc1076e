-- Tables of slots: a slot is a name of a module, in one namespace.
use Rattle.std.specs.Prelude.{◌&&◌, Bool, true, false, List, [], Option, map}
use Rattle.std.specs.HashMap.{HashMap}
use Rattle.std.specs.Map.{lookup}
use Rattle.std.specs.Option.{option_and_then}
use Rattle.dm_base.specs.declared.ids.ModuleId.{ModuleId}
use Rattle.dm_base.specs.declared.per_ns.Namespace.{Namespace}
use Rattle.dm_base.specs.declared.per_ns.Namespace.TheVariants.{Types, Values, Macros}
use Rattle.dm_base.specs.Names.{Name, find_name, same_name}
use Rattle.dm_base.specs.Tree.{same_module}

-- what names of modules have
abbrev pub NameTable : Type 0 → Type 0
NameTable T = List (ModuleId × List (Name × T))

-- those of a table of tables
abbrev pub entries_of : {T S : Type 0} → List (ModuleId × HashMap Name T S) → NameTable T
entries_of es = map (λ e. (e.0, e.1.entries)) es

abbrev pub no_names : {T : Type 0} → NameTable T
no_names = []

abbrev pub name_at : {T : Type 0} → NameTable T → ModuleId → Name → Option T
name_at t m n = option_and_then (find_name n) (lookup (same_module m) t)

-- whether a name of one module is that of another
abbrev pub same_place : ModuleId → Name → ModuleId → Name → Bool
same_place m n k x = same_module m k && same_name n x

-- what slots have
pub record Slots (T : Type 0) : Type 0 where
  pub types : NameTable T
  pub values : NameTable T
  pub macros : NameTable T

abbrev pub no_slots : {T : Type 0} → Slots T
no_slots = record { types = no_names; values = no_names; macros = no_names }

abbrev pub slot_at : {T : Type 0} → Slots T → ModuleId → Name → Namespace → Option T
slot_at s m n Types = name_at s.types m n
slot_at s m n Values = name_at s.values m n
slot_at s m n Macros = name_at s.macros m n

abbrev pub same_namespace : Namespace → Namespace → Bool
same_namespace Types Types = true
same_namespace Values Values = true
same_namespace Macros Macros = true
same_namespace _ _ = false

abbrev pub same_slot : ModuleId → Name → Namespace → ModuleId → Name → Namespace → Bool
same_slot m n s k x t = same_namespace s t && same_place m n k x
