-- What import chains and dumps read beside a scope: the scopes of all modules, and tables by id.
use Rattle.std.specs.Prelude.{ℕ, ◌^◌, ◌-◌, Bool, List, Option, length, min}
use Rattle.std.specs.List.{flat_map}
use Rattle.dm_base.specs.declared.ids.ModuleId.{ModuleId}
use Rattle.dm_base.specs.declared.ids.UseId.{UseId}
use Rattle.dm_base.specs.declared.imports.ImportOrDef.{ImportOrDef}
use Rattle.dm_base.specs.declared.imports.ImportOrExternCrate.{ImportOrExternCrate}
use Rattle.dm_base.specs.declared.item_ids.MacroId.{MacroId}
use Rattle.dm_base.specs.declared.macros.MacroCallStyles.{MacroCallStyles}
use Rattle.dm_base.specs.declared.per_ns.Namespace.{Namespace}
use Rattle.dm_base.specs.Names.{Name}
use Rattle.dm_scope.specs.Records.{records_in}
use Rattle.dm_scope.specs.Scope.{Scope}

-- the tables of a world of scopes
pub record Tables : Type 0 where
  -- the module that a use stands in
  pub container : UseId → Option ModuleId
  -- the scopes of all modules, by number
  pub scopes : List Scope
  -- the ways in which a macro may be called
  pub styles : MacroId → Option MacroCallStyles
  -- whether a name is written with `r#` before it
  pub prints_raw : Name → Bool

-- the records of a namespace in all scopes
abbrev pub all_records : Namespace → Tables → List (ImportOrExternCrate × ImportOrDef)
all_records ns t = flat_map (records_in ns) t.scopes

-- how many records are counted
abbrev pub record_count : Namespace → Tables → ℕ
record_count ns t = min (length (all_records ns t)) (2 ^ 64 - 1)

-- no way to call a macro
abbrev pub no_style : MacroCallStyles
no_style = record { 0 = 0 }
