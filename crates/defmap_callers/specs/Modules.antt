-- A mock world of scopes for tests: each use is in the module of its number.
use Rattle.std.specs.Prelude.{List, Option, None, Some, codes}
use Rattle.dm_base.specs.Names.{same_name}
use Rattle.dm_base.specs.Styles.{fn_like, derive}
use Rattle.dm_base.specs.declared.item_ids.MacroId.{MacroId}
use Rattle.dm_base.specs.declared.item_ids.MacroId.TheVariants.{Macro2Id, MacroRulesId, ProcMacroId}
use Rattle.dm_base.specs.declared.macros.MacroCallStyles.{MacroCallStyles}
use Rattle.dm_scope.specs.Scope.{Scope}
use Rattle.dm_scope.specs.Tables.{Tables}

-- `macro_rules!` macros are called as functions, procedural ones in a derive; there are no others
abbrev pub styles : MacroId → Option MacroCallStyles
styles (Macro2Id m) = None
styles (MacroRulesId m) = Some fn_like
styles (ProcMacroId m) = Some derive

-- the tables of a list of scopes, in which `type` is a raw name
abbrev pub tables_of : List Scope → Tables
tables_of scopes = record {
  container = λ u. Some (record { 0 = u.0 });
  scopes = scopes;
  styles = styles;
  prints_raw = λ n. same_name n (codes "type");
}
