-- The example world of two crates and two blocks, with module 3 as the prelude of its first crate, and two macros
-- there.
use Rattle.std.specs.Prelude.{Some, None, codes}
use Rattle.dm_base.specs.declared.item_ids.MacroId.{MacroId}
use Rattle.dm_base.specs.declared.macros.MacroLoc.TheVariants.{Proc}
use Rattle.dm_base.specs.declared.macros.ProcMacroKind.TheVariants.{Attr}
use Rattle.dm_base.specs.declared.visibility.Visibility.TheVariants.{Public}
use Rattle.dm_base.specs.Names.{Name}
use Rattle.dm_base.specs.PerNs.{macro_alone}
use Rattle.dm_scope.specs.Flags.{no_globs}
use Rattle.dm_maps.specs.declared.rules.Rules.TheVariants.{V2}
use Rattle.dm_maps.specs.Build.{with_rules}
use Rattle.dm_maps.specs.BuildItems.{with_macro}
use Rattle.dm_maps.specs.BuildMaps.{with_prelude}
use Rattle.dm_maps.specs.PushRes.{with_push}
use Rattle.dm_maps.specs.World.{World}
use Rattle.hir_def_map.specs.Written.{by_rules, procedural, crate_id, number}
use Rattle.hir_def_map.specs.WorldA.{world_a}

-- with a macro in module 3
abbrev and_macro : World → Name → MacroId → World
and_macro w n m = with_push w no_globs (number 3) n (macro_alone m Public None) None

abbrev with_prelude_module : World
with_prelude_module = with_macro (with_prelude world_a (crate_id 0) (Some (number 3, None))) (number 3) (Proc Attr)

-- `pm`, which is called as a function, and `mu`, an attribute: the macro_use prelude has a function of that name
abbrev pub world_p : World
world_p = and_macro (and_macro with_prelude_module (codes "pm") (by_rules 0)) (codes "mu") (procedural 1)

-- a world by version 2 of the rules
abbrev pub second : World → World
second w = with_rules w V2
