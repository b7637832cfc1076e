-- Follows an import through its chain of re-exports, in a world.
use Rattle.std.specs.Prelude.{◌≡◌, ◌⊎◌, ◌&&◌, Bool, true, false, Result, Ok, Err}
use Rattle.dm_base.specs.declared.ids.ModuleId.{ModuleId}
use Rattle.dm_base.specs.declared.imports.ImportId.{ImportId}
use Rattle.dm_base.specs.declared.per_ns.Namespace.TheVariants.{Types, Values, Macros}
use Rattle.dm_base.specs.declared.per_ns.PerNs.{PerNs}
use Rattle.dm_base.specs.Definitions.{widened_macro}
use Rattle.dm_maps.specs.declared.check.held.HeldId.TheVariants as held
use Rattle.dm_maps.specs.Known.{knows}
use Rattle.dm_maps.specs.ScopeTables.{scope_tables}
use Rattle.dm_maps.specs.World.{World, scope_of}
use Rattle.dm_scope.specs.Chains.{IsFound}
use Rattle.defmap_script.specs.declared.engine.Reply.{Reply}
use Rattle.defmap_script.specs.declared.engine.Reply.TheVariants.{Ended}
use Rattle.defmap_script.specs.declared.fault.Fault.{Fault}
use Rattle.defmap_script.specs.declared.fault.Fault.TheVariants.{Unknown}

-- what an import resolves to in each namespace, from the scope of module m
pub record IsEnd (w : World) (m : ModuleId) (i : ImportId) (x : PerNs) : Type 0 where
  pub types : IsFound Types (scope_tables w) (scope_of w m, i) (λ d. d) x.types
  pub values : IsFound Values (scope_tables w) (scope_of w m, i) (λ d. d) x.values
  pub macros : IsFound Macros (scope_tables w) (scope_of w m, i) widened_macro x.macros

-- whether the module and the use are the world's
abbrev pub knows_import : World → ModuleId → ImportId → Bool
knows_import w m i = knows w (held.Module m) && knows w (held.Use i.use_)

-- a question that names what the world has not is refused
abbrev pub IsFollowed : World → ModuleId → ImportId → Result Reply Fault → Type 0
IsFollowed w m i r =
    ((knows_import w m i ≡ true) × (x : PerNs) × IsEnd w m i x × (r ≡ Ok (Ended x)))
    ⊎ ((knows_import w m i ≡ false) × (r ≡ Err Unknown))
