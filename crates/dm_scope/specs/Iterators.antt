-- What the iterators of a scope yield.
use Rattle.std.specs.Prelude.{Bool, List, Option, None, Some, if◌then◌else◌}
use Rattle.std.specs.Borrow.{Bor}
use Rattle.dm_base.specs.declared.ids.ImplId.{ImplId}
use Rattle.dm_base.specs.declared.ids.ModuleId.{ModuleId}
use Rattle.dm_base.specs.declared.ids.TraitId.{TraitId}
use Rattle.dm_base.specs.declared.imports.ImportOrExternCrate.{ImportOrExternCrate}
use Rattle.dm_base.specs.declared.item_ids.MacroId.{MacroId}
use Rattle.dm_base.specs.declared.item_ids.ModuleDefId.{ModuleDefId}
use Rattle.dm_base.specs.declared.item_ids.ModuleDefId.TheVariants as def
use Rattle.dm_base.specs.declared.per_ns.Item.{Item}
use Rattle.dm_base.specs.declared.visibility.Visibility.{Visibility}
use Rattle.dm_base.specs.Names.{Name}

-- the module that a type is, with its visibility
abbrev pub seen_module : ModuleDefId → Visibility → Option (ModuleId × Visibility)
seen_module (def.ModuleId m) v = Some (m, v)
seen_module d v = None

abbrev pub bound_module : Item ModuleDefId ImportOrExternCrate → Option (ModuleId × Visibility)
bound_module x = seen_module x.def x.vis

-- the trait that a type is
abbrev pub trait_at : ModuleDefId → Option TraitId
trait_at (def.TraitId t) = Some t
trait_at d = None

abbrev pub trait_of : Item ModuleDefId ImportOrExternCrate → Option TraitId
trait_of x = trait_at x.def

-- an `impl` block of a trait, and one without
abbrev pub trait_impl : ImplId × Bool → Option ImplId
trait_impl e = if e.1 then Some e.0 else None

abbrev pub inherent_impl : ImplId × Bool → Option ImplId
inherent_impl e = if e.1 then None else Some e.0

abbrev pub any_impl : ImplId × Bool → Option ImplId
any_impl e = Some e.0

-- the legacy macros of a name, behind references
abbrev pub deref_legacy : Bor Name × Bor (List MacroId) → Name × List MacroId
deref_legacy p = (p.0.now, p.1.now)
