-- Look-ups of a checked world give ids of the world: none dangles.
use Rattle.std.specs.Prelude.{◌≡◌, IsSome, IsTrue, Some, slice_get}
use Rattle.std.specs.Option.{ForSome, option_map}
use Rattle.dm_base.specs.declared.ids.ModuleId.{ModuleId}
use Rattle.dm_base.specs.declared.ids.BlockId.{BlockId}
use Rattle.dm_base.specs.declared.ids.Crate.{Crate}
use Rattle.dm_base.specs.declared.ids.EnumId.{EnumId}
use Rattle.dm_base.specs.declared.ids.EnumVariantId.{EnumVariantId}
use Rattle.dm_base.specs.declared.ids.MapId.{MapId}
use Rattle.dm_base.specs.declared.ids.UseId.{UseId}
use Rattle.dm_base.specs.declared.item_ids.ItemKind.TheVariants as item
use Rattle.dm_base.specs.declared.item_ids.MacroId.{MacroId}
use Rattle.dm_base.specs.declared.item_ids.ModuleDefId.{ModuleDefId}
use Rattle.dm_base.specs.Names.{Name, find_name}
use Rattle.dm_base.specs.Tree.{IsKnown}
use Rattle.dm_scope.specs.Scope.{bound_in, legacy_in}
use Rattle.dm_maps.specs.declared.check.held.HeldId.TheVariants as held
use Rattle.dm_def_map.specs.Maps.{Map, module_at}
use Rattle.dm_maps.specs.World.{World, place_of, scope_of, map_of, numbered_map}
use Rattle.dm_maps.specs.ItemHomes.{module_of_def, module_of_macro}
use Rattle.dm_maps.specs.Known.{knows, KnowsAll}
use Rattle.dm_maps.specs.Holding.{res_holds}
use Rattle.dm_maps.specs.Readings.{macro_uses_of, variants_of, block_root_of, root_of, prelude_of}
use Rattle.dm_maps.specs.First.{IsChecked}
use Rattle.dm_maps.specs.Family.{IsFamily}
use Rattle.dm_maps.specs.Lists.{IsListed}
use Rattle.dm_maps.specs.Trees.{tree_of, IsWorld}

-- What follows of the look-ups of a checked world: they give modules, macros, crates, enums and variants of the world,
-- each variant one of the enum that has it, and what is bound holds ids of the world.
pub record IsSound (w : World) : Type 0 where
  pub bound : (m : ModuleId) (n : Name) → KnowsAll w (res_holds (bound_in (scope_of w m) n))
  pub roots : (k : Crate) → ForSome (root_of w k) (IsKnown (tree_of w))
  pub block_roots : (b : BlockId) → ForSome (block_root_of w b) (IsKnown (tree_of w))
  pub preludes : (id : MapId) → ForSome (prelude_of w id) (IsKnown (tree_of w))
  pub macro_uses : (id : MapId) (n : Name) → ForSome (find_name n (macro_uses_of w id)) (λ e. IsTrue (knows w (held.Macro e.0)))
  pub legacies : (m : ModuleId) (n : Name) → ForSome (legacy_in (scope_of w m) n) (λ l. IsTrue (knows w (held.Macro l)))
  pub lies : (map : Map) (m : ModuleId) → numbered_map w map.id ≡ Some map → IsSome (module_at map.modules m) → map_of w m ≡ Some map
  pub placed : (m : ModuleId) → IsSome (map_of w m) → IsKnown (tree_of w) m
  pub variants : (e : EnumId) (n : Name) → ForSome (find_name n (variants_of w e)) (λ v. IsTrue (knows w (held.Variant v.0)))
  pub own_variants : (e : EnumId) (n : Name) → ForSome (find_name n (variants_of w e)) (λ v. slice_get w.variants v.0.0 ≡ Some e)
  pub use_modules : (u : UseId) → ForSome (slice_get w.uses u.0) (λ m. IsTrue (knows w (held.Module m)))
  pub item_modules : (d : ModuleDefId) → ForSome (module_of_def w d) (λ m. IsTrue (knows w (held.Module m)))
  pub macro_modules : (m : MacroId) → ForSome (module_of_macro w m) (λ k. IsTrue (knows w (held.Module k)))
  pub variant_enums : (v : EnumVariantId) → ForSome (slice_get w.variants v.0) (λ e. IsTrue (knows w (held.Item item.Enum e.0)))
  pub crates : (m : ModuleId) → ForSome (option_map (λ p. p.map.krate) (place_of w m)) (λ k. IsTrue (knows w (held.Crate k)))

-- A world that was checked.
pub record IsCheckedWorld (w : World) : Type 0 where
  pub lawful : IsWorld w
  pub listed : IsListed w
  pub family : IsFamily w
  pub checked : IsChecked w
  pub sound : IsSound w
