-- What the flat lists of a world hold: modules of its own, and enums with their variants.
use Rattle.std.specs.Prelude.{◌≡◌, ℕ, false, IsTrue, List, Some, length, nat_lt, slice_get}
use Rattle.std.specs.List.{AllByRecursion}
use Rattle.std.specs.Option.{option_map_or}
use Rattle.dm_base.specs.declared.ids.EnumId.{EnumId}
use Rattle.dm_base.specs.declared.ids.ModuleId.{ModuleId}
use Rattle.dm_base.specs.declared.item_ids.ItemKind.{ItemKind}
use Rattle.dm_base.specs.declared.item_ids.ItemKind.TheVariants as item
use Rattle.dm_base.specs.declared.macros.MacroLoc.{MacroLoc}
use Rattle.dm_maps.specs.Kinds.{same_kind}
use Rattle.dm_def_map.specs.Variants.{Enums}
use Rattle.dm_maps.specs.World.{World}

abbrev pub Items : Type 0
Items = List (ItemKind × ModuleId)

-- it is one of n modules
abbrev pub IsAmong : ℕ → ModuleId → Type 0
IsAmong n m = IsTrue (nat_lt m.0 n)

-- Of n modules, each use, each item and each macro lies in one.
pub record HaveModules (n : ℕ) (uses : List ModuleId) (items : Items) (macros : List (ModuleId × MacroLoc)) : Type 0 where
  pub of_uses : AllByRecursion (IsAmong n) uses
  pub of_items : AllByRecursion (λ i. IsAmong n i.1) items
  pub of_macros : AllByRecursion (λ e. IsAmong n e.0) macros

-- what stands under its number is an item of kind enum
abbrev pub IsEnum : Items → EnumId → Type 0
IsEnum items e = IsTrue (option_map_or (λ i. same_kind item.Enum i.0) (slice_get items e.0) false)

-- Each variant is one of an enum, and what an enum lists are variants of its own.
pub record HaveEnums (items : Items) (enums : Enums) (variants : List EnumId) : Type 0 where
  pub of_variants : AllByRecursion (IsEnum items) variants
  pub own : AllByRecursion (λ e. AllByRecursion (λ v. slice_get variants v.1.0.0 ≡ Some e.0) e.1) enums

-- both of the lists of a world with n modules
unfoldable pub AreListed : ℕ → List ModuleId → Items → List (ModuleId × MacroLoc) → Enums → List EnumId → Type 0
AreListed n uses items macros enums variants = HaveModules n uses items macros × HaveEnums items enums variants

abbrev pub IsListed : World → Type 0
IsListed w = AreListed (length w.places) w.uses w.items w.macros w.enums w.variants
