-- When numbers run out: what a builder adds has a number of 32 bits.
use Rattle.std.specs.Prelude.{◌||◌, ℕ, Bool, true, false, List, length, nat_lt}
use Rattle.std.specs.List.{list_any}
use Rattle.std.specs.Option.{option_map_or}
use Rattle.crate_items.specs.DeclaredModules.{Module}
use Rattle.crate_items.specs.Modules.{Listing}
use Rattle.crate_items.specs.declared.modules.declared_module.Declaration.{Declaration}
use Rattle.dm_maps.specs.World.{World}
use Rattle.dm_maps.specs.declared.build_fault.BuildFault.{BuildFault}
use Rattle.dm_maps.specs.declared.build_fault.BuildFault.TheVariants as fault

-- more than 4,294,967,295
abbrev pub is_past : ℕ → Bool
is_past n = nat_lt 4294967295 n

-- a world has so many modules, items, variants of enums, uses or macros
abbrev pub has_too_many : World → Bool
has_too_many w =
    is_past (length w.places) || (is_past (length w.items) || (is_past (length w.variants) || (is_past (length w.uses) || is_past (length w.macros))))

-- a module of the list is declared by an item behind so many others of its file that it has no number of 32 bits
abbrev pub is_far : Module → Bool
is_far m = option_map_or (λ (d : Declaration). is_past d.item) m.declaration false

abbrev pub has_far : Listing → Bool
has_far l = list_any is_far l.modules

-- why something is not added: memory ran out, or numbers did, which is so only where there are too many
abbrev pub is_shortage : Bool → BuildFault → Bool
is_shortage many fault.OutOfMemory = true
is_shortage many fault.OutOfNumbers = many
is_shortage many _ = false

-- the same where it is so for a reason
abbrev pub IsShortage : Type 0 → BuildFault → Type 0
IsShortage why fault.OutOfMemory = Unit {0}
IsShortage why fault.OutOfNumbers = why
IsShortage why _ = ⊥
