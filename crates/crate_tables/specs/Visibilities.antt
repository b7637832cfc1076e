-- Whom a module or an item of a crate is shown to, by the modules of a builder.
use Rattle.std.specs.Prelude.{◌≡◌, ℕ, Bool, IsTrue, List, Option, None, Some, slice_get, unwrap_or, if◌then◌else◌}
use Rattle.crate_items.specs.declared.modules.module_visibility.DeclaredVisibility.{DeclaredVisibility}
use Rattle.crate_items.specs.declared.modules.module_visibility.DeclaredVisibility.TheVariants as shown
use Rattle.dm_base.specs.declared.visibility.Visibility.{Visibility}
use Rattle.dm_base.specs.declared.visibility.Visibility.TheVariants.{Module, PubCrate, Public}
use Rattle.dm_base.specs.declared.visibility.VisibilityExplicitness.{VisibilityExplicitness}
use Rattle.dm_base.specs.declared.visibility.VisibilityExplicitness.TheVariants.{Explicit, Implicit}
use Rattle.dm_maps.specs.declared.check.held.HeldId.TheVariants as held
use Rattle.dm_base.specs.declared.ids.Crate.{Crate}
use Rattle.dm_base.specs.declared.ids.ModuleId.{ModuleId}
use Rattle.dm_maps.specs.Known.{knows}
use Rattle.dm_maps.specs.World.{World}
use Rattle.item_tree.specs.declared.items.visibility.RawVisibility.{RawVisibility}
use Rattle.item_tree.specs.declared.items.visibility.RawVisibility.TheVariants as raw

-- the ids of the modules of a crate's list, by their numbers there: none of a module that was left out
abbrev pub Ids : Type 0
Ids = List (Option ModuleId)

abbrev pub if_added : Option (Option ModuleId) → Option ModuleId
if_added None = None
if_added (Some id) = id

-- the id of the module of a number
abbrev pub id_at : Ids → ℕ → Option ModuleId
id_at ids n = if_added (slice_get ids n)

-- each is a module of the builder
abbrev pub AreIdsOf : World → Ids → Type 0
AreIdsOf w ids = (n : ℕ) (m : ModuleId) → id_at ids n ≡ Some m → IsTrue (knows w (held.Module m))

-- a visibility is explicit where something is written
abbrev pub explicitness : RawVisibility → VisibilityExplicitness
explicitness raw.Inherited = Implicit
explicitness _ = Explicit

-- `pub(crate)` shows to the crate, all else to a module and those in it
abbrev pub within : Crate → ModuleId → RawVisibility → Visibility
within k m raw.PubCrate = PubCrate k
within k m written = Module m (explicitness written)

-- What is public is shown to all; in the root of a crate of procedural macros, which is closed, to the crate alone.
abbrev pub public_in : Bool → Crate → Visibility
public_in is_closed k = if is_closed then PubCrate k else Public

-- The visibility of what is written so in a module: all see what leads nowhere.
abbrev pub visibility_of : Bool → Crate → Ids → ModuleId → RawVisibility → Option DeclaredVisibility → Visibility
visibility_of is_closed k ids m written None = public_in is_closed k
visibility_of is_closed k ids m written (Some shown.Public) = public_in is_closed k
visibility_of is_closed k ids m written (Some (shown.Within n)) = within k (unwrap_or (id_at ids n) m) written
