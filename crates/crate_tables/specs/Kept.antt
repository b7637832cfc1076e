-- What a builder keeps while crates are filled.
use Rattle.std.specs.Prelude.{IsTrue, List}
use Rattle.dm_maps.specs.declared.check.held.HeldId.{HeldId}
use Rattle.dm_base.specs.declared.ids.ModuleId.{ModuleId}
use Rattle.dm_maps.specs.Known.{knows, KnowsAll}
use Rattle.dm_maps.specs.PushRes.{StaysShown}
use Rattle.dm_maps.specs.World.{World}
use Rattle.dm_scope.specs.Flags.{Globs}

-- Each id that was known is known, and so is what holds ids; and each module shows what it showed. A builder that has grown
-- keeps that, and so does one whose modules have other textual macros.
pub record IsKept (w v : World) : Type 0 where
  pub known : (h : HeldId) → IsTrue (knows w h) → IsTrue (knows v h)
  pub all : (hs : List HeldId) → KnowsAll w hs → KnowsAll v hs
  pub shown : (g : Globs) (k : ModuleId) → StaysShown w g v g k
