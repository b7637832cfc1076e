-- The most and the least permissive of a visibility twice are it, and with one of two again they are the same.
use native.Mathlib.Omega.{arith}
use Rattle.std.proofs.Common.{◌≡◌, refl}
use Rattle.dm_base.specs.declared.ids.ModuleId.{ModuleId}
use Rattle.dm_base.specs.declared.visibility.Visibility.{Visibility}
use Rattle.dm_base.specs.declared.visibility.Visibility.TheVariants.{Module, PubCrate, Public}
use Rattle.dm_base.specs.declared.visibility.VisibilityExplicitness.TheVariants.{Explicit, Implicit}
use Rattle.dm_maps.specs.World.{World}
use Rattle.dm_imports.specs.Rules.{least, most}

pub most-same : (w : World) (m : ModuleId) (v : Visibility) → most w m v v ≡ v
most-same w m v = grind arith

pub least-same : (w : World) (m : ModuleId) (v : Visibility) → least w m v v ≡ v
least-same w m v = grind arith

pub most-again : (w : World) (m : ModuleId) (a b : Visibility) → most w m (most w m a b) b ≡ most w m a b
most-again w m Public b = refl
most-again w m (PubCrate k) b = grind arith
most-again w m (Module k e) Public = refl
most-again w m (Module k e) (PubCrate l) = grind arith
most-again w m (Module k Explicit) (Module l e) = grind arith
most-again w m (Module k Implicit) (Module l e) = grind arith

pub least-again : (w : World) (m : ModuleId) (a b : Visibility) → least w m (least w m a b) b ≡ least w m a b
least-again w m Public b = grind arith
least-again w m (PubCrate k) b = grind arith
least-again w m (Module k e) Public = refl
least-again w m (Module k e) (PubCrate l) = grind arith
least-again w m (Module k Explicit) (Module l e) = grind arith
least-again w m (Module k Implicit) (Module l e) = grind arith
