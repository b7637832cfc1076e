-- What an unnamed trait names is the world's.
use Rattle.std.proofs.Common.{List, [], ◌∷◌, Option}
use Rattle.std.specs.Option.{option_map_or}
use Rattle.dm_base.specs.declared.ids.ModuleId.{ModuleId}
use Rattle.dm_base.specs.declared.ids.TraitId.{TraitId}
use Rattle.dm_base.specs.declared.imports.ImportId.{ImportId}
use Rattle.dm_base.specs.declared.visibility.Visibility.{Visibility}
use Rattle.dm_maps.specs.Holding.{vis_holds}
use Rattle.dm_maps.specs.declared.check.held.HeldId.{HeldId}
use Rattle.dm_maps.specs.declared.check.held.HeldId.TheVariants as held
use Rattle.dm_maps.specs.Known.{KnowsAll}
use Rattle.dm_maps.specs.GoesOn.{trait_import_holds}
use Rattle.dm_maps.specs.KnownLaws.{knows-append, knows-left, knows-right}
use Rattle.dm_maps.specs.World.{World}

-- an unnamed trait that is known, as another visibility lets it be seen
pub trait-known : (w : World) (m : ModuleId) (t : TraitId) (v u : Visibility) (i : Option ImportId) → KnowsAll w (trait_import_holds m t v i) → KnowsAll w (vis_holds u) → KnowsAll w (trait_import_holds m t u i)
trait-known w m t v u i k seen =
    let used : List HeldId = option_map_or (λ (j : ImportId). held.Use j.use_ ∷ []) i [] in
    (k.0, (k.1.0, knows-append w (vis_holds u) used seen (knows-right w (vis_holds v) used k.1.1)))

-- the visibility of one that is known
pub trait_vis-known : (w : World) (m : ModuleId) (t : TraitId) (v : Visibility) (i : Option ImportId) → KnowsAll w (trait_import_holds m t v i) → KnowsAll w (vis_holds v)
trait_vis-known w m t v i k = knows-left w (vis_holds v) (option_map_or (λ (j : ImportId). held.Use j.use_ ∷ []) i []) k.1.1
