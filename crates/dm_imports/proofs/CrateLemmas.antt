-- Each module of a world lies in a crate.
use Rattle.std.proofs.Common.{◌≡◌, ◌<◌, ℕ, zero, suc, List, [], ◌∷◌, IsSome, arith, is_some, length, ltb-true, refl, true}
use Rattle.std.specs.Option.{option_map}
use Rattle.std.specs.Prelude.{slice_get}
use Rattle.dm_base.specs.declared.ids.ModuleId.{ModuleId}
use Rattle.dm_base.specs.Tree.{IsKnown}
use Rattle.dm_maps.specs.declared.place.Place.{Place}
use Rattle.dm_maps.specs.ItemHomes.{homes_of}
use Rattle.dm_maps.specs.Trees.{tree_of}
use Rattle.dm_maps.specs.World.{World}

map-there : {A B : Type 0} (f : A → B) (xs : List A) (i : ℕ) → i < length xs → is_some (option_map f (slice_get xs i)) ≡ true
map-there f [] i lt = absurd (omega arith)
map-there f (x ∷ xs) zero lt = refl
map-there f (x ∷ xs) (suc i) lt = map-there f xs i (omega arith)

pub krate-there : (w : World) (m : ModuleId) → IsKnown (tree_of w) m → IsSome ((homes_of w).krate m)
unfolding homes_of tree_of
krate-there w m k = map-there (λ (p : Place). p.map.krate) w.places m.0 (ltb-true m.0 (length w.places) k)
