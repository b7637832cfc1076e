-- What a world knows.
use Rattle.std.proofs.Common.{◌≡◌, ◌<◌, ℕ, zero, suc, Bool, true, false, List, [], ◌∷◌, IsSome, IsTrue, refl, sym, arith, is_some, length, slice_get}
use Rattle.std.specs.Option.{option_map}
use Rattle.std.specs.Prelude.{◌↔◌, ⊤}
use Rattle.std.proofs.lemmas.Bool.{ltb-true}
use Rattle.dm_base.specs.Tree.{IsKnown}
use Rattle.dm_maps.specs.declared.check.held.HeldId.TheVariants as held
use Rattle.dm_base.specs.declared.ids.ModuleId.{ModuleId}
use Rattle.dm_maps.specs.ItemHomes.{homes_of}
use Rattle.dm_maps.specs.Known.{knows}
use Rattle.dm_maps.specs.Trees.{tree_of}
use Rattle.dm_maps.specs.World.{World}
use Rattle.dm_maps.specs.declared.place.Place.{Place}

-- as a test
pub knows_same : (a b : Bool) → (IsTrue a ↔ (IsTrue b × ⊤)) → a ≡ b
knows_same true true h = refl
knows_same true false h = sym (h.0 refl).0
knows_same false true h = h.1 (refl, tt)
knows_same false false h = refl

map_there : {A B : Type 0} (f : A → B) (xs : List A) (i : ℕ) → i < length xs → is_some (option_map f (slice_get xs i)) ≡ true
map_there f [] i lt = absurd (omega arith)
map_there f (x ∷ xs) zero lt = refl
map_there f (x ∷ xs) (suc i) lt = map_there f xs i (omega arith)

-- each module of the world has a crate
pub krate_there : (w : World) (m : ModuleId) → IsTrue (knows w (held.Module m)) → IsSome ((homes_of w).krate m)
unfolding homes_of
krate_there w m k = map_there (λ (p : Place). p.map.krate) w.places m.0 (ltb-true m.0 (length w.places) k)

-- and is one of its tree
pub known_in_tree : (w : World) (m : ModuleId) → IsTrue (knows w (held.Module m)) → IsKnown (tree_of w) m
unfolding tree_of
known_in_tree w m k = k
