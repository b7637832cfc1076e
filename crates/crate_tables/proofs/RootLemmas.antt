-- Roots stay when a crate more is added with its own.
use Rattle.std.proofs.Common.{◌≡◌, ◌∙◌, ◌+◌, Bool, true, false, ℕ, zero, suc, ◌++◌, [], ◌∷◌, List, length, Option, Some, None, ap, arith, sym, subst, refl}
use Rattle.std.specs.Prelude.{IsTrue, nat_lt, slice_get}
use Rattle.std.specs.Option.{option_map}
use Rattle.std.proofs.lemmas.Bool.{ltb-false, ltb-true}
use Rattle.crate_tables.specs.CrateRoots.{HasRoot, HasRoots, root_id}
use Rattle.dm_maps.specs.declared.check.held.HeldId.TheVariants as held
use Rattle.dm_def_map.specs.Maps.{Map}
use Rattle.dm_base.specs.declared.ids.Crate.{Crate}
use Rattle.dm_base.specs.declared.ids.ModuleId.{ModuleId}
use Rattle.dm_base.specs.declared.edition.Edition.{Edition}
use Rattle.dm_base.specs.declared.source.EditionedFileId.{EditionedFileId}
use Rattle.dm_maps.specs.Added.{IsAddedCrate}
use Rattle.dm_maps.specs.Build.{next_crate, next_module, with_crate}
use Rattle.dm_maps.specs.Readings.{root_of}
use Rattle.dm_maps.specs.World.{World}

get-front : {X : Type 0} (xs ys : List X) (i : ℕ) (x : X) → slice_get xs i ≡ Some x → slice_get (xs ++ ys) i ≡ Some x
get-front [] ys i x e = cc
get-front (z ∷ xs) ys zero x e = e
get-front (z ∷ xs) ys (suc i) x e = get-front xs ys i x e

root-stays : (xs ys : List Map) (i : ℕ) (r : ModuleId) → option_map (λ (m : Map). m.root) (slice_get xs i) ≡ Some r → option_map (λ (m : Map). m.root) (slice_get (xs ++ ys) i) ≡ Some r
root-stays xs ys i r e = by (slice_get xs i) refl e
  where
    by : (o : Option Map) → slice_get xs i ≡ o → option_map (λ (m : Map). m.root) o ≡ Some r → option_map (λ (m : Map). m.root) (slice_get (xs ++ ys) i) ≡ Some r
    by None at e = cc
    by (Some m) at e = ap (option_map (λ (m : Map). m.root)) (get-front xs ys i m at) ∙ e

pub roots-more : (w v : World) (e : Edition) (f : EditionedFileId) (n : ℕ) → v ≡ with_crate w e f → IsAddedCrate w v (next_crate w)
    → length w.crate_maps ≡ n → length w.places ≡ n → HasRoots w n → HasRoots v (n + 1)
roots-more w v e f n same added crates places roots k less = by (nat_lt k.0 n) refl
  where
    by : (b : Bool) → nat_lt k.0 n ≡ b → HasRoot v k
    by true below =
        let old = roots k (ltb-true k.0 n below) in
        record {
          krate = added.root.grown.known (held.Crate k) old.krate;
          root = added.root.grown.known (held.Module (root_id k)) old.root;
          is_root = ap (λ (u : World). root_of u k) same ∙ root-stays w.crate_maps _ k.0 (root_id k) old.is_root;
        }
    by false above =
        let at : k.0 ≡ n = omega (arith, less, ltb-false k.0 n above) in
        let krate : next_crate w ≡ k = λ i. record { 0 = (crates ∙ sym at) i } in
        let root : next_module w ≡ root_id k = λ i. record { 0 = (places ∙ sym at) i } in
        record {
          krate = subst (λ (c : Crate). IsTrue (nat_lt c.0 (length v.crate_maps))) krate added.known;
          root = subst (λ (m : ModuleId). IsTrue (nat_lt m.0 (length v.places))) root added.root.known;
          is_root = subst (λ (c : Crate). root_of v c ≡ Some (root_id k)) krate (added.is_root ∙ ap (λ m. Some m) root);
        }
