-- A push between rounds keeps the invariant: a try of an import that is not due would still change nothing.
use Rattle.std.proofs.Common.{◌≡◌, ◌∙◌, ℕ, zero, suc, Bool, true, false, cond, List, [], ◌∷◌, Option, None, Some, ap, refl, subst, sym, slice_get, map}
use Rattle.std.specs.List.{list_any}
use Rattle.std.proofs.lemmas.Bool.{or_parts}
use Rattle.dm_base.specs.Names.{Name}
use Rattle.dm_base.specs.contracts.value_eq.ImportIdValueEq.TheImpl.Laws as import_value
use Rattle.dm_base.specs.declared.ids.ModuleId.{ModuleId}
use Rattle.dm_base.specs.declared.imports.ImportId.{ImportId}
use Rattle.dm_base.specs.declared.imports.ImportOrExternCrate.{ImportOrExternCrate}
use Rattle.dm_base.specs.declared.imports.ImportOrExternCrate.TheVariants as wide
use Rattle.dm_base.specs.declared.per_ns.PerNs.{PerNs}
use Rattle.dm_scope.specs.Shadowing.{is_same}
use Rattle.dm_scope.specs.Flags.{Globs}
use Rattle.dm_scope.specs.Push.{push_answer, types_reading}
use Rattle.dm_maps.specs.Known.{KnowsAll}
use Rattle.dm_maps.specs.World.{World, scope_of}
use Rattle.dm_retry.specs.Known.{comes_by, parts, same_leaf}
use Rattle.dm_retry.specs.Rounds.{Pending, State, awoken, by_import}
use Rattle.dm_retry.specs.Settled.{IsSettled}
use Rattle.dm_retry.proofs.AwakeLemmas.{woken}
use Rattle.dm_retry.proofs.TryLemmas.{IsPushed, others-rest}

-- imports that differ one way differ the other way
turned : (i j : ImportId) → same_leaf i j ≡ false → same_leaf j i ≡ false
turned i j differ = by (same_leaf j i) refl
  where
    by : (b : Bool) → same_leaf j i ≡ b → b ≡ false
    by true e = sym e ∙ (λ k. same_leaf (import_value.same-law j i e k) (sym (import_value.same-law j i e) k)) ∙ differ
    by false e = refl

-- an element of a list no element of which passes a test does not pass it
none-passes : {X : Type 0} (t : X → Bool) (xs : List X) (j : ℕ) (x : X) → list_any t xs ≡ false → slice_get xs j ≡ Some x → t x ≡ false
none-passes t [] j x none at = cc
none-passes t (y ∷ ys) zero x none at = let same : y ≡ x = cc in ap t (sym same) ∙ (or_parts (t y) (list_any t ys) none).0
none-passes t (y ∷ ys) (suc j) x none at = none-passes t ys j x ((or_parts (t y) (list_any t ys) none).1) at

differs : (ps : List Pending) (by : Option ImportOrExternCrate) → comes_by ps by ≡ false → (j : ℕ) (q : Pending) → slice_get ps j ≡ Some q → is_same types_reading (by_import q) by ≡ false
differs ps None apart j q at = refl
differs ps (Some (wide.Import i)) apart j q at = turned i q.import (none-passes (λ (p : Pending). same_leaf i p.import) ps j q apart at)
differs ps (Some (wide.Glob i)) apart j q at = refl
differs ps (Some (wide.ExternCrate k)) apart j q at = refl

module _ (s : State) (v : World) (h : Globs) (m : ModuleId) (n : Name) (x : PerNs) (by : Option ImportOrExternCrate) (before : IsSettled s) (push : IsPushed s.world v s.globs h m n x by)
    (known : (q : Pending) → KnowsAll s.world (parts q) → KnowsAll v (parts q)) (apart : comes_by s.pending by ≡ false) where
  idle : push_answer (scope_of s.world m) s.globs m n x by ≡ false → IsSettled (record { world = v; globs = h; pending = s.pending })
  idle none =
      let both = push.law.idle none in
      subst IsSettled (λ k. record { world = sym both.0 k; globs = sym both.1 k; pending = s.pending }) before

  pub push-settles : (b : Bool) → b ≡ push_answer (scope_of s.world m) s.globs m n x by → IsSettled (record { world = v; globs = h; pending = cond b (map (awoken n) s.pending) s.pending })
  push-settles true is = woken s v h n before known (λ j q at other none. others-rest s.world v s.globs h m n x by push q (differs s.pending by apart j q at) other none)
  push-settles false is = idle (sym is)
