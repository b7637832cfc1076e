-- A change under a name, after which each import that has it as a segment is due: the invariant stays.
use Rattle.std.proofs.Common.{◌≡◌, ◌∙◌, ◌||◌, ℕ, false, Option, None, Some, ap, refl, subst, sym, slice_get, map}
use Rattle.std.specs.Option.{option_map}
use Rattle.std.proofs.lemmas.Bool.{or_parts}
use Rattle.std.proofs.lemmas.Option.{slice_get-map}
use Rattle.dm_base.specs.Names.{Name}
use Rattle.dm_scope.specs.Flags.{Globs}
use Rattle.dm_maps.specs.Cut.{among}
use Rattle.dm_maps.specs.Known.{KnowsAll}
use Rattle.dm_maps.specs.World.{World}
use Rattle.dm_retry.specs.Known.{parts}
use Rattle.dm_retry.specs.Rounds.{Pending, State, awoken, would_write}
use Rattle.dm_retry.specs.Settled.{IsSettled}
use Rattle.dm_retry.proofs.TryLemmas.{would_write-marked}

module _ (s : State) (v : World) (h : Globs) (n : Name) (before : IsSettled s)
    (known : (q : Pending) → KnowsAll s.world (parts q) → KnowsAll v (parts q))
    (rest : (j : ℕ) (q : Pending) → slice_get s.pending j ≡ Some q → among q.path.segments n ≡ false → would_write s.world s.globs q ≡ false → would_write v h q ≡ false) where
  -- an import of the list of which those with the name are due
  stood : (j : ℕ) (r : Pending) → slice_get (map (awoken n) s.pending) j ≡ Some r → (q : Pending) × (slice_get s.pending j ≡ Some q) × (awoken n q ≡ r)
  stood j r is = at (slice_get s.pending j) refl (sym (slice_get-map (awoken n) s.pending j) ∙ is)
    where
      at : (o : Option Pending) → slice_get s.pending j ≡ o → option_map (awoken n) o ≡ Some r → (q : Pending) × (slice_get s.pending j ≡ Some q) × (awoken n q ≡ r)
      at None stands is = cc
      at (Some q) stands is = let same : awoken n q ≡ r = cc in (q, stands, same)

  pub woken : IsSettled (record { world = v; globs = h; pending = map (awoken n) s.pending })
  woken = record {
    known = λ j r e. let q = stood j r e in subst (λ (z : Pending). KnowsAll v (parts z)) q.2 (known q.0 (before.known j q.0 q.1));
    single = λ j k r z d e same. let q = stood j r d in let y = stood k z e in
        before.single j k q.0 y.0 q.1 y.1 (ap (λ (p : Pending). p.import) q.2 ∙ same ∙ ap (λ (p : Pending). p.import) (sym y.2));
    settled = λ j r e none. rests j r (stood j r e) none;
  }
    where
      rests : (j : ℕ) (r : Pending) → (q : Pending) × (slice_get s.pending j ≡ Some q) × (awoken n q ≡ r) → r.due ≡ false → would_write v h r ≡ false
      rests j r (q, at, same) none =
          let both = or_parts q.due (among q.path.segments n) (ap (λ (p : Pending). p.due) same ∙ none) in
          ap (would_write v h) (sym same) ∙ would_write-marked v h (q.due || among q.path.segments n) q ∙ rest j q at both.1 (before.settled j q at both.0)
