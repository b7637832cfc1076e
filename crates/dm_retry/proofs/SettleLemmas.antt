-- What a try leaves of unresolved imports: a try of one that is not due would still change nothing.
use Rattle.std.proofs.Common.{◌≡◌, ◌∙◌, ◌⊎◌, inl, inr, ℕ, Bool, true, false, List, [], Option, None, Some, ap, sym, refl, subst, slice_get, slice_set, map}
use Rattle.std.specs.Option.{option_map, option_map_or}
use Rattle.std.proofs.lemmas.Bool.{false≢true, true≢false, or_parts}
use Rattle.std.proofs.lemmas.Option.{slice_get-map}
use Rattle.dm_base.specs.contracts.value_eq.ImportIdValueEq.TheImpl.Laws as import_value
use Rattle.dm_scope.specs.Flags.{Globs}
use Rattle.dm_maps.specs.Cut.{among}
use Rattle.dm_maps.specs.Known.{KnowsAll}
use Rattle.dm_maps.specs.World.{World}
use Rattle.dm_retry.specs.Known.{parts, same_leaf}
use Rattle.dm_retry.specs.Rounds.{Pending, State, awoken, would_write, is_due, marked, marked_after, marked_at, name_at, refused_at, tried, try_at}
use Rattle.dm_retry.specs.Settled.{IsSettled}
use Rattle.dm_retry.proofs.TryLemmas.{would_write-marked, idle-table, idle-world}
use Rattle.dm_retry.proofs.WorldLemmas.{set-own}
use Rattle.dm_retry.specs.Retries.{RestsAt}
use Rattle.dm_retry.proofs.ListLemmas.{get-put}

-- An import r at place j after a try of the one at place i: it is one of before but for its mark, and where it is not due, it
-- was not due, or it is the tried one; and it has no segment of a name that was pushed.
record Comes (ps : List Pending) (i : ℕ) (written : Bool) (j : ℕ) (r : Pending) : Type 0 where
  one : Pending
  stood : slice_get ps j ≡ Some one
  same : r ≡ marked r.due one
  rests : r.due ≡ false → (j ≡ i) ⊎ (one.due ≡ false)
  apart : r.due ≡ false → written ≡ true → among one.path.segments (name_at ps i) ≡ false

module _ (ps : List Pending) (i : ℕ) (p : Pending) (at : slice_get ps i ≡ Some p) where
  rest-is : (d : Bool) → marked_at ps i d ≡ slice_set ps i (marked d p)
  rest-is d = ap (λ o. option_map_or (λ q. slice_set ps i (marked d q)) o ps) at

  -- with a mark for one import alone
  kept : (j : ℕ) (r : Pending) → slice_get (marked_at ps i false) j ≡ Some r → Comes ps i false j r
  kept j r is = by (get-put ps i j (marked false p) r (ap (λ l. slice_get l j) (sym (rest-is false)) ∙ is))
    where
      by : ((j ≡ i) × (r ≡ marked false p)) ⊎ (slice_get ps j ≡ Some r) → Comes ps i false j r
      by (inl h) = record {
        one = p;
        stood = ap (slice_get ps) h.0 ∙ at;
        same = h.1 ∙ ap (λ d. marked d p) (sym (ap (λ (q : Pending). q.due) h.1));
        rests = λ e. inl h.0;
        apart = λ e w. absurd (false≢true w);
      }
      by (inr h) = record { one = r; stood = h; same = refl; rests = λ e. inr e; apart = λ e w. absurd (false≢true w) }

  woken : (j : ℕ) (r : Pending) → slice_get (map (awoken (name_at ps i)) (marked_at ps i false)) j ≡ Some r → Comes ps i true j r
  woken j r is = by (slice_get (marked_at ps i false) j) refl (sym (slice_get-map (awoken (name_at ps i)) (marked_at ps i false) j) ∙ is)
    where
      by : (o : Option Pending) → slice_get (marked_at ps i false) j ≡ o → option_map (awoken (name_at ps i)) o ≡ Some r → Comes ps i true j r
      by None stood is = cc
      by (Some q) stood is =
          let same : awoken (name_at ps i) q ≡ r = cc in
          let before = kept j q stood in
          let both = λ (e : r.due ≡ false). or_parts q.due (among q.path.segments (name_at ps i)) (ap (λ (z : Pending). z.due) same ∙ e) in
          record {
            one = before.one;
            stood = before.stood;
            same = sym same ∙ ap (awoken (name_at ps i)) before.same ∙ ap (λ (d : Bool). marked d before.one) (ap (λ (z : Pending). z.due) (sym (ap (awoken (name_at ps i)) before.same) ∙ same));
            rests = λ e. before.rests ((both e).0);
            apart = λ e w. ap (λ (z : Pending). among z.path.segments (name_at ps i)) (sym before.same) ∙ (both e).1;
          }

  comes : (b : Bool) (j : ℕ) (r : Pending) → slice_get (marked_after ps i b) j ≡ Some r → Comes ps i b j r
  comes true j r is = woken j r is
  comes false j r is = kept j r is

-- A try keeps the invariant of unresolved imports, where what was known is known, the push of the tried import leaves
-- each other import that has no segment of its name, and itself, without effect, and a push that answers false changes
-- nothing.
pub settles : (s : State) (i : ℕ) (p : Pending) → IsSettled s → slice_get s.pending i ≡ Some p → (v : World) (h : Globs) (b : Bool) → b ≡ would_write s.world s.globs p
    → ((q : Pending) → KnowsAll s.world (parts q) → KnowsAll v (parts q))
    → ((q : Pending) → same_leaf q.import p.import ≡ false → among q.path.segments p.name ≡ false → would_write s.world s.globs q ≡ false → would_write v h q ≡ false)
    → (among p.path.segments p.name ≡ false → would_write v h p ≡ false)
    → (b ≡ false → (q : Pending) → would_write s.world s.globs q ≡ false → would_write v h q ≡ false)
    → IsSettled (record { world = v; globs = h; pending = marked_after s.pending i b })
settles s i p before at v h b is known others own idle = record {
  known = λ j r e. let c = comes s.pending i p at b j r e in subst (λ (q : Pending). KnowsAll v (parts q)) (sym c.same) (known c.one (before.known j c.one c.stood));
  single = λ j k q r d e same. let c = comes s.pending i p at b j q d in let f = comes s.pending i p at b k r e in
      before.single j k c.one f.one c.stood f.stood (ap (λ (z : Pending). z.import) (sym c.same) ∙ same ∙ ap (λ (z : Pending). z.import) f.same);
  settled = λ j r e none. let c = comes s.pending i p at b j r e in
      ap (would_write v h) c.same ∙ would_write-marked v h r.due c.one ∙ rests b refl j c.one c.stood (c.rests none) (λ w. ap (among c.one.path.segments) (sym name) ∙ c.apart none w);
}
  where
    name : name_at s.pending i ≡ p.name
    name = ap (λ o. option_map_or (λ (q : Pending). q.name) o []) at

    -- the tried import itself
    itself : (c : Bool) → b ≡ c → (q : Pending) → q ≡ p → (c ≡ true → among q.path.segments p.name ≡ false) → would_write v h q ≡ false
    itself true w q same apart = ap (would_write v h) same ∙ own (ap (λ (z : Pending). among z.path.segments p.name) (sym same) ∙ apart refl)
    itself false w q same apart = idle w q (ap (would_write s.world s.globs) same ∙ sym is ∙ w)

    one-of : (j : ℕ) (q : Pending) → slice_get s.pending j ≡ Some q → j ≡ i → q ≡ p
    one-of j q stood same = let e : Some q ≡ Some p = sym stood ∙ ap (slice_get s.pending) same ∙ at in cc

    rests : (c : Bool) → b ≡ c → (j : ℕ) (q : Pending) → slice_get s.pending j ≡ Some q → (j ≡ i) ⊎ (q.due ≡ false) → (c ≡ true → among q.path.segments p.name ≡ false) → would_write v h q ≡ false
    rests c w j q stood (inl same) apart = itself c w q (one-of j q stood same) apart
    rests true w j q stood (inr none) apart = by (same_leaf q.import p.import) refl
      where
        by : (d : Bool) → same_leaf q.import p.import ≡ d → would_write v h q ≡ false
        by true e = itself true w q (one-of j q stood (before.single j i q p stood at (import_value.same-law q.import p.import e))) apart
        by false e = others q e (apart refl) (before.settled j q stood none)
    rests false w j q stood (inr none) apart = idle w q (before.settled j q stood none)

-- An import that is made due leaves the others as they are.
pub refuses : (s : State) (i : ℕ) (p : Pending) → IsSettled s → slice_get s.pending i ≡ Some p → IsSettled (refused_at s i)
refuses s i p before at = subst (λ (l : List Pending). IsSettled (record s { pending = l })) (sym (rest-is s.pending i p at true)) (record {
  known = λ j r e. of j r e (λ (q : Pending). KnowsAll s.world (parts q)) (before.known i p at) (before.known j r);
  single = λ j k q r d e same. let one = stood j q d in let other = stood k r e in before.single j k one.0 other.0 one.1 other.1 (sym one.2 ∙ same ∙ other.2);
  settled = λ j r e none. by j r none (get-put s.pending i j (marked true p) r e);
})
  where
    of : (j : ℕ) (r : Pending) → slice_get (slice_set s.pending i (marked true p)) j ≡ Some r → (P : Pending → Type 0) → P (marked true p) → (slice_get s.pending j ≡ Some r → P r) → P r
    of j r e P put old = elim (get-put s.pending i j (marked true p) r e) [ inl h ↦ subst P (sym h.1) put | inr h ↦ old h ]

    stood : (j : ℕ) (r : Pending) → slice_get (slice_set s.pending i (marked true p)) j ≡ Some r → (q : Pending) × (slice_get s.pending j ≡ Some q) × (r.import ≡ q.import)
    stood j r e = elim (get-put s.pending i j (marked true p) r e) [ inl h ↦ (p, ap (slice_get s.pending) h.0 ∙ at, ap (λ (z : Pending). z.import) h.1) | inr h ↦ (r, h, refl) ]

    by : (j : ℕ) (r : Pending) → r.due ≡ false → ((j ≡ i) × (r ≡ marked true p)) ⊎ (slice_get s.pending j ≡ Some r) → would_write s.world s.globs r ≡ false
    by j r none (inl h) = absurd (true≢false (ap (λ (z : Pending). z.due) (sym h.1) ∙ none))
    by j r none (inr h) = before.settled j r h none

-- ---- A try of an import that is not due

module _ (s : State) (settled : IsSettled s) (i : ℕ) where
  rest-at : (o : Option Pending) → slice_get s.pending i ≡ o → option_map_or (λ (p : Pending). p.due) o false ≡ false → option_map_or (would_write s.world s.globs) o false ≡ false
  rest-at None at none = refl
  rest-at (Some p) at none = settled.settled i p at none

  try-rest : is_due s i ≡ false → try_at s i ≡ s
  try-rest none = by (slice_get s.pending i) refl none
    where
      by : (o : Option Pending) → slice_get s.pending i ≡ o → option_map_or (λ (p : Pending). p.due) o false ≡ false → option_map_or (tried s i) o s ≡ s
      by None at none = refl
      by (Some p) at none =
          let idle = settled.settled i p at none in
          let marks : marked_after s.pending i (would_write s.world s.globs p) ≡ s.pending =
          ap (marked_after s.pending i) idle ∙ rest-is s.pending i p at false ∙ ap (λ (d : Bool). slice_set s.pending i (marked d p)) (sym none) ∙ set-own s.pending i p at in
          λ k. record { world = idle-world s.world s.globs p idle k; globs = idle-table s.world s.globs p idle k; pending = marks k }

  pub rests : is_due s i ≡ false → RestsAt s i
  rests none = record { writes = rest-at (slice_get s.pending i) refl none; leaves = try-rest none }

-- what is said not to be due is none that is due
pub undue : (o : Option Pending) → option_map (λ (p : Pending). p.due) o ≡ Some false → option_map_or (λ (p : Pending). p.due) o false ≡ false
undue None none = refl
undue (Some p) none = cc
