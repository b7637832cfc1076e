-- Names in order: they are put so, and there is one way.
use Rattle.std.proofs.Common.{◌≡◌, ◌↔◌, List, [], ◌∷◌, refl, ap, sym, subst, ◌∙◌, map}
use Rattle.std.specs.Cmp.Lexicographic.{slice_cmp, nat_list_cmp_total}
use Rattle.std.specs.FinMap.{nat_cmp-IsAntisymmetric, slice_cmp-IsAntisymmetric}
use Rattle.std.specs.List.{Contains, AllByRecursion}
use Rattle.std.specs.List.Sorted.{IsStrictlySortedBy}
use Rattle.std.specs.Ordering.{nat_cmp, ordering_reverse}
use Rattle.std.specs.declared.cmp.Ordering.{Ordering}
use Rattle.std.specs.declared.cmp.Ordering.TheVariants.{Less, Equal, Greater}
use Rattle.dm_maps.proofs.Ids.{Name}
use Rattle.dm_scope.specs.Dumps.{IsDump}
use Rattle.dm_scope.specs.OrderLaws.{AreInOrder-one, in_either, in_front, in_back}
use Rattle.dm_scope.specs.Scope.{Scope}
use Rattle.dm_scope.specs.Sorted.{AreInOrder, names_of}
use Rattle.dm_scope.specs.Tables.{Tables}
use Rattle.dm_maps.specs.MapDumps.{placed, in_order, scope_text}

abbrev cmp : Name → Name → Ordering
cmp = slice_cmp nat_cmp

-- ---- A name in its place

turned : (n m : Name) → cmp n m ≡ Greater → cmp m n ≡ Less
turned n m h = nat_list_cmp_total.antisymm m n ∙ ap ordering_reverse h

all-below : (k n : Name) (ms : List Name) → cmp k n ≡ Less → AllByRecursion (λ y. cmp n y ≡ Less) ms → AllByRecursion (λ y. cmp k y ≡ Less) ms
all-below k n [] less h = tt
all-below k n (m ∷ ms) less h = (nat_list_cmp_total.trans k n m less h.0, all-below k n ms less h.1)

placed-below : (k n : Name) (ms : List Name) → cmp k n ≡ Less → AllByRecursion (λ y. cmp k y ≡ Less) ms → AllByRecursion (λ y. cmp k y ≡ Less) (placed n ms)
placed-below k n [] less h = (less, tt)
placed-below k n (m ∷ ms) less h = by (cmp n m) (placed-below k n ms less h.1)
  where
    by : (o : Ordering) → AllByRecursion (λ y. cmp k y ≡ Less) (placed n ms) → AllByRecursion (λ y. cmp k y ≡ Less) (elim o as (λ _. List Name) [ Less ↦ n ∷ m ∷ ms | Equal ↦ m ∷ ms | Greater ↦ m ∷ placed n ms ])
    by Less rest = (less, h)
    by Equal rest = h
    by Greater rest = (h.0, rest)

placed-sorted : (n : Name) (ms : List Name) → IsStrictlySortedBy cmp ms → IsStrictlySortedBy cmp (placed n ms)
unfolding IsStrictlySortedBy
placed-sorted n [] h = (tt, tt)
placed-sorted n (m ∷ ms) h = by (cmp n m) refl (placed-sorted n ms h.1)
  where
    by : (o : Ordering) → cmp n m ≡ o → IsStrictlySortedBy cmp (placed n ms) → IsStrictlySortedBy cmp (elim o as (λ _. List Name) [ Less ↦ n ∷ m ∷ ms | Equal ↦ m ∷ ms | Greater ↦ m ∷ placed n ms ])
    by Less e rest = ((e, all-below n m ms e h.0), h)
    by Equal e rest = h
    by Greater e rest = (placed-below m n ms (turned n m e) h.0, rest)

placed-has : (n : Name) (ms : List Name) (x : Name) → Contains (placed n ms) x → Contains (n ∷ ms) x
placed-has n [] x h = h
placed-has n (m ∷ ms) x h = by (cmp n m) h (placed-has n ms x)
  where
    by : (o : Ordering) → Contains (elim o as (λ _. List Name) [ Less ↦ n ∷ m ∷ ms | Equal ↦ m ∷ ms | Greater ↦ m ∷ placed n ms ]) x → (Contains (placed n ms) x → Contains (n ∷ ms) x) → Contains (n ∷ m ∷ ms) x
    by Less g rest = g
    by Equal g rest = in_back n (m ∷ ms) x g
    by Greater g rest =
        in_either (Contains (n ∷ m ∷ ms) x) m (placed n ms) x (λ e. in_back n (m ∷ ms) x (subst (Contains (m ∷ ms)) e (in_front m ms)))
        (λ k. in_either (Contains (n ∷ m ∷ ms) x) n ms x (λ e. subst (Contains (n ∷ m ∷ ms)) e (in_front n (m ∷ ms))) (λ b. in_back n (m ∷ ms) x (in_back m ms x b)) (rest k)) g

has-placed : (n : Name) (ms : List Name) (x : Name) → Contains (n ∷ ms) x → Contains (placed n ms) x
has-placed n [] x h = h
has-placed n (m ∷ ms) x h = by (cmp n m) refl (has-placed n ms x)
  where
    by : (o : Ordering) → cmp n m ≡ o → (Contains (n ∷ ms) x → Contains (placed n ms) x) → Contains (elim o as (λ _. List Name) [ Less ↦ n ∷ m ∷ ms | Equal ↦ m ∷ ms | Greater ↦ m ∷ placed n ms ]) x
    by Less e rest = h
    by Equal e rest =
        let same : n ≡ m = slice_cmp-IsAntisymmetric nat_cmp-IsAntisymmetric n m e in
        in_either (Contains (m ∷ ms) x) n (m ∷ ms) x (λ is. subst (Contains (m ∷ ms)) (sym same ∙ is) (in_front m ms)) (λ k. k) h
    by Greater e rest =
        in_either (Contains (m ∷ placed n ms) x) n (m ∷ ms) x (λ is. in_back m (placed n ms) x (rest (subst (Contains (n ∷ ms)) is (in_front n ms))))
        (λ k. in_either (Contains (m ∷ placed n ms) x) m ms x (λ is. subst (Contains (m ∷ placed n ms)) is (in_front m (placed n ms))) (λ b. in_back m (placed n ms) x (rest (in_back n ms x b))) k) h

-- ---- Names in order

in_order-sorted : (ns : List Name) → IsStrictlySortedBy cmp (in_order ns)
unfolding IsStrictlySortedBy
in_order-sorted [] = tt
in_order-sorted (n ∷ ns) = placed-sorted n (in_order ns) (in_order-sorted ns)

behind : (n : Name) (ns ms : List Name) (x : Name) → (Contains ns x → Contains ms x) → Contains (n ∷ ns) x → Contains (n ∷ ms) x
behind n ns ms x f h = in_either (Contains (n ∷ ms) x) n ns x (λ e. subst (Contains (n ∷ ms)) e (in_front n ms)) (λ k. in_back n ms x (f k)) h

in_order-same : (ns : List Name) (x : Name) → Contains (in_order ns) x ↔ Contains ns x
in_order-same [] x = (λ h. h, λ h. h)
in_order-same (n ∷ ns) x =
    let rest = in_order-same ns x in (
      λ h. behind n (in_order ns) ns x rest.0 (placed-has n (in_order ns) x h),
      λ h. has-placed n (in_order ns) x (behind n ns (in_order ns) x rest.1 h),
    )

pub in_order-AreInOrder : (ns : List Name) → AreInOrder (in_order ns) ns
in_order-AreInOrder ns = record { sorted = in_order-sorted ns; same = in_order-same ns }

-- the lines of a scope, its names in order, are its dump
pub IsDump-scope_text : (t : Tables) (s : Scope) → IsDump t s (scope_text t s)
IsDump-scope_text t s = record {
  names = in_order (names_of s);
  legacy = in_order (map (λ e. e.0) s.legacy_macros);
  names_in_order = in_order-AreInOrder (names_of s);
  legacy_in_order = in_order-AreInOrder (map (λ e. e.0) s.legacy_macros);
  is = refl;
}

-- there is no other way to put them in order
pub AreInOrder-is : (ns all : List Name) → AreInOrder ns all → ns ≡ in_order all
AreInOrder-is ns all a = AreInOrder-one ns (in_order all) all a (in_order-AreInOrder all)
