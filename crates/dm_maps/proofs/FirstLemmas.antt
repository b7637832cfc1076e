-- The first fault of holders in a row, and a list without one is known.
use Rattle.std.proofs.Common.{◌≡◌, Bool, true, false, List, [], ◌∷◌, ◌++◌, refl, sym, subst, Option, None, Some, zero, suc, ℕ, slice_get, take, drop, get_or, length, ◌+◌, ◌<◌, add-one, ◌∙◌, true≢false, is_some, not, IsTrue, IsNone, ◌↔◌}
use Rattle.std.specs.List.{AllByRecursion}
use Rattle.std.specs.Option.{option_map}
use Rattle.std.proofs.Math.Seq.{drop-cons}
use Rattle.std.proofs.lemmas.List.Elements.{All-contains, All-from_recursion}
use Rattle.dm_maps.specs.declared.check.fault.WorldFault.{WorldFault}
use Rattle.dm_maps.specs.declared.check.held.HeldFault.{HeldFault}
use Rattle.dm_maps.specs.declared.check.held.HeldId.{HeldId}
use Rattle.dm_maps.specs.Held.{IsLeast, IsLeastFault}
use Rattle.dm_maps.specs.World.{World}
use Rattle.dm_maps.specs.Known.{knows, KnowsAll}
use Rattle.dm_maps.specs.First.{Held, fault_of, IsAnswer, IsFirstFault}
use Rattle.dm_maps.proofs.AllLemmas.{all-get}

abbrev pub AllKnown : World → Held → Type 0
AllKnown w h = KnowsAll w h.1

-- of one holder
pub first-one : (w : World) (h : Held) (least : Option HeldFault) (r : Option WorldFault) → IsLeastFault (knows w) h.1 least → r ≡ option_map (fault_of h.0) least → IsAnswer w (h ∷ []) r
first-one w h least r is e = subst (IsAnswer w (h ∷ [])) (sym e) (by least is)
  where
    by : (o : Option HeldFault) → IsLeastFault (knows w) h.1 o → IsAnswer w (h ∷ []) (option_map (fault_of h.0) o)
    by None all = (all, tt)
    by (Some f) found = record {
      place = 0;
      holder = h.0;
      ids = h.1;
      fault = f;
      there = refl;
      before = tt;
      least = found;
      is = refl;
    }

-- a fault of holders is that of them and others behind them
pub first-before : (w : World) (hs ks : List Held) (f : WorldFault) → IsFirstFault w hs f → IsFirstFault w (hs ++ ks) f
first-before w hs ks f is = record {
  place = is.place;
  holder = is.holder;
  ids = is.ids;
  fault = is.fault;
  there = there hs is.place is.there;
  before = before hs is.place is.there is.before;
  least = is.least;
  is = is.is;
}
  where
    there : (xs : List Held) (n : ℕ) → slice_get xs n ≡ Some (is.holder, is.ids) → slice_get (xs ++ ks) n ≡ Some (is.holder, is.ids)
    there [] n e = cc
    there (x ∷ xs) zero e = e
    there (x ∷ xs) (suc n) e = there xs n e

    before : (xs : List Held) (n : ℕ) → slice_get xs n ≡ Some (is.holder, is.ids) → AllByRecursion (AllKnown w) (take n xs) → AllByRecursion (AllKnown w) (take n (xs ++ ks))
    before [] n e all = cc
    before (x ∷ xs) zero e all = tt
    before (x ∷ xs) (suc n) e all = (all.0, before xs n e all.1)

-- behind holders without a fault that of the others
pub first-behind : (w : World) (hs ks : List Held) (r : Option WorldFault) → AllByRecursion (AllKnown w) hs → IsAnswer w ks r → IsAnswer w (hs ++ ks) r
first-behind w [] ks r all is = is
first-behind w (h ∷ hs) ks r all is = next r (first-behind w hs ks r all.1 is)
  where
    next : (r : Option WorldFault) → IsAnswer w (hs ++ ks) r → IsAnswer w (h ∷ (hs ++ ks)) r
    next None rest = (all.0, rest)
    next (Some f) rest = record {
      place = suc rest.place;
      holder = rest.holder;
      ids = rest.ids;
      fault = rest.fault;
      there = rest.there;
      before = (all.0, rest.before);
      least = rest.least;
      is = rest.is;
    }

-- the entry of number i stands before those behind it
pub drop-entry : {X : Type 0} (xs : List X) (i : ℕ) (x y : X) → i < length xs → y ≡ get_or xs i x → drop i xs ≡ y ∷ drop (i + 1) xs
drop-entry xs i x y l is = rw (add-one, drop-cons xs i x, ← is)

-- a walk over holders ends at one with a fault, and goes on behind one without
pub walk-ends : (w : World) {ls hs : List Held} {h : Held} {f : WorldFault} → ls ≡ h ∷ hs → IsFirstFault w (h ∷ []) f → IsFirstFault w ls f
walk-ends w {hs = hs} {h = h} {f = f} e is = subst (λ xs. IsFirstFault w xs f) (sym e) (first-before w (h ∷ []) hs f is)

pub walk-goes_on : (w : World) {ls hs : List Held} {h : Held} → ls ≡ h ∷ hs → AllByRecursion (AllKnown w) (h ∷ []) → (r : Option WorldFault) → IsAnswer w hs r → IsAnswer w ls r
walk-goes_on w {hs = hs} {h = h} e all r is = subst (λ xs. IsAnswer w xs r) (sym e) (first-behind w (h ∷ []) hs r all is)

-- where there is a least fault, not each id is the world's
missing : (w : World) (hs : List HeldId) (f : HeldFault) → IsLeast (knows w) hs f → KnowsAll w hs → ⊥
missing w hs f is all =
    let one : knows w is.held ≡ true = All-contains (λ (h : HeldId). knows w h ≡ true) hs is.held (All-from_recursion (λ (h : HeldId). knows w h ≡ true) hs all) is.among in
    true≢false (sym one ∙ is.unknown)

unchecked : (w : World) (hs : List Held) (f : WorldFault) → IsFirstFault w hs f → AllByRecursion (AllKnown w) hs → ⊥
unchecked w hs f is all = missing w is.ids is.fault is.least (all-get (AllKnown w) hs is.place (is.holder, is.ids) all is.there)

-- holders have no first fault exactly where each id is the world's
pub none-checked : (w : World) (hs : List Held) (r : Option WorldFault) → IsAnswer w hs r → IsNone r ↔ AllByRecursion (AllKnown w) hs
none-checked w hs None all = (λ n. all, λ k. refl)
none-checked w hs (Some f) is = (λ n. absurd (true≢false n), λ all. absurd (unchecked w hs f is all))

-- a list has no least fault exactly where each of its ids is the world's
pub known-by : (w v : World) (hs : List HeldId) (least : Option HeldFault) (r : Bool) → v ≡ w → IsLeastFault (knows v) hs least → is_some least ≡ not r → IsTrue r ↔ KnowsAll w hs
known-by w v hs least r same is none = by least r (subst (λ x. IsLeastFault (knows x) hs least) same is) none
  where
    by : (o : Option HeldFault) (t : Bool) → IsLeastFault (knows w) hs o → is_some o ≡ not t → IsTrue t ↔ KnowsAll w hs
    by None true found e = (λ t. found, λ k. refl)
    by None false found e = cc
    by (Some f) true found e = cc
    by (Some f) false found e = (λ t. absurd (true≢false (sym t)), λ all. absurd (missing w hs f found all))
