-- The least fault of lists in a row, and of the ids looked at one after the other.
use Rattle.std.proofs.Common.{◌≡◌, Bool, true, false, cond, List, [], ◌∷◌, ◌++◌, refl, sym, subst, inl, inr, ◌⊎◌, Option, None, Some, append_assoc, append-nil}
use Rattle.std.specs.List.{fold, AllByRecursion}
use Rattle.std.proofs.lemmas.List.Elements.{Contains-append_left, Contains-append_right, Contains-push}
use Rattle.dm_maps.specs.declared.check.held.HeldId.{HeldId}
use Rattle.dm_maps.specs.declared.check.held.HeldFault.{HeldFault}
use Rattle.dm_maps.specs.Held.{noted, lesser, comes_before, fault_at, IsLeast, IsLeastFault, IsJoined}
use Rattle.dm_maps.proofs.Order.{comes_before-irrefl, comes_before-later, comes_before-other}

all-append : {X : Type 0} (P : X → Type 0) (xs ys : List X) → AllByRecursion P xs → AllByRecursion P ys → AllByRecursion P (xs ++ ys)
all-append P [] ys h g = g
all-append P (x ∷ xs) ys h g = (h.0, all-append P xs ys h.1 g)

all-weaker : {X : Type 0} (P Q : X → Type 0) → ((x : X) → P x → Q x) → (xs : List X) → AllByRecursion P xs → AllByRecursion Q xs
all-weaker P Q f [] h = tt
all-weaker P Q f (x ∷ xs) h = (f x h.0, all-weaker P Q f xs h.1)

module _ (knows : HeldId → Bool) where
  abbrev Known : HeldId → Type 0
  Known h = knows h ≡ true

  abbrev NotBefore : HeldFault → HeldId → Type 0
  NotBefore f h = (knows h ≡ true) ⊎ (comes_before (fault_at h) f ≡ false)

  none-before : (f : HeldFault) (hs : List HeldId) → AllByRecursion Known hs → AllByRecursion (NotBefore f) hs
  none-before f hs = all-weaker Known (NotBefore f) (λ x k. inl k) hs

  -- a fault of either list that none of both comes before
  from_left : (hs ks : List HeldId) (f : HeldFault) → IsLeast knows hs f → AllByRecursion (NotBefore f) ks → IsLeast knows (hs ++ ks) f
  from_left hs ks f is rest = record {
    held = is.held;
    among = Contains-append_left hs ks is.held is.among;
    unknown = is.unknown;
    is = is.is;
    least = all-append (NotBefore f) hs ks is.least rest;
  }

  from_right : (hs ks : List HeldId) (f : HeldFault) → AllByRecursion (NotBefore f) hs → IsLeast knows ks f → IsLeast knows (hs ++ ks) f
  from_right hs ks f rest is = record {
    held = is.held;
    among = Contains-append_right hs ks is.held is.among;
    unknown = is.unknown;
    is = is.is;
    least = all-append (NotBefore f) hs ks rest is.least;
  }

  pub IsLeastFault-lesser : (hs ks : List HeldId) (a b : Option HeldFault) → IsLeastFault knows hs a → IsLeastFault knows ks b → IsLeastFault knows (hs ++ ks) (lesser a b)
  IsLeastFault-lesser hs ks None None is rest = all-append Known hs ks is rest
  IsLeastFault-lesser hs ks None (Some b) is rest = from_right hs ks b (none-before b hs is) rest
  IsLeastFault-lesser hs ks (Some a) None is rest = from_left hs ks a is (none-before a ks rest)
  IsLeastFault-lesser hs ks (Some a) (Some b) is rest = by (comes_before b a) refl
    where
      after : (x y : HeldFault) → ((h : HeldFault) → comes_before h y ≡ false → comes_before h x ≡ false) → (h : HeldId) → NotBefore y h → NotBefore x h
      after x y f h (inl k) = inl k
      after x y f h (inr e) = inr (f (fault_at h) e)

      by : (t : Bool) → comes_before b a ≡ t → IsLeastFault knows (hs ++ ks) (cond t (Some b) (Some a))
      by true e = from_right hs ks b (all-weaker (NotBefore a) (NotBefore b) (after b a (λ h g. comes_before-later h b a e g)) hs is.least) rest
      by false e = from_left hs ks a is (all-weaker (NotBefore b) (NotBefore a) (after a b (λ h g. comes_before-other h b a e g)) ks rest.least)

  -- of one id
  IsLeastFault-one : (h : HeldId) (r : Option HeldFault) (hs : List HeldId) → IsLeastFault knows hs r → IsLeastFault knows (hs ++ h ∷ []) (noted knows r h)
  IsLeastFault-one h r hs is = by (knows h) refl
    where
      alone : knows h ≡ false → IsLeast knows (h ∷ []) (fault_at h)
      alone e = record {
        held = h;
        among = Contains-push [] h;
        unknown = e;
        is = refl;
        least = (inr (comes_before-irrefl (fault_at h)), tt);
      }

      known : (r : Option HeldFault) → knows h ≡ true → IsLeastFault knows hs r → IsLeastFault knows (hs ++ h ∷ []) r
      known None e is = all-append Known hs (h ∷ []) is (e, tt)
      known (Some f) e is = from_left hs (h ∷ []) f is (inl e, tt)

      by : (t : Bool) → knows h ≡ t → IsLeastFault knows (hs ++ h ∷ []) (cond t r (lesser r (Some (fault_at h))))
      by true e = known r e is
      by false e = IsLeastFault-lesser hs (h ∷ []) r (Some (fault_at h)) is (alone e)

  IsLeastFault-fold : (ks hs : List HeldId) (r : Option HeldFault) → IsLeastFault knows ks r → IsLeastFault knows (ks ++ hs) (fold (noted knows) r hs)
  IsLeastFault-fold ks [] r is = subst (λ l. IsLeastFault knows l r) (sym (append-nil ks)) is
  IsLeastFault-fold ks (h ∷ hs) r is =
      subst (λ l. IsLeastFault knows l (fold (noted knows) (noted knows r h) hs)) (append_assoc ks (h ∷ []) hs)
      (IsLeastFault-fold (ks ++ h ∷ []) hs (noted knows r h) (IsLeastFault-one h r ks is))

  -- what is found by looking at each id of a list is its least fault
  pub least-found : (hs : List HeldId) (r : Option HeldFault) → r ≡ fold (noted knows) None hs → IsLeastFault knows hs r
  least-found hs r e = subst (IsLeastFault knows hs) (sym e) (IsLeastFault-fold [] hs None tt)

pub joined-lesser : (a b r : Option HeldFault) → r ≡ lesser a b → IsJoined a b r
joined-lesser a b r e knows hs ks is rest = subst (IsLeastFault knows (hs ++ ks)) (sym e) (IsLeastFault-lesser knows hs ks a b is rest)
